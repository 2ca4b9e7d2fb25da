-- Programs of files without a row break no rule.
use Rattle.std.proofs.Common.{◌≡◌, ◌<◌, arith, List, [], ◌∷◌, length, refl, subst}
use Rattle.jn_base.specs.declared.place.Row.{Row}
use Rattle.jn_points.specs.declared.program.Program.{Program}
use Rattle.jn_transfer.specs.Rules.{Breaks}
use Rattle.jn_diag.specs.Order.{IsOrderOf}
use Rattle.jn_report.specs.Report.{RulesGive}
use Rattle.jn_safe_files.specs.Safe.{BreaksNone}

none_in_order : (broken : List Row) → IsOrderOf broken [] → broken ≡ []
none_in_order [] order = refl
none_in_order (row ∷ rows) order =
    let here : 0 < length (row ∷ rows) = omega arith in
    let there = (order.same row).1 (0, here, refl) in
    let below : there.0 < 0 = there.1 in
    absurd (omega arith)

pub breaks_none : (P : Program) → RulesGive P [] → BreaksNone P
breaks_none P rules = (rules.signature, rules.least, subst (λ rows. Breaks P rules.signature rows) (none_in_order rules.broken rules.order) rules.breaks)
