use Rattle.std.proofs.Common.{◌≡◌, ℕ, List, [], ◌∷◌, ap, ◌∙◌}
use Rattle.jn_sigtable.specs.System.{least}
use Rattle.jn_sigtable.specs.Words.{started_at}
use Rattle.jn_workers.proofs.ScanFacts.{whole_back}
use Rattle.jn_workers.proofs.solving.solve.Goals as goal

pub returns-in-Emptied : goal.returns-in-Emptied
returns-in-Emptied g c =
    let d = g.C.Constraints.describe in
    let n = c.in_ok-table.ensures in
    let s = c.spread-pass.ensures in
    let e = c.in_ok-words.ensures in
    let share : c.in_ok-table.pass.seat.me.0.share ≡ 0 ∷ [] = ap (λ x. x.share) n.view in
    let whole = whole_back c.spread-pass.result.0.seat.me.0 c.in_ok-table.pass.seat.me.0 share s.share in
    e.least (whole, s.idle, s.emptied c.in-Emptied.is)
    ∙ (ap (λ x. least (d x) (started_at d c.in_ok-table.table)) n.system ∙ ap (λ (l : List ℕ). least (d c.args.system) l) n.start)
