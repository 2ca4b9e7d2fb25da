use Rattle.std.proofs.Common.{◌≡◌, ℕ, ◌+◌, ◌/◌, ◌++◌, List, map, [], Some, Option, sym, ap, ◌∙◌, subst, arith}
use Rattle.std.specs.List.{range_with_len}
use Rattle.atomic_table.specs.Table.{opening}
use Rattle.jn_sigtable.specs.Machine.{dirty_bits, described, first_view, opening_words, Holds}
use Rattle.jn_sigtable.specs.declared.view.Setting.{Setting}
use Rattle.jn_sigtable.proofs.OpenKept.{opens}
use Rattle.jn_sigtable.proofs.LeastWords.{least_is_least}
use Rattle.jn_sigtable.proofs.table.SigTable.new.Goals as goal

pub of_words-requires : goal.of_words-requires
of_words-requires g c =
    let k : Setting (Option g.row.C.Denot) = record { system = Some c.args.system; words = c.in_ok-all.all } in
    let items : c.in_ok-all.all.items ≡ opening_words (g.C.Constraints.describe c.args.system) c.args.start.now =
    c.in_ok-all.ensures.words ∙ ap (λ (n : ℕ). c.args.start.now ++ map (dirty_bits n) (range_with_len 0 ((n + 63) / 64))) c.bodies-bodies.ensures in
    let words : c.as_slice.result.now ≡ opening_words (g.C.Constraints.describe c.args.system) c.args.start.now = c.as_slice.ensures.value ∙ items in
    subst (λ (ws : List ℕ). Holds (described g.C.Constraints.describe) k (opening ws [] (first_view (described g.C.Constraints.describe) k))) (sym words)
    (opens (described g.C.Constraints.describe) k (g.met.C.Constraints.laws c.args.system) c.args.start.now c.requires.count items (least_is_least (g.C.Constraints.describe c.args.system) (g.met.C.Constraints.laws c.args.system) c.args.start.now c.requires.count (λ u. let f = c.type_inv.start u in omega arith)).closed)
