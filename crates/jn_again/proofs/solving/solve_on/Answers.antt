use Rattle.std.proofs.Common.{ℕ, List, length, sym, ap, ◌∙◌, subst}
use Rattle.std.specs.Prelude.{slice_index}
use Rattle.jn_resume.specs.Keepable.{AreKeepable}
use Rattle.jn_again.specs.Losing.{told}
use Rattle.jn_again.proofs.solving.solve_on.Goals as goal

pub solve_without-requires-clause-count : goal.solve_without-requires-clause-count
solve_without-requires-clause-count g c = ap (λ (l : List ℕ). length l) c.as_slice.ensures.value ∙ c.in_ok-lost.ensures.count

pub solve_without-requires-clause-lost : goal.solve_without-requires-clause-lost
solve_without-requires-clause-lost g c = subst (λ (l : List ℕ). AreKeepable (g.C.Constraints.describe c.args.edit.now.old.now) (g.C.Constraints.describe c.args.edit.now.new.now) c.args.edit.now.before.now c.args.edit.now.start.now c.args.edit.now.last.now (told c.args.edit.now.changed.now) (slice_index l)) (sym c.as_slice.ensures.value) c.in_ok-lost.ensures.lost
