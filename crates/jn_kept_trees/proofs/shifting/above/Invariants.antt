use Rattle.std.proofs.Common.{◌<◌, ℕ}
use Rattle.std.specs.Prelude.{get_or}
use Rattle.jn_base.specs.declared.number.NameNo.{NameNo}
use Rattle.jn_kept_trees.proofs.shifting.above.Given as goal

abbrev pub invariant-loop-at : goal.invariant-loop-at
invariant-loop-at l = (i : ℕ) (d : NameNo) → i < l.at → (get_or l.numbers i d).0 < l.size
