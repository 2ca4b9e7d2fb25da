use Rattle.std.proofs.Common.{◌≡◌, length}
use Rattle.jn_kept_trees.proofs.shifting.zeros.Given as goal

abbrev pub invariant-loop-at : goal.invariant-loop-at
invariant-loop-at l = length l.zeros.items ≡ l._at
