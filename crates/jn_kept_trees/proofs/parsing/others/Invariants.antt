use Rattle.std.proofs.Common.{◌≤◌}
use Rattle.jn_kept_trees.proofs.parsing.others.Given as goal

abbrev pub invariant-loop-at : goal.invariant-loop-at
invariant-loop-at l = l.count ≤ l.at
