use Rattle.std.proofs.Common.{◌≡◌, ◌+◌, drop}
use Rattle.jn_lowering.specs.Locals as spec
use Rattle.jn_places.specs.PlacedView.{placed_statements}
use Rattle.jn_lower_stmt.proofs.registers.+declared.Given as goal

abbrev pub invariant-all_declared-loop-tree : goal.invariant-all_declared-loop-tree
invariant-all_declared-loop-tree l = l.all + spec.all_declared (placed_statements (drop l.tree-index l.trees)) ≡ spec.all_declared (placed_statements l.trees)
