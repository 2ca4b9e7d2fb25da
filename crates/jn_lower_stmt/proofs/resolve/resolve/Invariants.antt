use Rattle.std.proofs.Common.{◌≡◌}
use Rattle.jn_lower_expr.specs.Labels.{given, resolved}
use Rattle.jn_lower_stmt.proofs.resolve.resolve.Given as goal

abbrev pub invariant-loop-point : goal.invariant-loop-point
invariant-loop-point l = l.out.items ≡ resolved (given l.labels) l.yielded
