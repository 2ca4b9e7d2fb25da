use Rattle.std.proofs.Common.{◌≡◌, ◌++◌}
use Rattle.jn_points.specs.BaseRows.{argument_rows}
use Rattle.jn_basecheck.proofs.types.push_arguments.Given as goal

abbrev pub invariant-loop-param : goal.invariant-loop-param
invariant-loop-param l = l.rows.items ++ argument_rows l.program l.body l.param-iterator.a.rest.now l.param-iterator.b.rest.now ≡ l.fn.rows.items ++ argument_rows l.program l.body l.params l.arguments
