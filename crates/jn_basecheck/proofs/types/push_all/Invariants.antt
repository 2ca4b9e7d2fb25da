use Rattle.std.proofs.Common.{◌≡◌, ◌++◌, drop}
use Rattle.jn_points.specs.BaseRows.{all_rows}
use Rattle.jn_basecheck.specs.Wanted.{meant}
use Rattle.jn_basecheck.proofs.types.push_all.Given as goal

abbrev pub invariant-loop-operand : goal.invariant-loop-operand
invariant-loop-operand l = l.rows.items ++ all_rows l.program l.body (meant l.want) (drop l.operand-index l.operands) ≡ l.fn.rows.items ++ all_rows l.program l.body (meant l.want) l.operands
