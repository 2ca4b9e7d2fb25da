use Rattle.std.proofs.Common.{◌≡◌, ◌++◌, drop}
use Rattle.jn_dataflow.specs.Problem.{slot_at}
use Rattle.jn_basecheck.specs.Rows.{readings}
use Rattle.jn_basecheck.proofs.assigned.push_list_readings.Given as goal

abbrev pub invariant-loop-operand : goal.invariant-loop-operand
invariant-loop-operand l = l.rows.items ++ readings l.program l.body (slot_at l.unwritten l.at) (drop l.operand-index l.operands) ≡ l.fn.rows.items ++ readings l.program l.body (slot_at l.unwritten l.at) l.operands
