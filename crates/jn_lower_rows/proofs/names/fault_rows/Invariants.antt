use Rattle.std.proofs.Common.{◌≡◌, ◌++◌, ◌-◌, take, drop, length}
use Rattle.jn_lower_rows.proofs.names.fault_rows.Given as goal

abbrev pub invariant-loop-at : goal.invariant-loop-at
invariant-loop-at l = l.rows ++ take (l.faults.to - l.at) (drop l.at l.all) ≡ l.fn.rows ++ take (l.faults.to - l.faults.from) (drop l.faults.from l.all)

abbrev pub decreases-loop-at : goal.decreases-loop-at
decreases-loop-at l = length l.all - l.at
