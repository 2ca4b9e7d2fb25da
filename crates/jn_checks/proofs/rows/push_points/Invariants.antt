use Rattle.std.proofs.Common.{◌≡◌, ◌++◌, drop}
use Rattle.jn_transfer.specs.Rules.{rows_from}
use Rattle.jn_checks.proofs.rows.push_points.Given as goal

abbrev pub invariant-loop-at : goal.invariant-loop-at
invariant-loop-at l = l.rows.items ++ rows_from l.program l.sig l.fn.body.0 (drop l.at l.points) l.at l.slots ≡ l.fn.rows.items ++ rows_from l.program l.sig l.fn.body.0 l.points 0 l.slots
