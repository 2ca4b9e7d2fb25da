use Rattle.jn_basecheck.specs.Rows.{Adds, Among, UnassignedAt}
use Rattle.jn_basecheck.proofs.assigned.push_unassigned.Given as goal

abbrev pub invariant-loop-at : goal.invariant-loop-at
invariant-loop-at l = Adds (Among (UnassignedAt l.program l.body) l.at) l.fn.rows.items l.rows.items
