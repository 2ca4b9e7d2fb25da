use Rattle.jn_basecheck.specs.Rows.{Adds, Among, TypeRowAt}
use Rattle.jn_basecheck.proofs.points.push_body_types.Given as goal

abbrev pub invariant-loop-at : goal.invariant-loop-at
invariant-loop-at l = Adds (Among (TypeRowAt l.program l.body) l.at) l.fn.rows.items l.rows.items
