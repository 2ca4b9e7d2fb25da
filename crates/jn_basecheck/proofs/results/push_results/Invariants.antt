use Rattle.jn_basecheck.specs.Rows.{Adds, Among, ResultRowAt}
use Rattle.jn_basecheck.proofs.results.push_results.Given as goal

abbrev pub invariant-loop-at : goal.invariant-loop-at
invariant-loop-at l = Adds (Among (ResultRowAt l.program l.body) l.at) l.fn.rows.items l.rows.items
