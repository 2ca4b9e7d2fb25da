use Rattle.std.proofs.Common.{[]}
use Rattle.jn_worklist.specs.Plans.{ArePlanned}
use Rattle.jn_worklist.proofs.planning.all_readers.Given as goal

abbrev pub invariant-loop-body : goal.invariant-loop-body
invariant-loop-body g l = ArePlanned (g.C.Constraints.describe l.system) l.body [] l.readers.items
