use Rattle.std.proofs.Common.{take}
use Rattle.jn_worklist.specs.Plans.{ArePlanned}
use Rattle.jn_worklist.proofs.planning.add_readers.Given as goal

abbrev pub invariant-loop-word : goal.invariant-loop-word
invariant-loop-word g l = ArePlanned (g.C.Constraints.describe l.system) l.body (take l.word-index l.words) l.readers
