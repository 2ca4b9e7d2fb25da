use Rattle.std.proofs.Common.{take, []}
use Rattle.jn_chain.specs.Keys.{rest_of}
use Rattle.jn_chain.specs.Search.{AreMet, AreSeen, IsReached}
use Rattle.jn_chain.proofs.levels.next_level.Given as goal

abbrev pub invariant-loop-source : goal.invariant-loop-source
invariant-loop-source g l = AreMet (rest_of l.chains) l.levels l.depth (IsReached (g.O.Origins.describe l.origins) (take l.source-index l.last)) [] l.next.items l.fn.best l.least × AreSeen l.seen l.levels l.next.items
