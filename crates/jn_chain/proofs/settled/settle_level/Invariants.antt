use Rattle.std.proofs.Common.{take}
use Rattle.jn_chain.specs.Keys.{rest_of}
use Rattle.jn_chain.specs.Search.{AreSettled}
use Rattle.jn_chain.proofs.settled.settle_level.Given as goal

abbrev pub invariant-loop-source : goal.invariant-loop-source
invariant-loop-source g l = AreSettled (g.O.Origins.describe l.origins) (take l.source-index l.level) l.left (rest_of l.fn.chains) (rest_of l.chains)
