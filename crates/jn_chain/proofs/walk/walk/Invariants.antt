use Rattle.jn_chain.specs.Keys.{rest_of}
use Rattle.jn_chain.proofs.Walks.{IsWalked}
use Rattle.jn_chain.proofs.walk.walk.Given as goal

abbrev pub invariant-loop-left : goal.invariant-loop-left
invariant-loop-left g l = IsWalked (g.O.Origins.describe l.origins) (rest_of l.chains) l.fn.item l.count l.left l.source l.steps.items

abbrev pub decreases-loop-left : goal.decreases-loop-left
decreases-loop-left g l = l.left
