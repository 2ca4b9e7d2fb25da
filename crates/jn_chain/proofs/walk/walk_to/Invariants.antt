use Rattle.std.proofs.Common.{◌≡◌, Some}
use Rattle.jn_chain.specs.Keys.{rest_of}
use Rattle.jn_chain.specs.Search.{IsPath, left_of}
use Rattle.jn_chain.proofs.walk.walk_to.Given as goal

abbrev pub invariant-loop-left : goal.invariant-loop-left
invariant-loop-left g l = (left_of (rest_of l.chains) l.source ≡ Some l.left) × IsPath (g.O.Origins.describe l.origins) (rest_of l.chains) (Some l.fn.item) l.steps.items l.source

abbrev pub decreases-loop-left : goal.decreases-loop-left
decreases-loop-left g l = l.left
