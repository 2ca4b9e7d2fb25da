use Rattle.std.specs.Prelude.{[], ◌-◌, ◌^◌}
use Rattle.jn_chain.specs.Keys.{rest_of}
use Rattle.jn_chain.specs.Search.{AreLevels, AreSeen}
use Rattle.jn_chain.proofs.levels.find_levels.Given as goal

abbrev pub invariant-loop-at : goal.invariant-loop-at
invariant-loop-at g l = AreLevels (g.O.Origins.describe l.origins) (rest_of l.chains) l.levels.items l.fn.item l.at l.best × AreSeen l.seen l.levels.items []

abbrev pub decreases-loop-at : goal.decreases-loop-at
decreases-loop-at g l = 2 ^ 64 - l.at
