use Rattle.std.proofs.Common.{◌-◌, length}
use Rattle.jn_chain.specs.Keys.{rest_of}
use Rattle.jn_chain.specs.Search.{AreAllLevels, AreRests}
use Rattle.jn_chain.proofs.Settling.{IsDone}
use Rattle.jn_chain.proofs.settled.settle.Given as goal

abbrev pub invariant-loop-done : goal.invariant-loop-done
invariant-loop-done g l = (A : AreAllLevels (g.O.Origins.describe l.origins) (rest_of l.fn.chains) l.levels l.fn.item l.best) → (R : AreRests (g.O.Origins.describe l.origins) (rest_of l.fn.chains)) → IsDone (g.O.Origins.describe l.origins) (rest_of l.fn.chains) l.levels l.fn.item l.best A R (length l.levels - l.done) (rest_of l.chains)
