use Rattle.jn_origins.specs.Leading.{AreKnownBelow}
use Rattle.jn_origins.proofs.bodies.find_known.Given as goal

abbrev pub invariant-loop-body : goal.invariant-loop-body
invariant-loop-body l = AreKnownBelow l.program l.body l.bodies.items
