use Rattle.jn_origins.specs.Leading.{AreJumpsBelow}
use Rattle.jn_origins.proofs.bodies.find_jumps.Given as goal

abbrev pub invariant-loop-at : goal.invariant-loop-at
invariant-loop-at l = AreJumpsBelow l.at l.body.points l.lists.items
