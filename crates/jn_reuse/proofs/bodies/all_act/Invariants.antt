use Rattle.jn_recheck_law.specs.Alike.{SameKind}
use Rattle.jn_reuse.proofs.Turns.{LeftAlike}
use Rattle.jn_reuse.proofs.bodies.all_act.Given as goal

abbrev pub invariant-loop-at : goal.invariant-loop-at
invariant-loop-at l = LeftAlike SameKind l.one l.other l.at
