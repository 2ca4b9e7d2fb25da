use Rattle.jn_again.proofs.Turns.{EqualBelow}
use Rattle.jn_again.proofs.changed.same_overriders.Given as goal

abbrev pub invariant-loop-at : goal.invariant-loop-at
invariant-loop-at l = EqualBelow l.at l.one l.other
