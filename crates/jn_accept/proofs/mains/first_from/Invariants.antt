use Rattle.jn_accept.specs.Mains.{NoneBetween}
use Rattle.jn_accept.proofs.mains.first_from.Given as goal

abbrev pub invariant-loop-number : goal.invariant-loop-number
invariant-loop-number l = NoneBetween l.program l.place l.number
