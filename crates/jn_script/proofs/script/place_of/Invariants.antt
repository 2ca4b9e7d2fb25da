use Rattle.jn_script.proofs.Standing.{NotBefore}
use Rattle.jn_script.proofs.script.place_of.Given as goal

abbrev pub invariant-loop-at : goal.invariant-loop-at
invariant-loop-at l = NotBefore l.name l.names l.at
