use Rattle.jn_script.proofs.Cutting.{NoneBefore}
use Rattle.jn_script.proofs.lines.first_of.Given as goal

abbrev pub invariant-loop-at : goal.invariant-loop-at
invariant-loop-at l = NoneBefore l.separator l.text l.at
