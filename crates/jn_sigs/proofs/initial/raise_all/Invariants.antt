use Rattle.jn_sigs.proofs.Starts.{Started}
use Rattle.jn_sigs.proofs.initial.raise_all.Given as goal

abbrev pub invariant-loop-i : goal.invariant-loop-i
invariant-loop-i l = Started l.program l.sig l.i
