use Rattle.std.proofs.Common.{◌≡◌, drop}
use Rattle.jn_phase_notes.specs.Others.{clashes, first_passing}
use Rattle.jn_phase_notes.proofs.members.clashing_with.Given as goal

abbrev pub invariant-loop-k : goal.invariant-loop-k
invariant-loop-k l = first_passing (clashes l.program l.m l.over) l.k (drop l.k l.program.methods) ≡ first_passing (clashes l.program l.m l.over) 0 l.program.methods
