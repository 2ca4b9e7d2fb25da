use Rattle.std.proofs.Common.{◌≡◌, drop}
use Rattle.jn_phase_notes.specs.Others.{first_passing, has_abstract}
use Rattle.jn_phase_notes.proofs.members.lacking_of.Given as goal

abbrev pub invariant-loop-m : goal.invariant-loop-m
invariant-loop-m l = first_passing (has_abstract l.program l.class.0) l.m (drop l.m l.program.methods) ≡ first_passing (has_abstract l.program l.class.0) 0 l.program.methods
