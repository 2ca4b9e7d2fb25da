use Rattle.std.proofs.Common.{◌≡◌, drop, eqb}
use Rattle.jn_points.specs.declared.program.Class.{Class}
use Rattle.jn_points.specs.Members.{first_at}
use Rattle.jn_phase_notes.proofs.candidates.class_number.Given as goal

abbrev pub invariant-loop-c : goal.invariant-loop-c
invariant-loop-c l = first_at (λ (x : Class). eqb x.name.0 l.name.0) l.c (drop l.c l.classes) ≡ first_at (λ (x : Class). eqb x.name.0 l.name.0) 0 l.classes
