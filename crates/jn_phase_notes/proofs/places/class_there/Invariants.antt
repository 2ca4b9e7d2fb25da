use Rattle.std.proofs.Common.{◌≡◌, drop}
use Rattle.jn_points.specs.Members.{first_at}
use Rattle.jn_notes.specs.Asked.{same_span}
use Rattle.jn_phase_notes.specs.Others.{class_there}
use Rattle.jn_phase_notes.proofs.places.class_there.Given as goal

abbrev pub invariant-loop-c : goal.invariant-loop-c
invariant-loop-c l = first_at (λ x. same_span x.span l.span) l.c (drop l.c l.classes) ≡ class_there l.span l.classes
