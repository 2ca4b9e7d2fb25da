use Rattle.std.proofs.Common.{◌≡◌, drop}
use Rattle.jn_points.specs.Members.{first_at}
use Rattle.jn_notes.specs.Asked.{same_span}
use Rattle.jn_phase_notes.specs.Others.{method_there}
use Rattle.jn_phase_notes.proofs.places.method_there.Given as goal

abbrev pub invariant-loop-m : goal.invariant-loop-m
invariant-loop-m l = first_at (λ x. same_span x.span l.span) l.m (drop l.m l.methods) ≡ method_there l.span l.methods
