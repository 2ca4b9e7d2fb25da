use Rattle.std.proofs.Common.{◌≡◌, drop}
use Rattle.jn_points.specs.Members.{first_at}
use Rattle.jn_notes.specs.Asked.{same_span}
use Rattle.jn_phase_notes.specs.Others.{field_there}
use Rattle.jn_phase_notes.proofs.places.field_there.Given as goal

abbrev pub invariant-loop-f : goal.invariant-loop-f
invariant-loop-f l = first_at (λ x. same_span x.span l.span) l.f (drop l.f l.fields) ≡ field_there l.span l.fields
