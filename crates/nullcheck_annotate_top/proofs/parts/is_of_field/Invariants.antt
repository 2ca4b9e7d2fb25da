use Rattle.std.proofs.Common.{◌≡◌, drop}
use Rattle.jn_points.specs.Members.{some_of}
use Rattle.jn_sigs.specs.Signature.{is_slot}
use Rattle.jn_points.specs.declared.program.Field.{Field}
use Rattle.nullcheck_annotate_top.proofs.parts.is_of_field.Given as goal

abbrev pub invariant-loop-field : goal.invariant-loop-field
invariant-loop-field l = some_of (λ (f : Field). is_slot l.slot f.slot) l.fields ≡ some_of (λ (f : Field). is_slot l.slot f.slot) (drop l.field-index l.fields)
