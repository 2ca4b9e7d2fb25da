use Rattle.std.proofs.Common.{◌≡◌, drop}
use Rattle.jn_points.specs.Members.{some_of}
use Rattle.jn_annotate.specs.Taken as spec
use Rattle.jn_annotate.proofs.taken.is_of_field.Given as goal

abbrev pub invariant-loop-field : goal.invariant-loop-field
invariant-loop-field l = some_of (spec.is_of_field l.slot) l.fields ≡ some_of (spec.is_of_field l.slot) (drop l.field-index l.fields)
