use Rattle.std.proofs.Common.{◌≡◌, drop}
use Rattle.nullcheck_annotate_top.specs.Places.{field_span}
use Rattle.nullcheck_annotate_top.proofs.faults.field_span.Given as goal

abbrev pub invariant-loop-field : goal.invariant-loop-field
invariant-loop-field l = field_span l.slot l.fields ≡ field_span l.slot (drop l.field-index l.fields)
