use Rattle.std.proofs.Common.{◌≡◌, drop}
use Rattle.nullcheck_cert_check.specs.Lines.{field_span}
use Rattle.nullcheck_cert_check.proofs.lines.field_span.Given as goal

abbrev pub invariant-loop-field : goal.invariant-loop-field
invariant-loop-field l = field_span l.number (drop l.field-index l.fields) ≡ field_span l.number l.fields
