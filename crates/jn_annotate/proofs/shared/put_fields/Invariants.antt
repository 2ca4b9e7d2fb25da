use Rattle.std.proofs.Common.{◌≡◌, ◌++◌, drop}
use Rattle.jn_annotate.specs.Shared as spec
use Rattle.jn_annotate.proofs.shared.put_fields.Given as goal

abbrev pub invariant-loop-field : goal.invariant-loop-field
invariant-loop-field l = l.slots.items ++ spec.off_slots l.program l.sig l.first (drop l.field-index l.fields) ≡ l.fn.slots.items ++ spec.off_slots l.program l.sig l.first l.fields
