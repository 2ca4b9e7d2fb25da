use Rattle.std.proofs.Common.{refl}
use Rattle.std.specs.Prelude.{slice_index}
use Rattle.jn_recheck_law.specs.RuleReads.{field_slots, fields_slots}
use Rattle.jn_again.proofs.Clear.{LeftClear}
use Rattle.jn_again.proofs.slots.off_fields.Given as goal

abbrev pub invariant-loop-at : goal.invariant-loop-at
invariant-loop-at l = LeftClear (slice_index l.bits) (fields_slots l.program) (field_slots l.program) (λ x xs. refl) l.fields l.at
