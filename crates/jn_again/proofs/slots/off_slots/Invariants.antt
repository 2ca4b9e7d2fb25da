use Rattle.std.proofs.Common.{refl}
use Rattle.std.specs.Prelude.{slice_index}
use Rattle.jn_recheck_law.specs.Slots.{slot_list, slot_lists}
use Rattle.jn_again.proofs.Clear.{LeftClear}
use Rattle.jn_again.proofs.slots.off_slots.Given as goal

abbrev pub invariant-loop-at : goal.invariant-loop-at
invariant-loop-at l = LeftClear (slice_index l.bits) slot_lists slot_list (λ x xs. refl) l.slots l.at
