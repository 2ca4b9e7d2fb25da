use Rattle.std.proofs.Common.{◌≡◌, ◌||◌, drop}
use Rattle.jn_inference_law.specs.Reading.{has_word, slot_lists}
use Rattle.jn_system.proofs.reading.some_in.Given as goal

abbrev pub invariant-loop-slot : goal.invariant-loop-slot
invariant-loop-slot l = (l.some || has_word l.word (slot_lists (drop l.slot-index l.slots))) ≡ has_word l.word (slot_lists l.slots)
