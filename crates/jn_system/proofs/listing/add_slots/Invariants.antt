use Rattle.std.proofs.Common.{List, drop}
use Rattle.jn_base.specs.declared.number.WordNo.{WordNo}
use Rattle.jn_inference_law.specs.Reading.{slot_lists}
use Rattle.jn_system.specs.ReadLists.{Adds}
use Rattle.jn_system.proofs.listing.add_slots.Given as goal

abbrev pub invariant-loop-slot : goal.invariant-loop-slot
invariant-loop-slot l = (last : List WordNo) → Adds l.count (slot_lists (drop l.slot-index l.slots)) l.list.items last → Adds l.count (slot_lists l.slots) l.fn.list.items last
