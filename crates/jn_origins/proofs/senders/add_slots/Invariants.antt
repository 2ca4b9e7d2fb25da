use Rattle.std.proofs.Common.{take}
use Rattle.jn_origins.specs.Targets.{Added, slots_list}
use Rattle.jn_origins.proofs.senders.add_slots.Given as goal

abbrev pub invariant-loop-slot : goal.invariant-loop-slot
invariant-loop-slot l = Added l.program l.body.0 (slots_list (take l.slot-index l.slots)) l.fn.lists.items l.lists.items
