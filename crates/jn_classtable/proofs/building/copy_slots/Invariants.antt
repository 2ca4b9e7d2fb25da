use Rattle.std.proofs.Common.{◌≡◌, ◌++◌, drop}
use Rattle.jn_classtable.proofs.building.copy_slots.Given as goal

abbrev pub invariant-loop-slot : goal.invariant-loop-slot
invariant-loop-slot l = l.copy ++ drop l.slot-index l.slots ≡ l.slots
