use Rattle.std.proofs.Common.{◌≡◌, ◌++◌, drop}
use Rattle.jn_sigs.specs.Signature.{slot_quals}
use Rattle.jn_transfer.proofs.entry.push_slots.Given as goal

abbrev pub invariant-loop-slot : goal.invariant-loop-slot
invariant-loop-slot l = l.quals.items ++ slot_quals l.sig (drop l.slot-index l.slots) ≡ l.fn.quals.items ++ slot_quals l.sig l.slots
