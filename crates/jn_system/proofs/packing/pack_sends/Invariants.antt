use Rattle.std.proofs.Common.{◌≡◌, drop}
use Rattle.jn_contrib.specs.Sends.{slot_numbers}
use Rattle.jn_inference_law.specs.Packing.{pack_onto, packed}
use Rattle.jn_system.proofs.packing.pack_sends.Given as goal

abbrev pub invariant-loop-slot : goal.invariant-loop-slot
invariant-loop-slot l = pack_onto l.outputs.items (slot_numbers (drop l.slot-index l.sends)) ≡ packed (slot_numbers l.sends)
