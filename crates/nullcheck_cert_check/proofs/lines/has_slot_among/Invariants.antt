use Rattle.std.proofs.Common.{◌≡◌, drop}
use Rattle.nullcheck_cert_check.specs.Lines.{has_slot_among}
use Rattle.nullcheck_cert_check.proofs.lines.has_slot_among.Given as goal

abbrev pub invariant-loop-slot : goal.invariant-loop-slot
invariant-loop-slot l = has_slot_among l.number (drop l.slot-index l.slots) ≡ has_slot_among l.number l.slots
