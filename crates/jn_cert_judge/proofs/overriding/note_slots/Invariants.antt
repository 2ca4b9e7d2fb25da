use Rattle.std.proofs.Common.{◌≡◌, drop}
use Rattle.jn_contrib.specs.Sends.{slot_numbers}
use Rattle.jn_cert_judge.specs.Judging as spec
use Rattle.jn_cert_judge.proofs.overriding.note_slots.Given as goal

abbrev pub invariant-loop-slot : goal.invariant-loop-slot
invariant-loop-slot l = spec.note_all l.sig l.noted (slot_numbers (drop l.slot-index l.sends)) ≡ spec.note_all l.sig l.fn.least (slot_numbers l.sends)
