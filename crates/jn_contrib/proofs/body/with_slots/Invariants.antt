use Rattle.std.proofs.Common.{◌≡◌}
use Rattle.jn_contrib.specs.Sends.{slot_numbers}
use Rattle.jn_contrib.proofs.body.with_slots.Given as goal

abbrev pub invariant-loop-slot : goal.invariant-loop-slot
invariant-loop-slot l = slot_numbers l.numbered.items ≡ l.yielded
