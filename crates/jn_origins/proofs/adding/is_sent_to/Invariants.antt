use Rattle.std.proofs.Common.{◌≡◌, drop}
use Rattle.jn_contrib.specs.Sends.{slot_numbers}
use Rattle.jn_reasons.specs.Listed.{is_sent}
use Rattle.jn_origins.proofs.adding.is_sent_to.Given as goal

abbrev pub invariant-loop-send : goal.invariant-loop-send
invariant-loop-send l = is_sent l.slot.0 l.bit (slot_numbers (drop l.send-index l.sends)) ≡ is_sent l.slot.0 l.bit (slot_numbers l.sends)
