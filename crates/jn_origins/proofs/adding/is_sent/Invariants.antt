use Rattle.std.proofs.Common.{◌≡◌, drop}
use Rattle.jn_reasons.specs.Listed.{is_sent}
use Rattle.jn_origins.proofs.adding.is_sent.Given as goal

abbrev pub invariant-loop-send : goal.invariant-loop-send
invariant-loop-send l = is_sent l.slot.0 l.bit (drop l.send-index l.sends) ≡ is_sent l.slot.0 l.bit l.sends
