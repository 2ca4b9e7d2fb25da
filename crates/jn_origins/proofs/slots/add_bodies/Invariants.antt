use Rattle.std.proofs.Common.{◌≡◌, ◌++◌, [], take}
use Rattle.std.specs.Prelude.{slice_index_or}
use Rattle.jn_reasons.specs.Listed.{body_causes}
use Rattle.jn_origins.specs.Targets.{over}
use Rattle.jn_origins.proofs.slots.add_bodies.Given as goal

abbrev pub invariant-loop-sender : goal.invariant-loop-sender
invariant-loop-sender l = l.list.items ≡ l.fn.list.items ++ over (λ b. body_causes l.origins.program b (slice_index_or l.origins.tables b []) l.slot.0 l.bit) (take l.sender-index l.senders)
