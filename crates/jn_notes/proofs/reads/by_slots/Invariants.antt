use Rattle.std.proofs.Common.{◌≡◌, drop}
use Rattle.jn_sigs.specs.Signature.{slot_quals}
use Rattle.jn_notes.specs.Asked.{by_asks}
use Rattle.jn_notes.specs.Asks.{ask_args}
use Rattle.jn_notes.proofs.reads.by_slots.Given as goal

abbrev pub invariant-loop-i : goal.invariant-loop-i
invariant-loop-i l = by_asks l.sought l.spot.body.0 l.spot.point.0 l.env (ask_args (slot_quals l.sig (drop l.i l.slots)) (drop l.i l.args)) ≡ by_asks l.sought l.spot.body.0 l.spot.point.0 l.env (ask_args (slot_quals l.sig l.slots) l.args)
