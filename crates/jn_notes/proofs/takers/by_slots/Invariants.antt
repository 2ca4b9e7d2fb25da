use Rattle.std.proofs.Common.{◌≡◌, drop}
use Rattle.jn_sigs.specs.Signature.{slot_quals}
use Rattle.jn_notes.specs.Spoken.{by_passes, pass_args}
use Rattle.jn_notes.proofs.takers.by_slots.Given as goal

abbrev pub invariant-loop-i : goal.invariant-loop-i
invariant-loop-i l = by_passes l.sought l.env (pass_args l.method.0 l.i (slot_quals l.sig (drop l.i l.slots)) (drop l.i l.args)) ≡ by_passes l.sought l.env (pass_args l.method.0 0 (slot_quals l.sig l.slots) l.args)
