use Rattle.std.proofs.Common.{◌≡◌, drop}
use Rattle.jn_sigs.specs.Signature.{slot_quals}
use Rattle.jn_notes.specs.Spoken.{first_outside}
use Rattle.jn_notes.proofs.changes.first_outside.Given as goal

abbrev pub invariant-loop-i : goal.invariant-loop-i
invariant-loop-i l = first_outside l.method l.i (slot_quals l.sig (drop l.i l.lower)) (slot_quals l.sig (drop l.i l.over)) ≡ first_outside l.method 0 (slot_quals l.sig l.lower) (slot_quals l.sig l.over)
