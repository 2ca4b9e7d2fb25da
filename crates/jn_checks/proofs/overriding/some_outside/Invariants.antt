use Rattle.std.proofs.Common.{◌≡◌, ◌||◌, drop}
use Rattle.jn_sigs.specs.Signature.{slot_quals}
use Rattle.jn_transfer.specs.Rules as spec
use Rattle.jn_checks.proofs.overriding.some_outside.Given as goal

abbrev pub invariant-loop-i : goal.invariant-loop-i
invariant-loop-i l = (l.some || spec.some_outside (slot_quals l.sig (drop l.i l.under)) (slot_quals l.sig (drop l.i l.over))) ≡ spec.some_outside (slot_quals l.sig l.under) (slot_quals l.sig l.over)
