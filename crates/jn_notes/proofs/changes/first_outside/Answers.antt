use Rattle.std.proofs.Common.{arith}
use Rattle.jn_sigs.specs.Signature.{slot_quals}
use Rattle.jn_notes.proofs.Finding.{outside_done}
use Rattle.jn_notes.specs.Spoken.{first_outside}
use Rattle.jn_notes.proofs.changes.first_outside.Goals as goal

pub returns : goal.returns
returns c =
    let s = c.args.sig.now in
    outside_done c.args.method s c.args.lower.now c.args.over.now c.loop-i.i c.least-i-end.result (first_outside c.args.method 0 (slot_quals s c.args.lower.now) (slot_quals s c.args.over.now)) (omega (arith, c.loop-i-test.false)) c.least-i-end.ensures.one c.loop-i.invariant
