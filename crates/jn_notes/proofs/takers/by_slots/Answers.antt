use Rattle.std.proofs.Common.{arith}
use Rattle.jn_sigs.specs.Signature.{slot_quals}
use Rattle.jn_notes.proofs.Finding.{passed_done}
use Rattle.jn_notes.specs.Spoken.{by_passes, pass_args}
use Rattle.jn_notes.proofs.takers.by_slots.Goals as goal

pub returns : goal.returns
returns c =
    let q = c.args.sought in
    let e = c.args.env.now in
    passed_done q e c.args.sig.now c.args.method.0 c.args.slots.now c.args.args.now c.loop-i.i c.least-i-end.result (by_passes q e (pass_args c.args.method.0 0 (slot_quals c.args.sig.now c.args.slots.now) c.args.args.now)) (omega (arith, c.loop-i-test.false)) c.least-i-end.ensures.one c.loop-i.invariant
