use Rattle.std.proofs.Common.{arith}
use Rattle.jn_sigs.specs.Signature.{slot_quals}
use Rattle.jn_notes.proofs.Finding.{args_done}
use Rattle.jn_notes.specs.Asked.{by_asks}
use Rattle.jn_notes.specs.Asks.{ask_args}
use Rattle.jn_notes.proofs.reads.by_slots.Goals as goal

pub returns : goal.returns
returns c =
    let q = c.args.sought in
    let b = c.args.spot.body.0 in
    let p = c.args.spot.point.0 in
    let e = c.args.env.now in
    args_done q b p e c.args.sig.now c.args.slots.now c.args.args.now c.loop-i.i c.least-i-end.result (by_asks q b p e (ask_args (slot_quals c.args.sig.now c.args.slots.now) c.args.args.now)) (omega (arith, c.loop-i-test.false)) c.least-i-end.ensures.one c.loop-i.invariant
