use Rattle.std.proofs.Common.{◌<◌, [], length, arith}
use Rattle.std.specs.Prelude.{slice_index_or}
use Rattle.jn_reasons.specs.Listed.{body_causes}
use Rattle.jn_origins.proofs.Sending.{over_more}
use Rattle.jn_origins.proofs.slots.add_bodies.Goals as goal

pub loop-sender-preserved : goal.loop-sender-preserved
loop-sender-preserved c =
    let lt : c.loop-sender.sender-index < length c.args.senders.now = omega (arith, c.loop-sender-test.true) in
    over_more (λ b. body_causes c.args.origins.now.program b (slice_index_or c.args.origins.now.tables b []) c.args.slot.0 c.args.bit) c.args.senders.now c.loop-sender.sender-index _ c.args.list.now.items c.loop-sender.list.items c.add_any_body.new.list.items lt c.in_ok-add_any_body.ensures c.loop-sender.invariant
