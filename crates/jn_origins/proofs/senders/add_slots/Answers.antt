use Rattle.std.proofs.Common.{◌<◌, length, arith}
use Rattle.jn_origins.proofs.Sending.{slots_more}
use Rattle.jn_origins.proofs.senders.add_slots.Goals as goal

pub loop-slot-preserved : goal.loop-slot-preserved
loop-slot-preserved c =
    let lt : c.loop-slot.slot-index < length c.args.slots.now = omega (arith, c.loop-slot-test.true) in
    slots_more c.args.program.now c.args.body.0 c.args.slots.now c.loop-slot.slot-index _ c.args.lists.now.items c.loop-slot.lists.items c.add_slot.new.lists.items lt c.loop-slot.invariant c.in_ok-add_slot.ensures
