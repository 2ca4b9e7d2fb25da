use Rattle.std.proofs.Common.{◌<◌, length, arith}
use Rattle.jn_reasons.specs.Listed.{carried}
use Rattle.jn_origins.proofs.Sending.{over_more}
use Rattle.jn_origins.proofs.registers.add_jumps.Goals as goal

pub loop-from-preserved : goal.loop-from-preserved
loop-from-preserved c =
    let lt : c.loop-from.from-index < length c.args.jumps.now = omega (arith, c.loop-from-test.true) in
    over_more (carried c.args.of.now.program c.args.of.now.sig c.args.of.now.body c.args.of.now.table c.args.wanted.point.0 c.args.wanted.reg.0 c.args.wanted.bit) c.args.jumps.now c.loop-from.from-index _ c.args.list.now.items c.loop-from.list.items c.add_at.new.list.items lt c.in_ok-add_at.ensures c.loop-from.invariant
