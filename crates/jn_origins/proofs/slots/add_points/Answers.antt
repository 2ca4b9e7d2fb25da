use Rattle.std.proofs.Common.{◌<◌, length, arith}
use Rattle.jn_origins.proofs.Steps.{sent_more}
use Rattle.jn_origins.proofs.slots.add_points.Goals as goal

pub loop-at-preserved : goal.loop-at-preserved
loop-at-preserved c =
    let t = c.args.of.now in
    let points = c.points-points.result.now in
    let lt : c.loop-at.at < length points = omega (arith, c.loop-at-test.true) in
    sent_more t.program t.body t.table c.args.slot.0 c.args.bit points c.loop-at.at c.index-points-at.result c.args.list.now.items c.loop-at.list.items c.add_point.new.list.items c.points-points.ensures.are lt c.index-points-at.is c.in_ok-add_point.ensures c.loop-at.invariant
