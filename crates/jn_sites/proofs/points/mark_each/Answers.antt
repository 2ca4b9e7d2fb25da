use Rattle.std.proofs.Common.{◌<◌, length, arith}
use Rattle.jn_reasons.specs.declared.sources.Spot.{Spot}
use Rattle.jn_sites.proofs.Marking.{value_more, values_done}
use Rattle.jn_sites.proofs.Siting.{nothing}
use Rattle.jn_sites.proofs.points.mark_each.Goals as goal

pub loop-value-preserved : goal.loop-value-preserved
loop-value-preserved c =
    let lt : c.loop-value.value-index < length c.args.values.now = omega (arith, c.loop-value-test.true) in
    value_more c.args.spot c.args.values.now c.loop-value.value-index _ c.args.sites.now c.loop-value.sites c.put.new.self lt c.loop-value.invariant c.in_ok-put.ensures
