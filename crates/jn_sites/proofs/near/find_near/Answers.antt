use Rattle.std.proofs.Common.{◌<◌, ◌≤◌, length, arith}
use Rattle.jn_sites.proofs.Nearing.{near_more, near_done}
use Rattle.jn_sites.proofs.near.find_near.Goals as goal

pub loop-overrider-preserved : goal.loop-overrider-preserved
loop-overrider-preserved c =
    let lt : c.loop-overrider.overrider-index < length c.args.overriders.now = omega (arith, c.loop-overrider-test.true) in
    near_more c.args.program.now c.args.overriders.now c.loop-overrider.overrider-index c.overrider-item.result c.overrider-item.result c.loop-overrider.sites c.mark.new.sites lt c.overrider-item.is c.loop-overrider.invariant c.in_ok-mark.ensures

pub returns : goal.returns
returns c =
    let le : length c.args.overriders.now ≤ c.loop-overrider.overrider-index = omega (arith, c.loop-overrider-test.false) in
    near_done c.args.program.now c.args.overriders.now c.loop-overrider.overrider-index c.loop-overrider.sites le c.loop-overrider.invariant
