use Rattle.std.proofs.Common.{◌<◌, length, subst, arith}
use Rattle.jn_points.specs.declared.point.Point.{Point}
use Rattle.jn_origins.specs.Targets.{Added, targets}
use Rattle.jn_origins.proofs.Sending.{points_more}
use Rattle.jn_origins.proofs.senders.add_points.Goals as goal

pub loop-point-preserved : goal.loop-point-preserved
loop-point-preserved c =
    let P = c.args.program.now in
    let b = c.args.body.0 in
    let old = c.loop-point.lists.items in
    let new = c.add_kind.new.lists.items in
    let lt : c.loop-point.point-index < length c.args.points.now = omega (arith, c.loop-point-test.true) in
    points_more P b c.args.points.now c.loop-point.point-index c.point-item.result c.args.lists.now.items old new lt c.loop-point.invariant
    (subst (λ (pt : Point). Added P b (targets P b pt.kind) old new) c.point-item.is c.in_ok-add_kind.ensures)
