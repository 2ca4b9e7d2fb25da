use Rattle.std.proofs.Common.{◌<◌, length, arith}
use Rattle.jn_points.specs.Lookup.{point_at}
use Rattle.jn_reasons.specs.declared.sources.Spot.{Spot}
use Rattle.jn_sites.specs.Marks.{point_marks, spot_of}
use Rattle.jn_sites.proofs.Marking.{of_point}
use Rattle.jn_sites.proofs.Siting.{number_more}
use Rattle.jn_sites.proofs.points.mark_points.Goals as goal

pub loop-at-preserved : goal.loop-at-preserved
loop-at-preserved c =
    let P = c.args.program.now in
    let b = c.args.body.0 in
    let points = c.args.points.now in
    let lt : c.loop-at.at < length points = omega (arith, c.loop-at-test.true) in
    number_more Spot (λ p z. point_marks (spot_of b p) (point_at P b p) z) c.loop-at.at c.args.sites.now c.loop-at.sites c.mark_kind.new.sites c.loop-at.invariant
    (of_point P b points c.loop-at.at c.index-points-at.result c.loop-at.sites c.mark_kind.new.sites c.requires.points lt c.in_ok-mark_kind.ensures)
