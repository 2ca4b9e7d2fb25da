use Rattle.jn_lsp_hover.proofs.Searching.{point_more}
use Rattle.jn_lsp_hover.proofs.search.over_points.Goals as goal

pub loop-at-preserved : goal.loop-at-preserved
loop-at-preserved c =
    point_more c.args.sought.now c.args.body c.args.best c.loop-at.found c.over_point-found.result c.args.points.now c.loop-at.at c.index-points-at.result c.loop-at-test.true c.index-points-at.is c.over_point-found.ensures c.loop-at.invariant
