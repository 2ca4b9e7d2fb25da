use Rattle.std.proofs.Common.{◌<◌, length, arith}
use Rattle.jn_lsp_hover.proofs.Searching.{body_more}
use Rattle.jn_lsp_hover.proofs.search.over_bodies.Goals as goal

pub loop-body-preserved : goal.loop-body-preserved
loop-body-preserved c =
    let P = c.args.sought.now.program.now in
    let inside : c.loop-body.body < length P.bodies = omega (arith, c.loop-body-test.true, c.len-body-end.ensures) in
    body_more c.args.sought.now P c.loop-body.found c.over_body-found.result c.loop-body.body inside c.over_body-found.ensures c.loop-body.invariant
