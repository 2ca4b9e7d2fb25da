use Rattle.std.proofs.Common.{ap, ◌∙◌}
use Rattle.jn_lsp_hover.specs.Searched.{better}
use Rattle.jn_lsp_hover.specs.Spots.{read}
use Rattle.jn_lsp_hover.proofs.Searching.{operand_more}
use Rattle.jn_lsp_hover.proofs.search.over_each.Goals as goal

pub loop-operand-preserved : goal.loop-operand-preserved
loop-operand-preserved c =
    operand_more c.args.sought.now (read c.args.place.body c.args.place.point) c.args.best c.loop-operand.found c.better-found.result c.args.operands.now c.loop-operand.operand-index _ c.loop-operand-test.true
    (c.better-found.ensures ∙ ap (better c.args.sought.now c.loop-operand.found) c.read.ensures) c.loop-operand.invariant
