use Rattle.std.proofs.Common.{◌<◌, length, map, arith}
use Rattle.jn_trees.specs.View.{file_view}
use Rattle.jn_lsp_actions.specs.Written.{is_written}
use Rattle.jn_lsp_actions.proofs.RowByRow.{row_more}
use Rattle.jn_lsp_actions.proofs.choosing.slots_of.Goals as goal

pub loop-row-preserved : goal.loop-row-preserved
loop-row-preserved c =
    let lt : c.loop-row.row-index < length c.args.rows.now = omega (arith, c.loop-row-test.true) in
    let lexed = c.args.lexed.now in
    let v = lexed.traced.now in
    let test = is_written v.encoding v.files lexed.tokens.now (map file_view lexed.trees.now) v.program v.sig in
    row_more v.program v.sig v.tables test c.args.rows.now c.loop-row.row-index _ c.in_ok-slots.slots c.loop-row.wants.items c.put.new.items.items lt c.in_ok-slots.ensures c.in_ok-put.ensures c.loop-row.invariant
