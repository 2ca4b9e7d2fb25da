use Rattle.std.proofs.Common.{◌<◌, length, arith, ap, ◌∙◌}
use Rattle.jn_lsp_messages.specs.Outgoing.{insertion_data}
use Rattle.jn_lsp_messages.proofs.Arrays.{written_more}
use Rattle.jn_lsp_messages.proofs.actions.insertions_value.Goals as goal

pub loop-insertion-preserved : goal.loop-insertion-preserved
loop-insertion-preserved c =
    let lt : c.loop-insertion.insertion-index < length c.args.insertions.now = omega (arith, c.loop-insertion-test.true) in
    written_more insertion_data c.args.insertions.now c.loop-insertion.insertion-index c.insertion-item.result c.loop-insertion.items.items c.put.new.items.items c.in_ok-insertion_value.field-0 lt c.loop-insertion.invariant (c.in_ok-insertion_value.ensures ∙ ap insertion_data c.insertion-item.is) c.in_ok-put.ensures
