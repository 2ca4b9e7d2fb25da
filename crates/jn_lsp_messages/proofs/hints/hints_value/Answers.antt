use Rattle.std.proofs.Common.{◌<◌, length, arith, ap, ◌∙◌}
use Rattle.jn_lsp_messages.specs.Outgoing.{hint_data}
use Rattle.jn_lsp_messages.proofs.Arrays.{written_more}
use Rattle.jn_lsp_messages.proofs.hints.hints_value.Goals as goal

pub loop-hint-preserved : goal.loop-hint-preserved
loop-hint-preserved c =
    let lt : c.loop-hint.hint-index < length c.args.hints.now = omega (arith, c.loop-hint-test.true) in
    written_more hint_data c.args.hints.now c.loop-hint.hint-index c.hint-item.result c.loop-hint.items.items c.put.new.items.items c.in_ok-hint_value.field-0 lt c.loop-hint.invariant (c.in_ok-hint_value.ensures ∙ ap hint_data c.hint-item.is) c.in_ok-put.ensures
