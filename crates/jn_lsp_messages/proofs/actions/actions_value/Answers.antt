use Rattle.std.proofs.Common.{◌<◌, length, arith, ap, ◌∙◌}
use Rattle.jn_lsp_messages.specs.Outgoing.{action_data}
use Rattle.jn_lsp_messages.proofs.Arrays.{written_more}
use Rattle.jn_lsp_messages.proofs.actions.actions_value.Goals as goal

pub loop-action-preserved : goal.loop-action-preserved
loop-action-preserved c =
    let lt : c.loop-action.action-index < length c.args.actions.now = omega (arith, c.loop-action-test.true) in
    written_more (action_data c.args.address.now) c.args.actions.now c.loop-action.action-index c.action-item.result c.loop-action.items.items c.put.new.items.items c.in_ok-action_value.field-0 lt c.loop-action.invariant (c.in_ok-action_value.ensures ∙ ap (action_data c.args.address.now) c.action-item.is) c.in_ok-put.ensures
