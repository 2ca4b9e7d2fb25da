use Rattle.std.proofs.Common.{◌<◌, length, arith, ap, ◌∙◌}
use Rattle.jn_lsp_messages.specs.Outgoing.{related_data}
use Rattle.jn_lsp_messages.proofs.Arrays.{written_more}
use Rattle.jn_lsp_messages.proofs.diagnostics.all_related.Goals as goal

pub loop-place-preserved : goal.loop-place-preserved
loop-place-preserved c =
    let lt : c.loop-place.place-index < length c.args.related.now = omega (arith, c.loop-place-test.true) in
    written_more related_data c.args.related.now c.loop-place.place-index c.place-item.result c.loop-place.items.items c.put.new.items.items c.in_ok-related_value.field-0 lt c.loop-place.invariant (c.in_ok-related_value.ensures ∙ ap related_data c.place-item.is) c.in_ok-put.ensures
