use Rattle.std.proofs.Common.{◌<◌, length, arith, ap, ◌∙◌}
use Rattle.jn_lsp_messages.specs.Outgoing.{diagnostic_data}
use Rattle.jn_lsp_messages.proofs.Arrays.{written_more}
use Rattle.jn_lsp_messages.proofs.diagnostics.diagnostics_value.Goals as goal

pub loop-diagnostic-preserved : goal.loop-diagnostic-preserved
loop-diagnostic-preserved c =
    let lt : c.loop-diagnostic.diagnostic-index < length c.args.diagnostics.now = omega (arith, c.loop-diagnostic-test.true) in
    written_more (diagnostic_data c.args.address.now) c.args.diagnostics.now c.loop-diagnostic.diagnostic-index c.diagnostic-item.result c.loop-diagnostic.items.items c.put.new.items.items c.in_ok-diagnostic_value.field-0 lt c.loop-diagnostic.invariant (c.in_ok-diagnostic_value.ensures ∙ ap (diagnostic_data c.args.address.now) c.diagnostic-item.is) c.in_ok-put.ensures
