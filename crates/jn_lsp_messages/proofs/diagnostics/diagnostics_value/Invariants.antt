use Rattle.std.proofs.Common.{◌≡◌, map, take}
use Rattle.serde_json.specs.View.{view}
use Rattle.jn_lsp_messages.specs.Outgoing.{diagnostic_data}
use Rattle.jn_lsp_messages.proofs.diagnostics.diagnostics_value.Given as goal

abbrev pub invariant-loop-diagnostic : goal.invariant-loop-diagnostic
invariant-loop-diagnostic l = map view l.items.items ≡ map (diagnostic_data l.address) (take l.diagnostic-index l.diagnostics)
