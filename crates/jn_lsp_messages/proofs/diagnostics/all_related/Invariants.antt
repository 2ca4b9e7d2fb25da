use Rattle.std.proofs.Common.{◌≡◌, map, take}
use Rattle.serde_json.specs.View.{view}
use Rattle.jn_lsp_messages.specs.Outgoing.{related_data}
use Rattle.jn_lsp_messages.proofs.diagnostics.all_related.Given as goal

abbrev pub invariant-loop-place : goal.invariant-loop-place
invariant-loop-place l = map view l.items.items ≡ map related_data (take l.place-index l.related)
