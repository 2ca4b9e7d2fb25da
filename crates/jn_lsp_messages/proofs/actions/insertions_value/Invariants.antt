use Rattle.std.proofs.Common.{◌≡◌, map, take}
use Rattle.serde_json.specs.View.{view}
use Rattle.jn_lsp_messages.specs.Outgoing.{insertion_data}
use Rattle.jn_lsp_messages.proofs.actions.insertions_value.Given as goal

abbrev pub invariant-loop-insertion : goal.invariant-loop-insertion
invariant-loop-insertion l = map view l.items.items ≡ map insertion_data (take l.insertion-index l.insertions)
