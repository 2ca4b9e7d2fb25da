use Rattle.std.proofs.Common.{◌≡◌, map, take}
use Rattle.serde_json.specs.View.{view}
use Rattle.jn_lsp_messages.specs.Outgoing.{hint_data}
use Rattle.jn_lsp_messages.proofs.hints.hints_value.Given as goal

abbrev pub invariant-loop-hint : goal.invariant-loop-hint
invariant-loop-hint l = map view l.items.items ≡ map hint_data (take l.hint-index l.hints)
