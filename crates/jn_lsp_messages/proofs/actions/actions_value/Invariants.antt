use Rattle.std.proofs.Common.{◌≡◌, map, take}
use Rattle.serde_json.specs.View.{view}
use Rattle.jn_lsp_messages.specs.Outgoing.{action_data}
use Rattle.jn_lsp_messages.proofs.actions.actions_value.Given as goal

abbrev pub invariant-loop-action : goal.invariant-loop-action
invariant-loop-action l = map view l.items.items ≡ map (action_data l.address) (take l.action-index l.actions)
