use Rattle.std.proofs.Common.{◌≡◌}
use Rattle.serde_json.specs.View.{items_view}
use Rattle.jn_lsp_messages.specs.Incoming.{all_of, change_in}
use Rattle.jn_lsp_messages.proofs.Arrays.{rest_of}
use Rattle.jn_lsp_messages.proofs.params.changes_of.Given as goal

abbrev pub invariant-loop-item : goal.invariant-loop-item
invariant-loop-item l = all_of change_in (items_view l.items) ≡ rest_of change_in l.changes l.items l.item-index
