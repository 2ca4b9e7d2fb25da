use Rattle.std.proofs.Common.{◌≡◌}
use Rattle.serde_json.specs.View.{items_view}
use Rattle.jn_lsp_messages.specs.Incoming.{all_of}
use Rattle.serde_json.specs.Find.{as_str}
use Rattle.jn_lsp_messages.proofs.Arrays.{rest_of}
use Rattle.jn_lsp_messages.proofs.params.texts_of.Given as goal

abbrev pub invariant-loop-item : goal.invariant-loop-item
invariant-loop-item l = all_of as_str (items_view l.items) ≡ rest_of as_str l.texts l.items l.item-index
