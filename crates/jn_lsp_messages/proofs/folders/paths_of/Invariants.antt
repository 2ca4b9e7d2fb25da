use Rattle.std.proofs.Common.{◌≡◌}
use Rattle.serde_json.specs.View.{items_view}
use Rattle.jn_lsp_messages.specs.Incoming.{all_of, path_in}
use Rattle.jn_lsp_messages.proofs.Arrays.{rest_of}
use Rattle.jn_lsp_messages.proofs.folders.paths_of.Given as goal

abbrev pub invariant-loop-item : goal.invariant-loop-item
invariant-loop-item l = all_of path_in (items_view l.items) ≡ rest_of path_in l.paths l.items l.item-index
