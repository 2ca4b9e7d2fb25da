use Rattle.std.proofs.Common.{◌≡◌, length}
use Rattle.jn_trees.specs.Pieces.{kinds}
use Rattle.jn_trees.specs.View.{views}
use Rattle.jn_parse_expr_law.specs.Reader.{reader, all_items}
use Rattle.jn_parse_stmt.proofs.Items.{Listing}
use Rattle.jn_parse_stmt.proofs.lists.items.Given as goal

abbrev pub invariant-items : goal.invariant-items
invariant-items l = Listing (reader l.depth).whole (views l.items.items) (kinds l.left) (all_items (reader l.depth).whole (kinds l.tokens))

abbrev pub decreases-items : goal.decreases-items
decreases-items l = length l.left
