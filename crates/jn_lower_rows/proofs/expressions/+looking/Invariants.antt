use Rattle.std.proofs.Common.{◌≡◌, ◌++◌, drop}
use Rattle.jn_places.specs.PlacedView.{placed_views}
use Rattle.jn_lower_rows.specs.Views.{all_in}
use Rattle.jn_lower_rows.proofs.expressions.+looking.Given as goal

abbrev pub invariant-all-loop-tree : goal.invariant-all-loop-tree
invariant-all-loop-tree l = l.rows ++ all_in l.c l.at (placed_views (drop l.tree-index l.trees)) ≡ l.fn.rows ++ all_in l.c l.at (placed_views l.trees)
