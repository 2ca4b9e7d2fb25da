use Rattle.std.proofs.Common.{◌≡◌, map, take}
use Rattle.jn_kept_trees.specs.Fresh.{has_tree}
use Rattle.jn_kept_trees.proofs.parsing.which_are_kept.Given as goal

abbrev pub invariant-loop-tree : goal.invariant-loop-tree
invariant-loop-tree l = l.kept.items ≡ map has_tree (take l.tree-index l.trees)
