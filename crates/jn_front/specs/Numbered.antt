-- Trees, and the numbers that their names are to have.
use Rattle.std.specs.Prelude.{Option, None, Some, Vec}
use Rattle.std.specs.declared.alloc.Global.{Global}
use Rattle.jn_base.specs.declared.number.NameNo.{NameNo}
use Rattle.jn_trees.specs.declared.declaration.FileTree.{FileTree}
use Rattle.jn_places.specs.Placed.{PlacedFile}
use Rattle.jn_places.specs.PlacedView.{placed_file}
use Rattle.jn_renumber.specs.Renumbered.{renumbered_file}
use Rattle.jn_front.specs.declared.renumbering.Numbered.{Numbered}

-- where there are numbers, the names have those at their own
abbrev pub numbered_by : Option (Vec NameNo Global) → PlacedFile → PlacedFile
numbered_by None tree = tree
numbered_by (Some numbers) tree = renumbered_file numbers.items tree

-- the tree, its names with these numbers
abbrev pub numbered_tree : Numbered → PlacedFile
numbered_tree numbered = numbered_by numbered.numbers (placed_file numbered.tree)

-- the tree as it is
abbrev pub tree_of : Numbered → FileTree
tree_of numbered = numbered.tree
