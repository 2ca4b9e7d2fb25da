use Rattle.std.proofs.Common.{◌≡◌, drop, map}
use Rattle.std.specs.Prelude.{flat_map}
use Rattle.jn_places.specs.PlacedView.{placed_type}
use Rattle.jn_program_law.specs.FileSources.{type_trees}
use Rattle.jn_program.specs.Gathering.{gathered, numbered_of}
use Rattle.jn_program.proofs.sources.types.Given as goal

abbrev pub invariant-loop-tree : goal.invariant-loop-tree
invariant-loop-tree l = gathered (numbered_of l.made) (flat_map type_trees (map placed_type (drop l.tree-index l.trees))) ≡ gathered (numbered_of l.fn.made) (flat_map type_trees (map placed_type l.trees))
