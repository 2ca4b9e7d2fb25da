use Rattle.std.proofs.Common.{◌≡◌, ◌++◌, drop, map}
use Rattle.jn_places.specs.PlacedView.{placed_file}
use Rattle.jn_phase_notes.specs.Mentions.{files_mentions}
use Rattle.jn_phase_notes.proofs.naming.mentions_of.Given as goal

abbrev pub invariant-loop-tree : goal.invariant-loop-tree
invariant-loop-tree l = l.found ++ files_mentions (map placed_file (drop l.tree-index l.trees)) ≡ files_mentions (map placed_file l.trees)
