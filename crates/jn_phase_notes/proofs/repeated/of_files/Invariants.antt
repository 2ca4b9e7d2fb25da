use Rattle.std.proofs.Common.{◌≡◌, ◌++◌, drop, map}
use Rattle.jn_places.specs.PlacedView.{placed_file}
use Rattle.jn_phase_notes.specs.Earlier.{files_seconds}
use Rattle.jn_phase_notes.proofs.repeated.of_files.Given as goal

abbrev pub invariant-loop-tree : goal.invariant-loop-tree
invariant-loop-tree l = l.found ++ files_seconds (map placed_file (drop l.tree-index l.trees)) ≡ l.fn.found ++ files_seconds (map placed_file l.trees)
