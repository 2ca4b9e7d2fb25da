use Rattle.std.proofs.Common.{◌≡◌, ◌++◌, drop, map}
use Rattle.jn_places.specs.PlacedView.{placed_file}
use Rattle.jn_lower_rows.specs.Views.{first_package}
use Rattle.jn_refused_notes.specs.Refused.{files_refusals, refusals_behind}
use Rattle.jn_refused_notes.proofs.outside.refusals_of.Given as goal

abbrev pub invariant-loop-tree : goal.invariant-loop-tree
invariant-loop-tree l = l.found ++ refusals_behind (first_package l.first) (map placed_file (drop l.tree-index l.trees)) ≡ files_refusals (map placed_file l.trees)
