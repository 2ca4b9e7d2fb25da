use Rattle.std.proofs.Common.{◌≡◌, ◌++◌, flat_map, drop, map}
use Rattle.jn_places.specs.PlacedView.{placed_type}
use Rattle.jn_phase_notes.specs.Earlier.{type_seconds}
use Rattle.jn_phase_notes.proofs.repeated.of_types.Given as goal

abbrev pub invariant-loop-tree : goal.invariant-loop-tree
invariant-loop-tree l = l.found ++ flat_map type_seconds (map placed_type (drop l.tree-index l.trees)) ≡ l.fn.found ++ flat_map type_seconds (map placed_type l.trees)
