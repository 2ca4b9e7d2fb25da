use Rattle.std.proofs.Common.{◌≡◌, ◌++◌, flat_map, drop, map}
use Rattle.jn_places.specs.PlacedView.{placed_type}
use Rattle.jn_refused_notes.specs.Refused.{type_refusals}
use Rattle.jn_refused_notes.proofs.outside.of_types.Given as goal

abbrev pub invariant-loop-tree : goal.invariant-loop-tree
invariant-loop-tree l = l.found ++ flat_map type_refusals (map placed_type (drop l.tree-index l.trees)) ≡ l.fn.found ++ flat_map type_refusals (map placed_type l.trees)
