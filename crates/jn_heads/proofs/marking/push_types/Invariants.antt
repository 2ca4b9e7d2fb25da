use Rattle.std.proofs.Common.{◌≡◌, ◌++◌, map, drop}
use Rattle.jn_places.specs.PlacedView.{placed_type}
use Rattle.jn_heads.specs.Types as types
use Rattle.jn_heads.specs.Inferred as spec
use Rattle.jn_heads.proofs.marking.push_types.Given as goal

abbrev pub invariant-loop-tree : goal.invariant-loop-tree
invariant-loop-tree l = l.slots ++ types.slots_of_all l.declared (map (spec.class_marks l.infer) (map placed_type (drop l.tree-index l.trees))) ≡ l.fn.slots ++ types.slots_of_all l.declared (map (spec.class_marks l.infer) (map placed_type l.trees))
