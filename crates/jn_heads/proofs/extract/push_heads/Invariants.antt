use Rattle.std.proofs.Common.{◌≡◌, ◌++◌, map, drop}
use Rattle.jn_places.specs.PlacedView.{placed_type}
use Rattle.jn_heads.specs.Extract as spec
use Rattle.jn_heads.proofs.extract.push_heads.Given as goal

abbrev pub invariant-loop-tree : goal.invariant-loop-tree
invariant-loop-tree l = l.heads ++ map (spec.class_head) (map placed_type (drop l.tree-index l.types)) ≡ l.fn.heads ++ map (spec.class_head) (map placed_type l.types)
