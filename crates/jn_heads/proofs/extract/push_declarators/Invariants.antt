use Rattle.std.proofs.Common.{◌≡◌, ◌++◌, map, drop}
use Rattle.jn_places.specs.PlacedView.{placed_type_use, placed_declarators}
use Rattle.jn_heads.specs.Extract as spec
use Rattle.jn_heads.proofs.extract.push_declarators.Given as goal

abbrev pub invariant-loop-declarator : goal.invariant-loop-declarator
invariant-loop-declarator l = l.heads ++ map (spec.field_head l.modifiers (placed_type_use l.use_of)) (placed_declarators (drop l.declarator-index l.declarators)) ≡ l.fn.heads ++ map (spec.field_head l.modifiers (placed_type_use l.use_of)) (placed_declarators l.declarators)
