use Rattle.std.proofs.Common.{◌≡◌, ◌-◌, ◌^◌, min, max, drop}
use Rattle.jn_trees.specs.WellFormed.{nesting_declarators}
use Rattle.jn_trees.specs.View.{declarator_views}
use Rattle.jn_trees_spelling.proofs.good_locals.nesting_declarators.Given as goal

abbrev pub invariant-loop-declarator : goal.invariant-loop-declarator
invariant-loop-declarator l = max l.deepest (min (nesting_declarators (declarator_views (drop l.declarator-index l.declarators))) (2 ^ 32 - 1)) ≡ min (nesting_declarators (declarator_views l.declarators)) (2 ^ 32 - 1)
