use Rattle.std.proofs.Common.{◌≡◌, ◌-◌, ◌^◌, min, max, drop}
use Rattle.jn_trees.specs.WellFormed.{nesting_all}
use Rattle.jn_trees.specs.View.{views}
use Rattle.jn_trees_spelling.proofs.nesting.+nesting.Given as goal

abbrev pub invariant-nesting_all-loop-expression : goal.invariant-nesting_all-loop-expression
invariant-nesting_all-loop-expression l = max l.deepest (min (nesting_all (views (drop l.expression-index l.expressions))) (2 ^ 32 - 1)) ≡ min (nesting_all (views l.expressions)) (2 ^ 32 - 1)
