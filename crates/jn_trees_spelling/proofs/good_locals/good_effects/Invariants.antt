use Rattle.std.proofs.Common.{◌↔◌, drop}
use Rattle.jn_trees.specs.WellFormed.{GoodEffects}
use Rattle.jn_trees.specs.View.{views}
use Rattle.jn_trees_spelling.proofs.good_locals.good_effects.Given as goal

abbrev pub invariant-loop-expression : goal.invariant-loop-expression
invariant-loop-expression l = GoodEffects (views l.expressions) ↔ GoodEffects (views (drop l.expression-index l.expressions))
