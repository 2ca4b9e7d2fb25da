use Rattle.std.proofs.Common.{◌↔◌, drop}
use Rattle.jn_trees.specs.WellFormed.{AllGood}
use Rattle.jn_trees.specs.View.{views}
use Rattle.jn_trees_spelling.proofs.good.+good.Given as goal

abbrev pub invariant-all_good-loop-expression : goal.invariant-all_good-loop-expression
invariant-all_good-loop-expression l = AllGood (views l.expressions) ↔ AllGood (views (drop l.expression-index l.expressions))
