use Rattle.std.proofs.Common.{◌↔◌, drop}
use Rattle.jn_trees.specs.WellFormed.{GoodParameters}
use Rattle.jn_trees.specs.View.{parameter_views}
use Rattle.jn_trees_spelling.proofs.good_members.good_parameters.Given as goal

abbrev pub invariant-loop-parameter : goal.invariant-loop-parameter
invariant-loop-parameter l = GoodParameters (parameter_views l.parameters) ↔ GoodParameters (parameter_views (drop l.parameter-index l.parameters))
