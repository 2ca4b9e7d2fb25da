use Rattle.std.proofs.Common.{◌≡◌, ◌++◌, drop}
use Rattle.jn_trees.specs.Spelling.{spell_more_parameters}
use Rattle.jn_trees.specs.View.{parameter_views}
use Rattle.jn_trees_spelling.proofs.members.spell_more_parameters.Given as goal

abbrev pub invariant-loop-parameter : goal.invariant-loop-parameter
invariant-loop-parameter l = l.kinds.items ++ spell_more_parameters (parameter_views (drop l.parameter-index l.parameters)) ≡ l.fn.kinds.items ++ spell_more_parameters (parameter_views l.parameters)
