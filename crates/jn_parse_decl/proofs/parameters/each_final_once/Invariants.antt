use Rattle.std.proofs.Common.{◌≡◌, drop}
use Rattle.jn_trees.specs.View.{parameter_views}
use Rattle.jn_parse_decl_law.specs.PieceReader.{good_parameters}
use Rattle.jn_parse_decl.proofs.parameters.each_final_once.Given as goal

abbrev pub invariant-loop-parameter : goal.invariant-loop-parameter
invariant-loop-parameter l = good_parameters (parameter_views (drop l.parameter-index l.parameters)) ≡ good_parameters (parameter_views l.parameters)
