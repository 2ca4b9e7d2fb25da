use Rattle.std.proofs.Common.{length}
use Rattle.jn_trees.specs.View.{parameter_views}
use Rattle.jn_trees.specs.Pieces.{kinds}
use Rattle.jn_parse_decl_law.specs.PieceReader.{read_more_parameters}
use Rattle.jn_parse_decl.specs.Front.{prepend_parameters}
use Rattle.jn_parse_decl.proofs.Rows.{Going}
use Rattle.jn_parse_decl.proofs.parameters.more_parameters.Given as goal

abbrev pub invariant-parameters : goal.invariant-parameters
invariant-parameters l = Going (parameter_views l.all.items) (kinds l.left) (prepend_parameters (parameter_views l.fn.before.items) (read_more_parameters (kinds l.tokens)))

abbrev pub decreases-parameters : goal.decreases-parameters
decreases-parameters l = length (kinds l.left)
