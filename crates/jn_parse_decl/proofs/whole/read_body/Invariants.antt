use Rattle.std.proofs.Common.{length, map}
use Rattle.jn_trees.specs.Pieces.{kinds}
use Rattle.jn_trees.specs.View.{statement_view}
use Rattle.jn_parse_decl.specs.Ahead.{AreStatements}
use Rattle.jn_parse_decl.proofs.whole.read_body.Given as goal

abbrev pub invariant-statements : goal.invariant-statements
invariant-statements l = AreStatements l.fn.owner l.fn.leading (kinds l.fn.tokens) (map statement_view l.statements.items) l.leads (kinds l.left)

abbrev pub decreases-statements : goal.decreases-statements
decreases-statements l = length (kinds l.left)
