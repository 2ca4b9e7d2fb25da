use Rattle.jn_trees.specs.Pieces.{kinds}
use Rattle.jn_parse_decl.proofs.Depth.{body_read}
use Rattle.jn_parse_decl.proofs.nested.statement_within.Goals as goal

pub returns : goal.returns
returns c = body_read c.statements_are_read_once.ensures.longest c.statements_are_read_once.ensures.unique c.read_statement.result c.args.depth c.args.leading (kinds c.args.tokens.now) c.requires c.read_statement.ensures
