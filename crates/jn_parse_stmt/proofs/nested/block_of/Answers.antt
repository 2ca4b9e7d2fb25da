use Rattle.jn_parse_stmt.proofs.Rows.{boxed_block}
use Rattle.jn_parse_stmt.proofs.nested.block_of.Goals as goal

pub returns : goal.returns
returns c = boxed_block c.boxed.result c.args.statements c.args.span c.boxed.ensures
