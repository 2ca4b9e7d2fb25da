use Rattle.std.proofs.Common.{ap, arith}
use Rattle.jn_trees.specs.WellFormed.{nesting_statement}
use Rattle.jn_trees.proofs.Seen.{seen_block}
use Rattle.jn_trees_spelling.proofs.good_statements.+nesting_statements.Goals as goal

pub nesting_statement-returns-in-Block : goal.nesting_statement-returns-in-Block
nesting_statement-returns-in-Block t c =
    let e = ap nesting_statement (seen_block _ c.in-Block.statements c.in-Block.span c.deref.result.now c.in-Block.is c.deref.ensures.value) in
    omega arith
