use Rattle.std.proofs.Common.{arith}
use Rattle.jn_places.proofs.Lists.{unvisited}
use Rattle.jn_renumber.proofs.Blocks.{block_renumbered}
use Rattle.jn_renumber.proofs.Lists.{one_statement_more, all_statements}
use Rattle.jn_renumber.proofs.statements.+statements.Goals as goal

pub renumber_statement-returns-in-Block : goal.renumber_statement-returns-in-Block
renumber_statement-returns-in-Block t c =
    block_renumbered c.args.numbers.now c.in-Block.statements _ c.in-Block._span _ _ c.in-Block.is (grind arith)

pub renumber_statements-loop-at-preserved : goal.renumber_statements-loop-at-preserved
renumber_statements-loop-at-preserved t c = (
  unvisited c.loop-at.statements.items c.args.statements.now.items c.loop-at.at c.renumber_statement.new.statement c.loop-at.invariant.0,
  one_statement_more c.args.numbers.now _ c.loop-at.statements.items c.loop-at.at c.index_mut.result.now c.renumber_statement.new.statement (omega arith) c.index_mut.ensures.value c.renumber_statement.ensures c.loop-at.invariant.1,
)

pub renumber_statements-returns : goal.renumber_statements-returns
renumber_statements-returns t c =
    all_statements c.args.numbers.now _ c.loop-at.statements.items c.loop-at.at (omega arith) c.loop-at.invariant.1
