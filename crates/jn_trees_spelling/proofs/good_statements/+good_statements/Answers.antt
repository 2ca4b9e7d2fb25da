use Rattle.std.proofs.Common.{◌↔◌, IsTrue, sym, subst}
use Rattle.jn_trees.specs.Trees.{Statement}
use Rattle.jn_trees.specs.WellFormed.{GoodStatement, GoodStatements}
use Rattle.jn_trees.specs.View.{statement_views}
use Rattle.jn_trees.specs.declared.context.Context.{Context}
use Rattle.jn_trees.proofs.Seen.{seen_block}
use Rattle.jn_trees_spelling.proofs.good_statements.+good_statements.Goals as goal

pub good_statement-returns-in-Block : goal.good_statement-returns-in-Block
good_statement-returns-in-Block t c =
    let P : Statement → Type 0 = λ s. IsTrue c.good_statements.result ↔ GoodStatement c.args.context s in
    let Q : Context → Type 0 = λ k. IsTrue c.good_statements.result ↔ GoodStatements k (statement_views c.deref.result.now) in
    subst P (sym (seen_block _ c.in-Block.statements c.in-Block.span c.deref.result.now c.in-Block.is c.deref.ensures.value))
    (subst Q c.in_block.ensures c.good_statements.ensures)
