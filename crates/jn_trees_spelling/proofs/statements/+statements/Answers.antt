use Rattle.std.proofs.Common.{◌++◌, rules, refl, ap, ◌∙◌, append_assoc}
use Rattle.std.proofs.lemmas.Result.{IfOk-equal}
use Rattle.jn_trees.specs.Spelling.{spell_statement, spell_body}
use Rattle.jn_trees.specs.View.{statement_view, statement_views}
use Rattle.jn_trees.proofs.Seen.{seen_block}
use Rattle.jn_trees_spelling.proofs.Joined.{put_more, put_none}
use Rattle.jn_trees_spelling.proofs.statements.+statements.Goals as goal

pub spell_statement-returns-in_ok-put-in-Block : goal.spell_statement-returns-in_ok-put-in-Block
spell_statement-returns-in_ok-put-in-Block t c =
    let e = ap spell_statement (seen_block _ c.in-Block.statements c.in-Block.span c.deref.result.now c.in-Block.is c.deref.ensures.value) in
    search (rules, IfOk-equal, append_assoc)

pub spell_body-loop-statement-preserved : goal.spell_body-loop-statement-preserved
spell_body-loop-statement-preserved t c =
    put_more (λ ss. spell_body (statement_views ss)) (λ s. spell_statement (statement_view s)) (λ _ _. refl) c.args.statements.now c.loop-statement.statement-index c.statement-item.result c.statement-item.result c.loop-statement.kinds.items c.spell_statement.new.kinds.items c.loop-statement-test.true c.statement-item.is c.in_ok-spell_statement.ensures
    ∙ c.loop-statement.invariant

pub spell_body-returns : goal.spell_body-returns
spell_body-returns t c =
    let none = ap (λ k. c.loop-statement.kinds.items ++ k) (put_none (λ ss. spell_body (statement_views ss)) c.args.statements.now c.loop-statement.statement-index c.loop-statement-test.false) in
    search (rules, IfOk-equal, append_assoc)
