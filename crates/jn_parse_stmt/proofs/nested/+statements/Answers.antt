use Rattle.std.proofs.Common.{◌≡◌, ◌+◌, ◌-◌, ◌<◌, ◌≤◌, [], ◌∷◌, ◌++◌, length, sym, ap, ◌∙◌, subst, refl, arith, IfOk, Some, None}
use Rattle.jn_trees.specs.declared.token.TokenKind.TheVariants.{Break, Continue, Do, Else, For, If, Return, Super, This, While, LeftParen, LeftBrace, RightBrace, Semicolon}
use Rattle.jn_trees.specs.Pieces.{kinds}
use Rattle.jn_trees.specs.Trees.{Tree, Statements, Statement}
use Rattle.jn_trees.specs.View.{view, statement_view, statement_views}
use Rattle.jn_trees.specs.Longest.{Try, TryStatement}
use Rattle.jn_trees.specs.WellFormed.{under, in_block, loop_body}
use Rattle.jn_parse_expr_law.specs.Reader.{reader}
use Rattle.jn_parse_stmt_law.specs.Parts.{Read, then_read}
use Rattle.jn_parse_stmt_law.specs.StatementReader.{around, read_block, block_statement, if_statement, if_end, do_statement, do_end, simple}
use Rattle.jn_parse_stmt.specs.Seen.{seen_as, boxed_view}
use Rattle.jn_parse_stmt.specs.Heads.{read_one, body_of, if_ended}
use Rattle.jn_parse_stmt.proofs.Runs.{as_many}
use Rattle.jn_parse_stmt.proofs.Blocks.{Blocking, blocking_starts, blocking_ends, blocking_fails, blocking_goes, one_shorter}
use Rattle.jn_parse_stmt.proofs.Starts.{one_none, one_at, at_nothing, at_this, at_super, at_other}
use Rattle.jn_parse_stmt.proofs.nested.+statements.Goals as goal

pub statement-returns-in-LeftBrace : goal.statement-returns-in-LeftBrace
statement-returns-in-LeftBrace t c =
    let lt : 0 < c.args.depth = omega (arith, c.if-depth-eq0.false) in
    let e = ap kinds c.in-Some.ensures ∙ ap (λ k. k ∷ kinds c.in-Some.after.now) c.in-LeftBrace.is in
    subst (λ x. IfOk c.block.result (λ o. x ≡ seen_as boxed_view o)) (sym (one_at c.args.context c.args.depth (kinds c.args.tokens.now) (LeftBrace ∷ kinds c.in-Some.after.now) lt e)) c.block.ensures

pub statement-returns-in-Semicolon : goal.statement-returns-in-Semicolon
statement-returns-in-Semicolon t c =
    let lt : 0 < c.args.depth = omega (arith, c.if-depth-eq0.false) in
    let e = ap kinds c.in-Some.ensures ∙ ap (λ k. k ∷ kinds c.in-Some.after.now) c.in-Semicolon.is in
    subst (λ x. IfOk c.empty_statement.result (λ o. x ≡ seen_as boxed_view o)) (sym (one_at c.args.context c.args.depth (kinds c.args.tokens.now) (Semicolon ∷ kinds c.in-Some.after.now) lt e)) c.empty_statement.ensures

pub statement-returns-in-Break : goal.statement-returns-in-Break
statement-returns-in-Break t c =
    let lt : 0 < c.args.depth = omega (arith, c.if-depth-eq0.false) in
    let e = ap kinds c.in-Some.ensures ∙ ap (λ k. k ∷ kinds c.in-Some.after.now) c.in-Break.is in
    subst (λ x. IfOk c.break_statement.result (λ o. x ≡ seen_as boxed_view o)) (sym (one_at c.args.context c.args.depth (kinds c.args.tokens.now) (Break ∷ kinds c.in-Some.after.now) lt e)) c.break_statement.ensures

pub statement-returns-in-Continue : goal.statement-returns-in-Continue
statement-returns-in-Continue t c =
    let lt : 0 < c.args.depth = omega (arith, c.if-depth-eq0.false) in
    let e = ap kinds c.in-Some.ensures ∙ ap (λ k. k ∷ kinds c.in-Some.after.now) c.in-Continue.is in
    subst (λ x. IfOk c.continue_statement.result (λ o. x ≡ seen_as boxed_view o)) (sym (one_at c.args.context c.args.depth (kinds c.args.tokens.now) (Continue ∷ kinds c.in-Some.after.now) lt e)) c.continue_statement.ensures

pub statement-returns-in-Return : goal.statement-returns-in-Return
statement-returns-in-Return t c =
    let lt : 0 < c.args.depth = omega (arith, c.if-depth-eq0.false) in
    let e = ap kinds c.in-Some.ensures ∙ ap (λ k. k ∷ kinds c.in-Some.after.now) c.in-Return.is in
    subst (λ x. IfOk c.return_statement.result (λ o. x ≡ seen_as boxed_view o)) (sym (one_at c.args.context c.args.depth (kinds c.args.tokens.now) (Return ∷ kinds c.in-Some.after.now) lt e)) c.return_statement.ensures

pub statement-returns-in-If : goal.statement-returns-in-If
statement-returns-in-If t c =
    let lt : 0 < c.args.depth = omega (arith, c.if-depth-eq0.false) in
    let e = ap kinds c.in-Some.ensures ∙ ap (λ k. k ∷ kinds c.in-Some.after.now) c.in-If.is in
    subst (λ x. IfOk c.if_statement.result (λ o. x ≡ seen_as boxed_view o)) (sym (one_at c.args.context c.args.depth (kinds c.args.tokens.now) (If ∷ kinds c.in-Some.after.now) lt e)) c.if_statement.ensures

pub statement-returns-in-While : goal.statement-returns-in-While
statement-returns-in-While t c =
    let lt : 0 < c.args.depth = omega (arith, c.if-depth-eq0.false) in
    let e = ap kinds c.in-Some.ensures ∙ ap (λ k. k ∷ kinds c.in-Some.after.now) c.in-While.is in
    subst (λ x. IfOk c.while_statement.result (λ o. x ≡ seen_as boxed_view o)) (sym (one_at c.args.context c.args.depth (kinds c.args.tokens.now) (While ∷ kinds c.in-Some.after.now) lt e)) c.while_statement.ensures

pub statement-returns-in-Do : goal.statement-returns-in-Do
statement-returns-in-Do t c =
    let lt : 0 < c.args.depth = omega (arith, c.if-depth-eq0.false) in
    let e = ap kinds c.in-Some.ensures ∙ ap (λ k. k ∷ kinds c.in-Some.after.now) c.in-Do.is in
    subst (λ x. IfOk c.do_statement.result (λ o. x ≡ seen_as boxed_view o)) (sym (one_at c.args.context c.args.depth (kinds c.args.tokens.now) (Do ∷ kinds c.in-Some.after.now) lt e)) c.do_statement.ensures

pub statement-returns-in-For : goal.statement-returns-in-For
statement-returns-in-For t c =
    let lt : 0 < c.args.depth = omega (arith, c.if-depth-eq0.false) in
    let e = ap kinds c.in-Some.ensures ∙ ap (λ k. k ∷ kinds c.in-Some.after.now) c.in-For.is in
    subst (λ x. IfOk c.for_statement.result (λ o. x ≡ seen_as boxed_view o)) (sym (one_at c.args.context c.args.depth (kinds c.args.tokens.now) (For ∷ kinds c.in-Some.after.now) lt e)) c.for_statement.ensures

pub statement-returns-then-depth-eq0 : goal.statement-returns-then-depth-eq0
statement-returns-then-depth-eq0 t c = one_none c.args.context c.args.depth (kinds c.args.tokens.now) c.if-depth-eq0.true

pub statement-returns-in-None : goal.statement-returns-in-None
statement-returns-in-None t c =
    let lt : 0 < c.args.depth = omega (arith, c.if-depth-eq0.false) in
    let nothing = ap kinds c.in-None.ensures in
    subst (λ x. IfOk c.simple_statement.result (λ o. x ≡ seen_as boxed_view o))
    (ap (λ ts. simple (reader (c.args.depth - 1)).whole c.args.context.direct ts) nothing ∙ sym (one_at c.args.context c.args.depth (kinds c.args.tokens.now) [] lt nothing))
    c.simple_statement.ensures

pub statement-returns-in_default : goal.statement-returns-in_default
statement-returns-in_default t c =
    let lt : 0 < c.args.depth = omega (arith, c.if-depth-eq0.false) in
    let e = ap kinds c.in-Some.ensures in
    let n = c.in_default in
    subst (λ x. IfOk c.simple_statement-in_default.result (λ o. x ≡ seen_as boxed_view o))
    (ap (λ ts. simple (reader (c.args.depth - 1)).whole c.args.context.direct ts) e
    ∙ sym (at_other (reader (c.args.depth - 1)).whole (read_one (c.args.depth - 1)) c.args.context c.in-Some.first.kind (kinds c.in-Some.after.now) n.not-LeftBrace n.not-Semicolon n.not-Break n.not-Continue n.not-Return n.not-If n.not-While n.not-Do n.not-For n.not-This n.not-Super)
    ∙ sym (one_at c.args.context c.args.depth (kinds c.args.tokens.now) (c.in-Some.first.kind ∷ kinds c.in-Some.after.now) lt e))
    c.simple_statement-in_default.ensures

pub statement-returns-in-None-expect : goal.statement-returns-in-None-expect
statement-returns-in-None-expect t c =
    let lt : 0 < c.args.depth = omega (arith, c.if-depth-eq0.false) in
    let e = ap kinds c.in-Some.ensures ∙ ap (λ k. k ∷ kinds c.in-Some.after.now) c.in-This.is in
    subst (λ x. IfOk c.simple_statement-in-None-expect.result (λ o. x ≡ seen_as boxed_view o))
    (ap (λ ts. simple (reader (c.args.depth - 1)).whole c.args.context.direct ts) e
    ∙ sym (at_this (reader (c.args.depth - 1)).whole (read_one (c.args.depth - 1)) c.args.context (kinds c.in-Some.after.now) c.in-None-expect.ensures)
    ∙ sym (one_at c.args.context c.args.depth (kinds c.args.tokens.now) (This ∷ kinds c.in-Some.after.now) lt e))
    c.simple_statement-in-None-expect.ensures

pub statement-returns-in-Some-expect : goal.statement-returns-in-Some-expect
statement-returns-in-Some-expect t c =
    let lt : 0 < c.args.depth = omega (arith, c.if-depth-eq0.false) in
    let e = ap kinds c.in-Some.ensures ∙ ap (λ k. k ∷ kinds c.in-Some.after.now) c.in-This.is ∙ ap (λ ts. This ∷ ts) c.in-Some-expect.ensures in
    subst (λ x. IfOk c.this_call.result (λ o. x ≡ seen_as boxed_view o)) (sym (one_at c.args.context c.args.depth (kinds c.args.tokens.now) (This ∷ LeftParen ∷ kinds c.in-Some-expect.after.now) lt e)) c.this_call.ensures

pub statement-returns-in-None-expect-2 : goal.statement-returns-in-None-expect-2
statement-returns-in-None-expect-2 t c =
    let lt : 0 < c.args.depth = omega (arith, c.if-depth-eq0.false) in
    let e = ap kinds c.in-Some.ensures ∙ ap (λ k. k ∷ kinds c.in-Some.after.now) c.in-Super.is in
    subst (λ x. IfOk c.simple_statement-in-None-expect-2.result (λ o. x ≡ seen_as boxed_view o))
    (ap (λ ts. simple (reader (c.args.depth - 1)).whole c.args.context.direct ts) e
    ∙ sym (at_super (reader (c.args.depth - 1)).whole (read_one (c.args.depth - 1)) c.args.context (kinds c.in-Some.after.now) c.in-None-expect-2.ensures)
    ∙ sym (one_at c.args.context c.args.depth (kinds c.args.tokens.now) (Super ∷ kinds c.in-Some.after.now) lt e))
    c.simple_statement-in-None-expect-2.ensures

pub statement-returns-in-Some-expect-2 : goal.statement-returns-in-Some-expect-2
statement-returns-in-Some-expect-2 t c =
    let lt : 0 < c.args.depth = omega (arith, c.if-depth-eq0.false) in
    let e = ap kinds c.in-Some.ensures ∙ ap (λ k. k ∷ kinds c.in-Some.after.now) c.in-Super.is ∙ ap (λ ts. Super ∷ ts) c.in-Some-expect-2.ensures in
    subst (λ x. IfOk c.super_call.result (λ o. x ≡ seen_as boxed_view o)) (sym (one_at c.args.context c.args.depth (kinds c.args.tokens.now) (Super ∷ LeftParen ∷ kinds c.in-Some-expect-2.after.now) lt e)) c.super_call.ensures

pub body-statements-init : goal.body-statements-init
body-statements-init t c = blocking_starts (read_one c.args.depth c.args.context) (kinds c.args.tokens.now) c.in_ok-statements.statements.items c.in_ok-statements.ensures.items

pub body-returns-in-Some : goal.body-returns-in-Some
body-returns-in-Some t c = blocking_ends (read_one c.args.depth c.args.context) (statement_views c.statements.statements.items) (kinds c.statements.left.now) (read_block (read_one c.args.depth c.args.context) (kinds c.args.tokens.now)) c.statements.invariant (kinds c.in-Some.rest.now) c.in-Some.ensures

pub body-returns-in-None : goal.body-returns-in-None
body-returns-in-None t c = blocking_fails (read_one c.args.depth c.args.context) (statement_views c.statements.statements.items) (kinds c.statements.left.now) (read_block (read_one c.args.depth c.args.context) (kinds c.args.tokens.now)) c.statements.invariant c.in_default.ensures (rw c.in-None.is at c.in_ok-statement.ensures)

pub body-statements-smaller : goal.body-statements-smaller
body-statements-smaller t c =
    let h = rw c.in-Some-2.is at c.in_ok-statement.ensures in
    let short = one_shorter c.args.context c.args.depth (kinds c.statements.left.now) (boxed_view c.in-Some-2.next) (kinds c.in-Some-2.rest.now) h in
    let less : length c.in-Some-2.rest.now < length c.statements.left.now = omega (arith, short, as_many c.in-Some-2.rest.now, as_many c.statements.left.now) in
    less

pub body-statements-preserved : goal.body-statements-preserved
body-statements-preserved t c =
    let h = rw c.in-Some-2.is at c.in_ok-statement.ensures in
    let short = one_shorter c.args.context c.args.depth (kinds c.statements.left.now) (boxed_view c.in-Some-2.next) (kinds c.in-Some-2.rest.now) h in
    blocking_goes (read_one c.args.depth c.args.context) c.statements.statements.items c.put_boxed.new.statements.items (kinds c.statements.left.now) (read_block (read_one c.args.depth c.args.context) (kinds c.args.tokens.now)) c.in-Some-2.next.value (kinds c.in-Some-2.rest.now) c.statements.invariant c.in_default.ensures h short c.in_ok-put_boxed-in-Some-2.ensures
