-- Statements of a block, one by one, and what the reader of statements gives by the first token.
use Rattle.std.proofs.Common.{◌≡◌, ℕ, zero, suc, ◌+◌, ◌-◌, ◌<◌, ◌≤◌, List, [], ◌∷◌, ◌++◌, length, refl, sym, ap, ◌∙◌, subst, arith, length-append, Option, Some, None}
use Rattle.jn_trees.specs.declared.context.Context.{Context}
use Rattle.jn_trees.specs.declared.token.TokenKind.{TokenKind}
use Rattle.jn_trees.specs.declared.token.TokenKind.TheVariants.{Break, Continue, Do, Else, For, If, Return, Super, This, While, LeftParen, LeftBrace, RightBrace, Semicolon, Colon}
use Rattle.jn_trees.specs.declared.statement.Stmt.{Stmt}
use Rattle.jn_trees.specs.Trees.{Tree, Statement, Statements, NoStatements, MoreStatements, EmptyStatement, BreakStatement, ContinueStatement, ThisCallStatement, SuperCallStatement, IfStatement}
use Rattle.jn_trees.specs.Spelling.{spell_statement}
use Rattle.jn_trees.specs.WellFormed.{under, in_block, loop_body}
use Rattle.jn_trees.specs.View.{statement_view, statement_views}
use Rattle.jn_trees.specs.Longest.{Try, TryStatement, IsLongestStatement}
use Rattle.jn_parse_expr_law.specs.Reader.{reader}
use Rattle.jn_parse_stmt_law.specs.Parts.{Read, then_read}
use Rattle.jn_parse_stmt_law.specs.StatementReader.{block_from, read_block, statement_reader, statement_at, block_statement, loop_word, return_statement, if_statement, while_statement, do_statement, for_statement, constructor_call, simple}
use Rattle.jn_parse_stmt_law.proofs.Statements.{some_tokens}
use Rattle.jn_parse_stmt_law.proofs.Laws.{longest}
use Rattle.jn_parse_stmt.specs.Heads.{read_one}

-- these statements before those
abbrev pub chained : Statements → Statements → Statements
chained NoStatements us = us
chained (MoreStatements s ss) us = MoreStatements s (chained ss us)

abbrev pub ahead_of : Statements → Read Statements → Read Statements
ahead_of ss None = None
ahead_of ss (Some r) = Some (chained ss r.0, r.1)

-- n turns are enough for what is left
pub record Blocking (one : List TokenKind → TryStatement) (before : Statements) (left : List TokenKind) (all : Read Statements) : Type 0 where
  pub n : ℕ
  pub room : length left < n
  pub gives : all ≡ ahead_of before (block_from one n left)

chained_push : (ss : List Stmt) (s : Stmt) (us : Statements) → chained (statement_views (ss ++ s ∷ [])) us ≡ chained (statement_views ss) (MoreStatements (statement_view s) us)
chained_push [] s us = refl
chained_push (x ∷ ss) s us = ap (λ ts. MoreStatements (statement_view x) ts) (chained_push ss s us)

chained_none : (ss : Statements) → chained ss NoStatements ≡ ss
chained_none NoStatements = refl
chained_none (MoreStatements s ss) = ap (λ ts. MoreStatements s ts) (chained_none ss)

abbrev add : Statement → Read Statements → Read Statements
add s o = then_read o (λ ss us. Some (MoreStatements s ss, us))

ahead_push : (ss : List Stmt) (s : Stmt) (o : Read Statements) → ahead_of (statement_views ss) (add (statement_view s) o) ≡ ahead_of (statement_views (ss ++ s ∷ [])) o
ahead_push ss s None = refl
ahead_push ss s (Some r) = ap (λ ts. Some (ts, r.1)) (sym (chained_push ss s r.0))

nothing_ahead : (o : Read Statements) → o ≡ ahead_of NoStatements o
nothing_ahead None = refl
nothing_ahead (Some r) = refl

pub blocking_starts : (one : List TokenKind → TryStatement) (ts : List TokenKind) (ss : List Stmt) → ss ≡ [] → Blocking one (statement_views ss) ts (read_block one ts)
unfolding read_block
blocking_starts one ts ss e = record {
  n = suc (length ts);
  room = omega arith;
  gives = nothing_ahead (read_block one ts) ∙ ap (λ xs. ahead_of (statement_views xs) (read_block one ts)) (sym e);
}

ends_by : (one : List TokenKind → TryStatement) (before : Statements) (left : List TokenKind) (all : Read Statements) (n : ℕ) → length left < n → all ≡ ahead_of before (block_from one n left) → (rest : List TokenKind) → left ≡ RightBrace ∷ rest → all ≡ Some (before, rest)
ends_by one before left all zero lt g rest e = absurd (omega (arith, lt))
ends_by one before left all (suc n) lt g rest e = g ∙ ap (λ ts. ahead_of before (block_from one (suc n) ts)) e ∙ ap (λ ss. Some (ss, rest)) (chained_none before)

pub blocking_ends : (one : List TokenKind → TryStatement) (before : Statements) (left : List TokenKind) (all : Read Statements) → Blocking one before left all → (rest : List TokenKind) → left ≡ RightBrace ∷ rest → all ≡ Some (before, rest)
blocking_ends one before left all g rest e = ends_by one before left all g.n g.room g.gives rest e

no_brace : (one : List TokenKind → TryStatement) (n : ℕ) (ts : List TokenKind) → ((x : List TokenKind) → ts ≡ RightBrace ∷ x → ⊥) → block_from one (suc n) ts ≡ then_read (one ts) (λ s us. then_read (block_from one n us) (λ ss vs. Some (MoreStatements s ss, vs)))
no_brace one n (RightBrace ∷ ts) h = absurd (h ts refl)
no_brace one n _ h = refl

turn_by : (one : List TokenKind → TryStatement) (before : Statements) (left : List TokenKind) (all : Read Statements) (n : ℕ) → length left < n → all ≡ ahead_of before (block_from one n left) → ((x : List TokenKind) → left ≡ RightBrace ∷ x → ⊥)
    → (o : TryStatement) → one left ≡ o → (m : ℕ) × (length left < suc m) × (all ≡ ahead_of before (then_read o (λ s us. add s (block_from one m us))))
turn_by one before left all zero lt g h o e = absurd (omega (arith, lt))
turn_by one before left all (suc n) lt g h o e =
    (n, lt, g ∙ ap (λ x. ahead_of before x) (no_brace one n left h) ∙ ap (λ x. ahead_of before (then_read x (λ s us. add s (block_from one n us)))) e)

pub blocking_fails : (one : List TokenKind → TryStatement) (before : Statements) (left : List TokenKind) (all : Read Statements) → Blocking one before left all → ((x : List TokenKind) → left ≡ RightBrace ∷ x → ⊥) → one left ≡ None → all ≡ None
blocking_fails one before left all g h e = (turn_by one before left all g.n g.room g.gives h None e).2

pub blocking_goes : (one : List TokenKind → TryStatement) (ss all_ss : List Stmt) (left : List TokenKind) (all : Read Statements) (s : Stmt) (rest : List TokenKind) → Blocking one (statement_views ss) left all → ((x : List TokenKind) → left ≡ RightBrace ∷ x → ⊥)
    → one left ≡ Some (statement_view s, rest) → length rest < length left → all_ss ≡ ss ++ s ∷ [] → Blocking one (statement_views all_ss) rest all
blocking_goes one ss all_ss left all s rest g h e short same =
    let p = turn_by one (statement_views ss) left all g.n g.room g.gives h (Some (statement_view s, rest)) e in
    record {
      n = p.0;
      room = omega (arith, short, p.1);
      gives = p.2 ∙ ahead_push ss s (block_from one p.0 rest) ∙ ap (λ xs. ahead_of (statement_views xs) (block_from one p.0 rest)) (sym same);
    }

shorter_by : (c : Context) (d : ℕ) (ts : List TokenKind) (o : TryStatement) (s : Statement) (rest : List TokenKind) → IsLongestStatement c d ts o → o ≡ Some (s, rest) → length rest < length ts
shorter_by c d ts None s rest l e = cc
shorter_by c d ts (Some r) s rest l e =
    let same : r ≡ (s, rest) = cc in
    subst (λ (x : Statement × List TokenKind). length x.1 < length ts) same (omega (arith, ap length l.0.0, length-append (spell_statement r.0) r.1, some_tokens r.0))

pub one_shorter : (c : Context) (d : ℕ) (ts : List TokenKind) (s : Statement) (rest : List TokenKind) → read_one d c ts ≡ Some (s, rest) → length rest < length ts
unfolding read_one
one_shorter c d ts s rest e = shorter_by c d ts (statement_reader d c ts) s rest (longest c d ts) e
