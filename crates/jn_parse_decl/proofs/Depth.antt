-- Declarators and statements of the greatest nesting.
use Rattle.std.proofs.Common.{◌≡◌, ℕ, List, sym, ap, ◌∙◌, Option, Result, Ok, Err, IfOk, Vec, Bool}
use Rattle.std.specs.Borrow.{Bor}
use Rattle.std.specs.declared.alloc.Global.{Global}
use Rattle.jn_base.specs.declared.refusal.OutOfMemory.{OutOfMemory}
use Rattle.jn_trees.specs.declared.context.Context.{Context}
use Rattle.jn_trees.specs.declared.token.Token.{Token}
use Rattle.jn_trees.specs.declared.token.TokenKind.{TokenKind}
use Rattle.jn_trees.specs.declared.statement.Declarator.{Declarator}
use Rattle.jn_trees.specs.declared.statement.Stmt.{Stmt}
use Rattle.jn_trees.specs.WellFormed.{deepest, body_context}
use Rattle.jn_trees.specs.Longest.{TryStatement, IsLongestStatement, seen_statement}
use Rattle.jn_parse_expr_law.specs.Reader.{reader}
use Rattle.jn_parse_stmt_law.specs.Parts.{read_declarators}
use Rattle.jn_parse_stmt_law.specs.StatementReader.{statement_reader}
use Rattle.jn_parse_stmt.specs.Seen.{maybe_declarators}
use Rattle.jn_parse_decl_law.specs.PieceReader.{read_field_declarators, read_body_statement}

fields_at : (d : ℕ) (ts : List TokenKind) → d ≡ deepest → read_declarators (reader d).whole ts ≡ read_field_declarators ts
unfolding read_field_declarators
fields_at d ts e = ap (λ n. read_declarators (reader n).whole ts) e

pub fields_read : (r : Result (Option (Declarator × Vec Declarator Global × Bor (List Token))) OutOfMemory) (d : ℕ) (ts : List TokenKind) → d ≡ deepest → IfOk r (λ o. read_declarators (reader d).whole ts ≡ maybe_declarators o) → IfOk r (λ o. maybe_declarators o ≡ read_field_declarators ts)
fields_read (Ok o) d ts e h = sym h ∙ fields_at d ts e
fields_read (Err x) d ts e h = h

body_at : (d : ℕ) (leading : Bool) (ts : List TokenKind) → d ≡ deepest → statement_reader d (body_context leading) ts ≡ read_body_statement leading ts
unfolding read_body_statement
body_at d leading ts e = ap (λ n. statement_reader n (body_context leading) ts) e

pub body_read : ((c : Context) (d : ℕ) (ts : List TokenKind) → IsLongestStatement c d ts (statement_reader d c ts))
    → ((c : Context) (d : ℕ) (ts : List TokenKind) (a b : TryStatement) → IsLongestStatement c d ts a → IsLongestStatement c d ts b → a ≡ b)
    → (r : Result (Option (Stmt × Bor (List Token))) OutOfMemory) (d : ℕ) (leading : Bool) (ts : List TokenKind) → d ≡ deepest → IfOk r (λ o. IsLongestStatement (body_context leading) d ts (seen_statement o)) → IfOk r (λ o. seen_statement o ≡ read_body_statement leading ts)
body_read longest unique (Ok o) d leading ts e h = unique (body_context leading) d ts (seen_statement o) (statement_reader d (body_context leading) ts) h (longest (body_context leading) d ts) ∙ body_at d leading ts e
body_read longest unique (Err x) d leading ts e h = h
