-- What the reader of statements gives by the first token.
use Rattle.std.proofs.Common.{◌≡◌, ℕ, zero, suc, ◌+◌, ◌-◌, ◌<◌, List, [], ◌∷◌, refl, sym, ap, ◌∙◌, arith, Some, None}
use Rattle.jn_trees.specs.declared.context.Context.{Context}
use Rattle.jn_trees.specs.declared.token.TokenKind.{TokenKind}
use Rattle.jn_trees.specs.declared.token.TokenKind.TheVariants.{Break, Continue, Do, For, If, Return, Super, This, While, LeftParen, LeftBrace, Semicolon}
use Rattle.jn_trees.specs.Longest.{Try, TryStatement}
use Rattle.jn_parse_expr_law.specs.Reader.{reader}
use Rattle.jn_parse_stmt_law.specs.StatementReader.{statement_reader, statement_at, simple}
use Rattle.jn_parse_stmt.specs.Heads.{read_one}

back : (d : ℕ) → d ≡ suc d - 1
back d = omega arith

pub one_none : (c : Context) (d : ℕ) (ts : List TokenKind) → d ≡ 0 → read_one d c ts ≡ None
unfolding read_one
one_none c d ts e = ap (λ n. statement_reader n c ts) e

pub one_at : (c : Context) (d : ℕ) (ts us : List TokenKind) → 0 < d → ts ≡ us → read_one d c ts ≡ statement_at (reader (d - 1)).whole (read_one (d - 1)) c us
unfolding read_one
one_at c zero ts us lt e = absurd (omega (arith, lt))
one_at c (suc d) ts us lt e = ap (λ n. statement_at (reader n).whole (statement_reader n) c ts) (back d) ∙ ap (λ x. statement_at (reader (suc d - 1)).whole (statement_reader (suc d - 1)) c x) e

module _ (whole : List TokenKind → Try) (one : Context → List TokenKind → TryStatement) (c : Context) where
  pub at_nothing : statement_at whole one c [] ≡ simple whole c.direct []
  at_nothing = refl

  pub at_this : (ts : List TokenKind) → ((us : List TokenKind) → ts ≡ LeftParen ∷ us → ⊥) → statement_at whole one c (This ∷ ts) ≡ simple whole c.direct (This ∷ ts)
  at_this (LeftParen ∷ ts) h = absurd (h ts refl)
  at_this _ h = refl

  pub at_super : (ts : List TokenKind) → ((us : List TokenKind) → ts ≡ LeftParen ∷ us → ⊥) → statement_at whole one c (Super ∷ ts) ≡ simple whole c.direct (Super ∷ ts)
  at_super (LeftParen ∷ ts) h = absurd (h ts refl)
  at_super _ h = refl

  -- no statement has a word of its own there
  pub at_other : (k : TokenKind) (ts : List TokenKind) → (k ≡ LeftBrace → ⊥) → (k ≡ Semicolon → ⊥) → (k ≡ Break → ⊥) → (k ≡ Continue → ⊥) → (k ≡ Return → ⊥) → (k ≡ If → ⊥) → (k ≡ While → ⊥) → (k ≡ Do → ⊥) → (k ≡ For → ⊥) → (k ≡ This → ⊥) → (k ≡ Super → ⊥)
      → statement_at whole one c (k ∷ ts) ≡ simple whole c.direct (k ∷ ts)
  at_other LeftBrace ts h1 h2 h3 h4 h5 h6 h7 h8 h9 h10 h11 = absurd (h1 refl)
  at_other Semicolon ts h1 h2 h3 h4 h5 h6 h7 h8 h9 h10 h11 = absurd (h2 refl)
  at_other Break ts h1 h2 h3 h4 h5 h6 h7 h8 h9 h10 h11 = absurd (h3 refl)
  at_other Continue ts h1 h2 h3 h4 h5 h6 h7 h8 h9 h10 h11 = absurd (h4 refl)
  at_other Return ts h1 h2 h3 h4 h5 h6 h7 h8 h9 h10 h11 = absurd (h5 refl)
  at_other If ts h1 h2 h3 h4 h5 h6 h7 h8 h9 h10 h11 = absurd (h6 refl)
  at_other While ts h1 h2 h3 h4 h5 h6 h7 h8 h9 h10 h11 = absurd (h7 refl)
  at_other Do ts h1 h2 h3 h4 h5 h6 h7 h8 h9 h10 h11 = absurd (h8 refl)
  at_other For ts h1 h2 h3 h4 h5 h6 h7 h8 h9 h10 h11 = absurd (h9 refl)
  at_other This ts h1 h2 h3 h4 h5 h6 h7 h8 h9 h10 h11 = absurd (h10 refl)
  at_other Super ts h1 h2 h3 h4 h5 h6 h7 h8 h9 h10 h11 = absurd (h11 refl)
  at_other _ ts h1 h2 h3 h4 h5 h6 h7 h8 h9 h10 h11 = refl

pub same_read : (c : Context) (d : ℕ) (ts : List TokenKind) → read_one d c ts ≡ statement_reader d c ts
unfolding read_one
same_read c d ts = refl
