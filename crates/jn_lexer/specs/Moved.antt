-- The tokens of a piece of a text as tokens of the whole.
use Rattle.std.specs.Prelude.{◌≡◌, ℕ, ◌+◌, List, ◌++◌, map}
use Rattle.jn_base.specs.declared.number.FileNo.{FileNo}
use Rattle.jn_trees.specs.declared.token.Token.{Token}
use Rattle.jn_lexer.specs.Lexed.{Lexed, IsLexing}

-- the token, so many bytes further on
abbrev pub moved_token : ℕ → Token → Token
moved_token by t = record { kind = t.kind; span = record { file = t.span.file; from = by + t.span.from; to = by + t.span.to } }

abbrev pub moved : ℕ → List Token → List Token
moved by ts = map (moved_token by) ts

-- after the tokens `before` stand those of the piece, whose first byte is the whole's byte `at`; names are numbered as in `Lexed`
pub record LexedOnto (file : FileNo) (piece : List ℕ) (at : ℕ) (old : List (List ℕ)) (before : List Token) (new : List (List ℕ)) (tokens : List Token) : Type 0 where
  pub own : List Token
  pub lexed : Lexed file piece old own new
  pub put : tokens ≡ before ++ moved at own

-- as `LexedOnto`, of the piece's characters
pub record IsLexingOnto (file : FileNo) (piece : List ℕ) (at : ℕ) (old : List (List ℕ)) (before : List Token) (new : List (List ℕ)) (tokens : List Token) : Type 0 where
  pub own : List Token
  pub lexing : IsLexing file piece old own new
  pub put : tokens ≡ before ++ moved at own
