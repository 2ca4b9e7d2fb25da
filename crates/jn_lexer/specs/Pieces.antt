-- A text as its tokens, with white space and comments between them.
use Rattle.std.specs.Prelude.{◌≡◌, ℕ, ◌+◌, List, [], ◌∷◌, ◌++◌, length}
use Rattle.jn_lexer.specs.Characters.{BeginsNot, width}
use Rattle.jn_lexer.specs.Gaps.{Blank, gap_text, IsGap}
use Rattle.jn_lexer.specs.Lexemes.{Lexeme, IsSpelling, hinders, NoneLonger}

-- a token with the bytes from which on and up to which it stands
pub record Piece : Type 0 where
  pub lexeme : Lexeme
  pub from : ℕ
  pub to : ℕ

-- the text, whose first byte is `at`, is white space and comments, the piece, and then `after`; and no longer token stands there
pub record Stands (text : List ℕ) (at : ℕ) (p : Piece) (after : List ℕ) : Type 0 where
  pub blanks : List Blank
  pub word : List ℕ
  pub is : text ≡ gap_text blanks ++ (word ++ after)
  pub gap : IsGap blanks (word ++ after)
  pub from : p.from ≡ at + width (gap_text blanks)
  pub to : p.to ≡ p.from + width word
  pub spelled : IsSpelling p.lexeme word
  pub free : BeginsNot (hinders p.lexeme) after
  pub longest : NoneLonger (length word) (word ++ after)

-- the text, whose first byte is `at`, is these pieces, and then `rest`, whose first byte is `place`
abbrev pub Behind : List ℕ → ℕ → List Piece → List ℕ → ℕ → Type 0
Behind text at [] rest place = (rest ≡ text) × (place ≡ at)
Behind text at (p ∷ ps) rest place = (after : List ℕ) × Stands text at p after × Behind after p.to ps rest place

-- the text is these pieces, and after them only white space and comments
pub record ArePieces (text : List ℕ) (pieces : List Piece) : Type 0 where
  pub rest : List ℕ
  pub place : ℕ
  pub behind : Behind text 0 pieces rest place
  pub blanks : List Blank
  pub is : rest ≡ gap_text blanks
  pub gap : IsGap blanks []
