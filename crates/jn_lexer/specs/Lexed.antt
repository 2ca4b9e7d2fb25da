-- The tokens of a text, with their names numbered.
use Rattle.std.specs.Prelude.{◌≡◌, ℕ, List, [], ◌∷◌, IsUtf8, chars, encode_utf8_all}
use Rattle.jn_base.specs.declared.number.FileNo.{FileNo}
use Rattle.jn_trees.specs.Names.{with_name, number_in}
use Rattle.jn_trees.specs.declared.token.Token.{Token}
use Rattle.jn_trees.specs.declared.token.TokenKind.{TokenKind}
use Rattle.jn_trees.specs.declared.token.TokenKind.TheVariants.{Id, Str, Number}
use Rattle.jn_lexer.specs.Lexemes.{Lexeme, Word, Quoted, Numeral, Fixed}
use Rattle.jn_lexer.specs.Pieces.{Piece, ArePieces}
use Rattle.jn_lexer.specs.Faults.{HasNoUnicodeEscape}

-- the names with those of the token
abbrev pub names_with : List (List ℕ) → Lexeme → List (List ℕ)
names_with names (Word text) = with_name names (encode_utf8_all text)
names_with names (Quoted value) = with_name names (encode_utf8_all value)
names_with names (Numeral value) = names
names_with names (Fixed kind) = names

-- the token's kind, with its name's number
abbrev pub kind_of : List (List ℕ) → Lexeme → TokenKind
kind_of names (Word text) = Id (record { 0 = number_in names (encode_utf8_all text) })
kind_of names (Quoted value) = Str (record { 0 = number_in names (encode_utf8_all value) })
kind_of names (Numeral value) = Number value
kind_of names (Fixed kind) = kind

-- the names with those of all pieces, in their order
abbrev pub names_after : List (List ℕ) → List Piece → List (List ℕ)
names_after names [] = names
names_after names (p ∷ ps) = names_after (names_with names p.lexeme) ps

-- the pieces as tokens of the file
abbrev pub tokens_of : FileNo → List (List ℕ) → List Piece → List Token
tokens_of file names [] = []
tokens_of file names (p ∷ ps) = (record { kind = kind_of names p.lexeme; span = record { file = file; from = p.from; to = p.to } }) ∷ tokens_of file (names_with names p.lexeme) ps

-- the text's bytes are these tokens, and their names, numbered in the order of the tokens, make the old list of names the new one
pub record Lexed (file : FileNo) (text : List ℕ) (old : List (List ℕ)) (tokens : List Token) (new : List (List ℕ)) : Type 0 where
  pub utf8 : IsUtf8 text
  pub plain : HasNoUnicodeEscape (chars text)
  pub pieces : List Piece
  pub are : ArePieces (chars text) pieces
  pub tokens_are : tokens ≡ tokens_of file old pieces
  pub names_are : new ≡ names_after old pieces

-- the characters are these tokens, and their names make the old list the new one
pub record IsLexing (file : FileNo) (text : List ℕ) (old : List (List ℕ)) (tokens : List Token) (new : List (List ℕ)) : Type 0 where
  pub pieces : List Piece
  pub are : ArePieces text pieces
  pub tokens_are : tokens ≡ tokens_of file old pieces
  pub names_are : new ≡ names_after old pieces
