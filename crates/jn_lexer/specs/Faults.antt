-- What is wrong with a text that has no list of tokens.
use Rattle.std.specs.Prelude.{◌≡◌, ℕ, ◌+◌, ◌%◌, ◌≤◌, ◌⊎◌, Bool, true, false, ◌||◌, nat_eq, List, [], ◌∷◌, ◌++◌, length, IsUtf8, chars, None}
use Rattle.std.specs.List.{suffix_len}
use Rattle.std.specs.Str.{IsValidUpTo}
use Rattle.jn_base.specs.declared.number.FileNo.{FileNo}
use Rattle.jn_base.specs.declared.place.Row.{Row}
use Rattle.jn_base.specs.declared.code.Code.{Code}
use Rattle.jn_base.specs.declared.code.Code.TheVariants.{L1, L2, L3, L4, L5, L6, L7}
use Rattle.jn_lexer.specs.Characters.{is_white, is_digit, is_part, AllAre, BeginsNot, width}
use Rattle.jn_lexer.specs.Gaps.{Blank, gap_text, IsGap}
use Rattle.jn_lexer.specs.Lexemes.{Lexeme, IsSpelling, IsNumeral, Part, Escape, inside, AreParts, Mean, escape_value}
use Rattle.jn_lexer.specs.Pieces.{Piece, Behind}

-- Unicode escapes (JLS 3.3)

-- the character is the backslash, with which escapes begin (JLS 8, 3.3 and 3.10.6)
abbrev pub is_backslash : ℕ → Bool
is_backslash c = nat_eq c 92

-- after these characters a backslash and `u` begin a Unicode escape: they end with an even number of backslashes
abbrev pub IsEscapeBehind : List ℕ → List ℕ → Type 0
IsEscapeBehind text before = (after : List ℕ) × (text ≡ before ++ 92 ∷ 117 ∷ after) × (suffix_len is_backslash before % 2 ≡ 0)

-- nowhere in the text a backslash and `u` begin a Unicode escape (JLS 8, 3.3)
abbrev pub HasNoUnicodeEscape : List ℕ → Type 0
HasNoUnicodeEscape text = (before : List ℕ) → IsEscapeBehind text before → ⊥

-- the first one stands after `before`
abbrev pub IsFirstEscape : List ℕ → List ℕ → Type 0
IsFirstEscape text before = IsEscapeBehind text before × ((other : List ℕ) → IsEscapeBehind text other → length before ≤ length other)

-- Faults where a token should begin. In each the text is `front ++ c ∷ back`, and the fault is at `c`.

-- the characters at which there is a token, a comment or another fault
abbrev pub is_special : ℕ → Bool
is_special c = nat_eq c 34 || nat_eq c 46 || nat_eq c 47 || is_digit c

-- the text begins with a character that is not white, begins no token, and is none of the special ones
pub record IsBadCharacter (text : List ℕ) (c : ℕ) : Type 0 where
  pub back : List ℕ
  pub is : text ≡ c ∷ back
  pub other : is_special c ≡ false
  pub white : is_white c ≡ false
  pub none : (lexeme : Lexeme) (word rest : List ℕ) → text ≡ word ++ rest → IsSpelling lexeme word → ⊥

-- `/*` without `*/`
pub record IsOpenComment (text : List ℕ) : Type 0 where
  pub back : List ℕ
  pub is : text ≡ 47 ∷ 42 ∷ back
  pub open_end : (before after : List ℕ) → back ≡ before ++ 42 ∷ 47 ∷ after → ⊥

-- a `"` whose string isn't closed on its line
pub record IsOpenString (text : List ℕ) : Type 0 where
  pub back : List ℕ
  pub is : text ≡ 34 ∷ back
  pub open_end : (parts : List Part) (after : List ℕ) → AreParts parts → back ≡ inside parts ++ 34 ∷ after → ⊥

-- in a string, after good parts, another escape than the eight
pub record IsBadEscape (text front : List ℕ) : Type 0 where
  pub good : List Part
  pub letter : ℕ
  pub more : List Part
  pub after : List ℕ
  pub is : text ≡ 34 ∷ (inside (good ++ Escape letter ∷ more) ++ 34 ∷ after)
  pub parts : AreParts (good ++ Escape letter ∷ more)
  pub value : List ℕ
  pub mean : Mean good value
  pub bad : escape_value letter ≡ None
  pub place : front ≡ 34 ∷ inside good

-- a digit, and all identifier characters that follow
abbrev pub IsRun : List ℕ → Type 0
IsRun [] = ⊥
IsRun (c ∷ cs) = (is_digit c ≡ true) × AllAre is_part cs

-- that is no number, or is followed by `.`
pub record IsBadRun (text : List ℕ) : Type 0 where
  pub run : List ℕ
  pub after : List ℕ
  pub is : text ≡ run ++ after
  pub digits : IsRun run
  pub whole : BeginsNot is_part after
  pub bad : ((value : ℕ) → IsNumeral run value → ⊥) ⊎ ((rest : List ℕ) × (after ≡ 46 ∷ rest))

-- a `.` followed by a digit
pub record IsBadDot (text : List ℕ) : Type 0 where
  pub digit : ℕ
  pub back : List ℕ
  pub is : text ≡ 46 ∷ digit ∷ back
  pub digits : is_digit digit ≡ true

-- the fault of this code is in the text, at the character c after the characters `front`
abbrev pub IsFault : Code → List ℕ → List ℕ → ℕ → Type 0
IsFault L3 text front c = (front ≡ []) × IsBadCharacter text c
IsFault L4 text front c = (front ≡ []) × (c ≡ 47) × IsOpenComment text
IsFault L5 text front c = (front ≡ []) × (c ≡ 34) × IsOpenString text
IsFault L6 text front c = (c ≡ 92) × IsBadEscape text front
IsFault L7 text front c = (front ≡ []) × ((back : List ℕ) × (text ≡ c ∷ back)) × (IsBadRun text ⊎ IsBadDot text)
IsFault _ text front c = ⊥

-- the row stands at the character c, whose first byte is `place`
pub record IsAtCharacter (file : FileNo) (place c : ℕ) (row : Row) : Type 0 where
  pub file_is : row.span.file ≡ file
  pub from : row.span.from ≡ place
  pub to : row.span.to ≡ place + width (c ∷ [])

-- the first fault in the text where a token should begin: it is after pieces, white space and comments
pub record IsTokenFault (file : FileNo) (text : List ℕ) (row : Row) : Type 0 where
  pub pieces : List Piece
  pub rest : List ℕ
  pub place : ℕ
  pub behind : Behind text 0 pieces rest place
  pub blanks : List Blank
  pub body : List ℕ
  pub is : rest ≡ gap_text blanks ++ body
  pub gap : IsGap blanks body
  pub front : List ℕ
  pub c : ℕ
  pub fault : IsFault row.code body front c
  pub at : IsAtCharacter file (place + width (gap_text blanks) + width front) c row

-- the first byte of the first sequence that isn't UTF-8
pub record IsNotUtf8 (file : FileNo) (text : List ℕ) (row : Row) : Type 0 where
  pub not_utf8 : IsUtf8 text → ⊥
  pub up_to : IsValidUpTo text row.span.from
  pub code : row.code ≡ L1
  pub file_is : row.span.file ≡ file
  pub to : row.span.to ≡ row.span.from + 1

-- the first Unicode escape of a text in UTF-8
pub record HasUnicodeEscape (file : FileNo) (text : List ℕ) (row : Row) : Type 0 where
  pub utf8 : IsUtf8 text
  pub code : row.code ≡ L2
  pub before : List ℕ
  pub first : IsFirstEscape (chars text) before
  pub at : IsAtCharacter file (width before) 92 row

-- a text in UTF-8 without Unicode escapes that has a fault where a token should begin
pub record HasTokenFault (file : FileNo) (text : List ℕ) (row : Row) : Type 0 where
  pub utf8 : IsUtf8 text
  pub plain : HasNoUnicodeEscape (chars text)
  pub fault : IsTokenFault file (chars text) row

-- the fault of a text's bytes
abbrev pub LexicalFault : FileNo → List ℕ → Row → Type 0
LexicalFault file text row = IsNotUtf8 file text row ⊎ (HasUnicodeEscape file text row ⊎ HasTokenFault file text row)
