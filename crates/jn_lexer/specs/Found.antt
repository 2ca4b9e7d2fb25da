-- What a scan finds at the front of a text.
use Rattle.std.specs.Prelude.{◌≡◌, ℕ, ◌-◌, ◌<◌, ◌≤◌, false, List, [], ◌∷◌, ◌++◌, length, take, drop, Option, Some, None, ◌+◌, Bool, true, nat_eq}
use Rattle.jn_lexer.specs.declared.shape.Shape.{Shape}
use Rattle.jn_lexer.specs.declared.shape.Found.{Found}
use Rattle.jn_lexer.specs.declared.shape.Fault.{Fault}
use Rattle.jn_lexer.specs.declared.shape.Step.{Step}
use Rattle.jn_lexer.specs.declared.shape.Spelled.{Spelled}
use Rattle.jn_base.specs.declared.number.FileNo.{FileNo}
use Rattle.jn_base.specs.declared.place.Row.{Row}
use Rattle.jn_lexer.specs.declared.shape.Shape.TheVariants as shape
use Rattle.jn_lexer.specs.declared.shape.Step.TheVariants.{Of, Ends, Opens}
use Rattle.jn_lexer.specs.Characters.{BeginsNot, is_start, is_digit, width}
use Rattle.jn_lexer.specs.Gaps.{Blank, blank_text, IsBlank, gap_text, IsGap}
use Rattle.jn_lexer.specs.Lexemes.{Lexeme, Word, Quoted, Numeral, Fixed, IsSpelling, hinders, NoneLonger}
use Rattle.jn_lexer.specs.Faults.{IsFault, IsOpenComment, IsAtCharacter}
use Rattle.jn_lexer.specs.Scan.{unescaped, begins_blank}

-- what stands between the first and the last character
abbrev pub between : List ℕ → List ℕ
between word = take (length word - 2) (drop 1 word)

-- the token that a word of this shape spells
abbrev pub lexeme_of : Shape → List ℕ → Lexeme
lexeme_of shape.Word word = Word word
lexeme_of shape.Quoted word = Quoted (unescaped false (between word))
lexeme_of (shape.Number value) word = Numeral value
lexeme_of (shape.Fixed kind) word = Fixed kind

-- the token stands at the front of the text with n characters
pub record IsToken (text : List ℕ) (lexeme : Lexeme) (n : ℕ) : Type 0 where
  pub spelled : IsSpelling lexeme (take n text)
  pub free : BeginsNot (hinders lexeme) (drop n text)
  pub longest : NoneLonger n text
  pub within : n ≤ length text
  pub some : 0 < n

abbrev pub IsFound : List ℕ → Found → Type 0
IsFound text found = IsToken text (lexeme_of found.shape (take found.count text)) found.count

-- the fault is after so many characters of the text
abbrev pub IsFaultHere : List ℕ → Fault → Type 0
IsFaultHere text fault = (front : List ℕ) × (c : ℕ) × (back : List ℕ) × (text ≡ front ++ c ∷ back) × (length front ≡ fault.before) × IsFault fault.code text front c

-- the first n characters of the text are white space and comments
abbrev pub IsGapOf : List ℕ → ℕ → Type 0
IsGapOf text n = (blanks : List Blank) × (gap_text blanks ≡ take n text) × IsGap blanks (drop n text)

-- the first n characters of the text are white space or a comment
abbrev pub IsBlankOf : List ℕ → ℕ → Type 0
IsBlankOf text n = (blank : Blank) × (blank_text blank ≡ take n text) × IsBlank blank (drop n text)

-- what stands at the front of the text
abbrev pub IsStep : List ℕ → Step → Type 0
IsStep text (Of n) = IsBlankOf text n × (0 < n) × (n ≤ length text)
IsStep text Ends = begins_blank text ≡ false
IsStep text Opens = IsOpenComment text

-- a comment, by the length of what stands after its `/*`
abbrev pub closed : Option ℕ → Step
closed None = Opens
closed (Some n) = Of (2 + n)

-- the text begins with a character that passes
abbrev pub BeginsWith : (ℕ → Bool) → List ℕ → Type 0
BeginsWith p [] = ⊥
BeginsWith p (c ∷ cs) = p c ≡ true

-- the text begins with no character of an identifier, a number, a string, white space or a comment
abbrev pub IsMarkPlace : List ℕ → Type 0
IsMarkPlace [] = ⊥
IsMarkPlace (c ∷ cs) = (is_start c ≡ false) × (is_digit c ≡ false) × (nat_eq c 34 ≡ false) × (begins_blank (c ∷ cs) ≡ false)

-- no token can stand at the front of the text
abbrev pub NoToken : List ℕ → Type 0
NoToken text = (lexeme : Lexeme) (word rest : List ℕ) → text ≡ word ++ rest → IsSpelling lexeme word → ⊥

abbrev pub is_quote : ℕ → Bool
is_quote c = nat_eq c 34

-- a string's word has its two quotes
abbrev pub HasQuotes : Shape → List ℕ → Type 0
HasQuotes shape.Quoted word = 2 ≤ length word
HasQuotes _ word = Unit {0}

-- the text is white space and comments
abbrev pub IsAllGap : List ℕ → Type 0
IsAllGap text = (blanks : List Blank) × (text ≡ gap_text blanks) × IsGap blanks []

abbrev pub body_of : List ℕ → Spelled → List ℕ
body_of text s = drop s.gap text

abbrev pub word_of : List ℕ → Spelled → List ℕ
word_of text s = take s.count (body_of text s)

-- the next token of the text, whose first byte is `at`
pub record IsNext (text : List ℕ) (at : ℕ) (s : Spelled) : Type 0 where
  pub gap : IsGapOf text s.gap
  pub token : IsToken (body_of text s) (lexeme_of s.shape (word_of text s)) s.count
  pub from : s.from ≡ at + width (take s.gap text)
  pub to : s.to ≡ s.from + width (word_of text s)
  pub within : s.gap + s.count ≤ length text

-- after white space and comments of the text, whose first byte is `at`, there is a fault
pub record IsFaultNext (file : FileNo) (text : List ℕ) (at : ℕ) (row : Row) : Type 0 where
  pub blanks : List Blank
  pub body : List ℕ
  pub is : text ≡ gap_text blanks ++ body
  pub gap : IsGap blanks body
  pub front : List ℕ
  pub c : ℕ
  pub fault : IsFault row.code body front c
  pub place : IsAtCharacter file (at + width (gap_text blanks) + width front) c row

-- whether there is a next token
abbrev pub IsNextOrEnd : List ℕ → ℕ → Option Spelled → Type 0
IsNextOrEnd text at None = IsAllGap text
IsNextOrEnd text at (Some s) = IsNext text at s
