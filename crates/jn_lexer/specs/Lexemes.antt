-- Tokens and their spellings (JLS 3.8 to 3.12).
use Rattle.std.specs.Prelude.{◌≡◌, ℕ, ◌+◌, ◌-◌, ◌*◌, ◌≤◌, Bool, true, false, not, ◌&&◌, ◌||◌, nat_eq, if◌then◌else◌, List, [], ◌∷◌, ◌++◌, length, slice_index, Option, Some, None}
use Rattle.std.specs.List.{list_all}
use Rattle.jn_trees.specs.declared.token.TokenKind.{TokenKind}
use Rattle.jn_trees.specs.declared.token.TokenKind.TheVariants.{Dot, Slash}
use Rattle.jn_lexer.specs.Characters.{is_start, is_part, is_digit, is_digit_or_low, is_plain, is_line_end, AllAre}
use Rattle.jn_lexer.specs.Spelling.{spelling}

-- what a token says: an identifier's characters, a string's value, a number's value, or its kind
pub data Lexeme : Type 0 where
  Word : List ℕ → Lexeme
  Quoted : List ℕ → Lexeme
  Numeral : ℕ → Lexeme
  Fixed : TokenKind → Lexeme

-- the characters are as an identifier's (JLS 3.8)
abbrev pub IsWord : List ℕ → Type 0
IsWord [] = ⊥
IsWord (c ∷ cs) = (is_start c ≡ true) × AllAre is_part cs

-- `0`
abbrev pub is_zero : List ℕ → Bool
is_zero [] = false
is_zero (c ∷ cs) = nat_eq c 48 && nat_eq (length cs) 0

-- the last character of the word is a digit, and no underscore
abbrev pub ends_in_digit : List ℕ → Bool
ends_in_digit word = is_digit (slice_index word (length word - 1))

-- 1 to 9 and then digits and underscores, the last a digit
abbrev pub is_long : List ℕ → Bool
is_long [] = false
is_long (c ∷ cs) = (is_digit c && not (nat_eq c 48)) && list_all is_digit_or_low cs && ends_in_digit (c ∷ cs)

-- how a number is written (JLS 3.10.1)
unfoldable pub is_decimal : List ℕ → Bool
is_decimal word = is_zero word || is_long word

-- the value of decimal digits after those of `n`; underscores don't count
abbrev pub value_from : ℕ → List ℕ → ℕ
value_from n [] = n
value_from n (c ∷ cs) = value_from (if is_digit c then n * 10 + (c - 48) else n) cs

-- the word is a decimal number of this value, at most 2147483648, the one past the greatest `int` (JLS 8, 3.10.1)
abbrev pub IsNumeral : List ℕ → ℕ → Type 0
IsNumeral word value = (is_decimal word ≡ true) × (value ≡ value_from 0 word) × (value ≤ 2147483648)

-- the parts of a string's inside: a character, and an escape by the character after its backslash (JLS 3.10.5, 3.10.6)
pub data Part : Type 0 where
  Plain : ℕ → Part
  Escape : ℕ → Part

-- the characters of a part as they stand in the text, an escape with its backslash
abbrev pub part_text : Part → List ℕ
part_text (Plain c) = c ∷ []
part_text (Escape e) = 92 ∷ e ∷ []

-- the part can stand in a string: a character that stands for itself, or an escape within its line (JLS 8, 3.10.5)
abbrev pub IsPart : Part → Type 0
IsPart (Plain c) = is_plain c ≡ true
IsPart (Escape e) = is_line_end e ≡ false

-- what stands between the two quotes of a string with these parts
abbrev pub inside : List Part → List ℕ
inside [] = []
inside (p ∷ ps) = part_text p ++ inside ps

-- each of the parts can stand in a string
abbrev pub AreParts : List Part → Type 0
AreParts [] = Unit {0}
AreParts (p ∷ ps) = IsPart p × AreParts ps

-- what the escapes `\b \t \n \f \r \" \' \\` stand for
unfoldable pub escape_value : ℕ → Option ℕ
escape_value e =
    if nat_eq e 98 then Some 8
    else (if nat_eq e 116 then Some 9
    else (if nat_eq e 110 then Some 10
    else (if nat_eq e 102 then Some 12
    else (if nat_eq e 114 then Some 13
    else (if nat_eq e 34 || nat_eq e 39 || nat_eq e 92 then Some e else None)))))

-- the character that a part stands for, or none where it is another escape than the eight
abbrev pub part_value : Part → Option ℕ
part_value (Plain c) = Some c
part_value (Escape e) = escape_value e

-- the parts stand for these characters, and each escape is one of the eight
abbrev pub Mean : List Part → List ℕ → Type 0
Mean [] [] = Unit {0}
Mean [] (v ∷ vs) = ⊥
Mean (p ∷ ps) [] = ⊥
Mean (p ∷ ps) (v ∷ vs) = (part_value p ≡ Some v) × Mean ps vs

-- `"`, parts that stand for the value, and `"`
pub record IsQuoted (word value : List ℕ) : Type 0 where
  pub parts : List Part
  pub is : word ≡ 34 ∷ (inside parts ++ 34 ∷ [])
  pub good : AreParts parts
  pub mean : Mean parts value

-- the word spells the token
abbrev pub IsSpelling : Lexeme → List ℕ → Type 0
IsSpelling (Word text) word = (word ≡ text) × IsWord word × ((kind : TokenKind) → spelling kind ≡ word → ⊥)
IsSpelling (Quoted value) word = IsQuoted word value
IsSpelling (Numeral value) word = IsNumeral word value
IsSpelling (Fixed kind) word = (word ≡ spelling kind) × (1 ≤ length word)

-- what may not follow a sign at once: a digit a `.`, and `/` or `*` a `/`
abbrev pub hinders_kind : TokenKind → ℕ → Bool
hinders_kind Dot c = is_digit c
hinders_kind Slash c = nat_eq c 47 || nat_eq c 42
hinders_kind _ c = false

-- whether the token cannot stand where this character follows it at once
abbrev pub hinders : Lexeme → ℕ → Bool
hinders (Word text) c = false
hinders (Quoted value) c = false
hinders (Numeral value) c = is_part c || nat_eq c 46
hinders (Fixed kind) c = hinders_kind kind c

-- no longer token can stand at the front of the text
abbrev pub NoneLonger : ℕ → List ℕ → Type 0
NoneLonger n text = (lexeme : Lexeme) (word rest : List ℕ) → text ≡ word ++ rest → IsSpelling lexeme word → length word ≤ n
