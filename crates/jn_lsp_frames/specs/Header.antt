-- Headers of the base protocol (LSP 3.17; the fields are those of HTTP, RFC 7230, 3.2): lines, each ended by CR LF, and an empty line.
use Rattle.std.specs.Prelude.{ℕ, ◌==◌, ◌≤◌, ◌≡◌, ◌≢◌, ◌||◌, Bool, true, List, [], ◌∷◌, ◌++◌, length, map, codes, Option, Some, None}
use Rattle.std.specs.List.{All, list_all, flat_map}
use Rattle.std.specs.Char.{to_ascii_lowercase}
use Rattle.std.specs.Str.Parse.{IsNumeral, digits_value}

-- a line of a header: not empty, and no CR LF in it
pub record IsLine (line : List ℕ) : Type 0 where
  pub some : line ≢ []
  pub whole : (front behind : List ℕ) → line ≢ front ++ 13 ∷ 10 ∷ behind

-- the lines, each ended by CR LF
abbrev pub ended : List (List ℕ) → List ℕ
ended lines = flat_map (λ line. line ++ 13 ∷ 10 ∷ []) lines

-- the header of these lines, with the empty line after them
pub record IsHeader (lines : List (List ℕ)) (block : List ℕ) : Type 0 where
  pub each : All IsLine lines
  pub parts : block ≡ ended lines ++ 13 ∷ 10 ∷ []
  pub few : length block ≤ 8192

pub record IsBlock (block : List ℕ) : Type 0 where
  pub lines : List (List ℕ)
  pub is : IsHeader lines block

-- no header stands at the front
abbrev pub HasNoBlock : List ℕ → Type 0
HasNoBlock bytes = (block behind : List ℕ) → IsBlock block → bytes ≢ block ++ behind

-- ---- fields

-- a field: its name, the first colon, and its value
pub record IsField (line name value : List ℕ) : Type 0 where
  pub parts : line ≡ name ++ 58 ∷ value
  pub first : All (λ byte. byte ≢ 58) name

-- the name is Content-Length, in any case
abbrev pub IsLengthName : List ℕ → Type 0
IsLengthName name = map to_ascii_lowercase name ≡ codes "content-length"

-- a field of another name
pub record IsOther (line : List ℕ) : Type 0 where
  pub name : List ℕ
  pub value : List ℕ
  pub field : IsField line name value
  pub other : IsLengthName name → ⊥

-- a space or a tab
abbrev pub is_blank : ℕ → Bool
is_blank byte = byte == 32 || byte == 9

-- one to nine decimal digits, with blanks around them, write this number
pub record IsNumber (value : List ℕ) (number : ℕ) : Type 0 where
  pub before : List ℕ
  pub digits : List ℕ
  pub behind : List ℕ
  pub parts : value ≡ before ++ digits ++ behind
  pub blanks : list_all is_blank before ≡ true
  pub numeral : IsNumeral 10 digits
  pub few : length digits ≤ 9
  pub blanks_behind : list_all is_blank behind ≡ true
  pub is : number ≡ digits_value 10 digits

-- each line is a field, one alone is Content-Length, and its value is the number
pub record SaysLength (lines : List (List ℕ)) (number : ℕ) : Type 0 where
  pub before : List (List ℕ)
  pub line : List ℕ
  pub behind : List (List ℕ)
  pub name : List ℕ
  pub value : List ℕ
  pub parts : lines ≡ before ++ line ∷ behind
  pub field : IsField line name value
  pub named : IsLengthName name
  pub others : All IsOther before
  pub others_behind : All IsOther behind
  pub number_is : IsNumber value number

-- how many bytes the lines say that follow the header, where they are legal
abbrev pub Says : List (List ℕ) → Option ℕ → Type 0
Says lines None = (number : ℕ) → SaysLength lines number → ⊥
Says lines (Some number) = SaysLength lines number
