-- Parts of a header as they are found.
use Rattle.std.specs.Prelude.{ℕ, ◌≡◌, ◌≢◌, ◌+◌, ◌≤◌, List, ◌∷◌, ◌++◌, length, take, drop, Option, Some, None}
use Rattle.std.specs.List.{All}
use Rattle.jn_lsp_frames.specs.declared.header.Field.{Field}
use Rattle.jn_lsp_frames.specs.declared.header.Field.TheVariants as field
use Rattle.jn_lsp_frames.specs.declared.header.Said.{Said}
use Rattle.jn_lsp_frames.specs.declared.header.Said.TheVariants as said
use Rattle.jn_lsp_frames.specs.Header.{IsField, IsLengthName, IsOther, IsNumber, SaysLength}

abbrev pub HasNoEnd : List ℕ → Type 0
HasNoEnd text = (front behind : List ℕ) → text ≢ front ++ 13 ∷ 10 ∷ behind

-- the place of the first CR LF
pub record EndsAt (text : List ℕ) (at : ℕ) : Type 0 where
  pub within : at + 2 ≤ length text
  pub behind : drop at text ≡ 13 ∷ 10 ∷ drop (at + 2) text
  pub none : HasNoEnd (take at text)

abbrev pub HasNoColon : List ℕ → Type 0
HasNoColon line = (name value : List ℕ) → IsField line name value → ⊥

-- the number that a value is, if it is one
abbrev pub SaysNumber : List ℕ → Option ℕ → Type 0
SaysNumber value None = (number : ℕ) → IsNumber value number → ⊥
SaysNumber value (Some number) = IsNumber value number

-- a field Content-Length, with its number
pub record IsLength (line : List ℕ) (number : Option ℕ) : Type 0 where
  pub name : List ℕ
  pub value : List ℕ
  pub field : IsField line name value
  pub named : IsLengthName name
  pub says : SaysNumber value number

abbrev pub IsFieldAs : List ℕ → Field → Type 0
IsFieldAs line field.Broken = HasNoColon line
IsFieldAs line field.Other = IsOther line
IsFieldAs line (field.Length number) = IsLength line number

-- one line is Content-Length, and the others are other fields
pub record HaveLength (lines : List (List ℕ)) (number : Option ℕ) : Type 0 where
  pub before : List (List ℕ)
  pub line : List ℕ
  pub behind : List (List ℕ)
  pub parts : lines ≡ before ++ line ∷ behind
  pub is : IsLength line number
  pub others : All IsOther before
  pub others_behind : All IsOther behind

-- what lines said, whatever stands after them
abbrev pub Heard : List (List ℕ) → Said → Type 0
Heard lines said.Nothing = All IsOther lines
Heard lines said.Broken = (behind : List (List ℕ)) (number : ℕ) → SaysLength (lines ++ behind) number → ⊥
Heard lines (said.Length number) = HaveLength lines number
