-- White space and comments (JLS 3.6, 3.7).
use Rattle.std.specs.Prelude.{◌≡◌, ℕ, ◌≤◌, true, List, [], ◌∷◌, ◌++◌, length}
use Rattle.jn_lexer.specs.Characters.{is_white, is_line_end, is_in_line, AllAre, BeginsOnly}

-- a white character, a comment to the line's end by its inside, and a comment `/* .. */` by its inside
pub data Blank : Type 0 where
  Space : ℕ → Blank
  Line : List ℕ → Blank
  Block : List ℕ → Blank

-- the characters of a blank as they stand in the text, with the marks that begin and end a comment
abbrev pub blank_text : Blank → List ℕ
blank_text (Space c) = c ∷ []
blank_text (Line inside) = 47 ∷ 47 ∷ inside
blank_text (Block inside) = 47 ∷ 42 ∷ (inside ++ 42 ∷ 47 ∷ [])

-- after its `/*` a comment ends at the next `*/`
abbrev pub IsNextClose : List ℕ → List ℕ → Type 0
IsNextClose inside after = (shorter tail : List ℕ) → inside ++ 42 ∷ 47 ∷ after ≡ shorter ++ 42 ∷ 47 ∷ tail → length inside ≤ length shorter

-- it stands before the text `after`
abbrev pub IsBlank : Blank → List ℕ → Type 0
IsBlank (Space c) after = is_white c ≡ true
IsBlank (Line inside) after = AllAre is_in_line inside × BeginsOnly is_line_end after
IsBlank (Block inside) after = IsNextClose inside after

-- the characters of a row of blanks, as they stand one after the other
abbrev pub gap_text : List Blank → List ℕ
gap_text [] = []
gap_text (b ∷ bs) = blank_text b ++ gap_text bs

-- these stand one after the other, and before the text `after`
abbrev pub IsGap : List Blank → List ℕ → Type 0
IsGap [] after = Unit {0}
IsGap (b ∷ bs) after = IsBlank b (gap_text bs ++ after) × IsGap bs after
