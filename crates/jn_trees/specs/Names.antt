-- Lists of distinct texts, by which names are numbered.
use Rattle.std.specs.Prelude.{◌≡◌, ℕ, List, [], ◌∷◌, ◌++◌, bytes_eq, slice_get, Some, if◌then◌else◌}
use Rattle.std.specs.List.{list_any, position_or_len}

-- the texts with one more: a known text stays where it is, and a new one goes last
abbrev pub with_name : List (List ℕ) → List ℕ → List (List ℕ)
with_name names text = if list_any (bytes_eq text) names then names else names ++ text ∷ []

-- the number of a text in `with_name names text`
abbrev pub number_in : List (List ℕ) → List ℕ → ℕ
number_in names text = position_or_len (bytes_eq text) names

-- no text stands at two places
abbrev pub AreDistinct : List (List ℕ) → Type 0
AreDistinct names = (i j : ℕ) (text : List ℕ) → slice_get names i ≡ Some text → slice_get names j ≡ Some text → i ≡ j

-- the new list is the old one with more names after
abbrev pub Extends : List (List ℕ) → List (List ℕ) → Type 0
Extends old new = (more : List (List ℕ)) × (new ≡ old ++ more)
