-- Lists that are kept for places of the text.
use Rattle.std.specs.Prelude.{ℕ, ◌≡◌, Bool, cond, eqb, ◌&&◌, List, [], ◌∷◌, ◌++◌, Option, Some, None}
use Rattle.std.specs.Map.{lookup}
use Rattle.jn_base.specs.declared.place.Span.{Span}

-- three numbers
abbrev pub Key : Type 0
Key = (ℕ × ℕ) × ℕ

-- the file, and the bytes from and to
abbrev pub key_of : Span → Key
key_of x = ((x.file.0, x.from), x.to)

-- two keys are equal number by number
abbrev pub key_eq : Key → Key → Bool
key_eq x y = (eqb x.0.0 y.0.0 && eqb x.0.1 y.0.1) && eqb x.1 y.1

module _ (A : Type 0) where
  -- the list that is kept for a place, None where none is
  abbrev pub kept_at : List (Key × List A) → Span → Option (List A)
  kept_at entries z = lookup (key_eq (key_of z)) entries

  -- what is kept, and these after it; where nothing is kept, nothing
  abbrev pub grown : Option (List A) → List A → Option (List A)
  grown None more = None
  grown (Some list) more = Some (list ++ more)

  -- of each place these come after what was kept for it
  abbrev pub Adds : (Span → List A) → List (Key × List A) → List (Key × List A) → Type 0
  Adds more old new = (z : Span) → kept_at new z ≡ grown (kept_at old z) (more z)

  -- what is kept for a place is this
  abbrev pub AreKept : (Span → List A) → List (Key × List A) → Type 0
  AreKept these entries = (z : Span) (list : List A) → kept_at entries z ≡ Some list → list ≡ these z

  -- the item at this place, and none at another
  abbrev pub at_place : Span → A → Span → List A
  at_place span item z = cond (key_eq (key_of span) (key_of z)) (item ∷ []) []
