-- Two lists of names made one.
use Rattle.std.specs.Prelude.{◌≡◌, ◌≤◌, ℕ, List, [], ◌∷◌, length, take}
use Rattle.jn_base.specs.declared.number.NameNo.{NameNo}
use Rattle.jn_trees.specs.Names.{with_name, number_in}

-- the names with the others, one after another: a known one keeps its number, and a new one goes last
abbrev pub merged : List (List ℕ) → List (List ℕ) → List (List ℕ)
merged names [] = names
merged names (text ∷ others) = merged (with_name names text) others

-- the numbers that the others get
abbrev pub merged_numbers : List (List ℕ) → List (List ℕ) → List NameNo
merged_numbers names [] = []
merged_numbers names (text ∷ others) = (record { 0 = number_in names text }) ∷ merged_numbers (with_name names text) others

-- the new list is the old one with the first of the others
abbrev pub IsMergedInPart : List (List ℕ) → List (List ℕ) → List (List ℕ) → Type 0
IsMergedInPart old others new = (count : ℕ) × (count ≤ length others) × (new ≡ merged old (take count others))
