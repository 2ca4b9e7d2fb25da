-- Files that are replaced, in their order.
use Rattle.std.specs.Prelude.{ℕ, ◌≡◌, ◌≤◌, ◌&&◌, Bool, not, bytes_eq, eqb, List, [], ◌∷◌, ◌++◌, length, take}
use Rattle.std.specs.List.{list_any, starts_with}
use Rattle.jn_targets.specs.declared.replaced.Replaced.{Replaced}

abbrev pub replacement : List ℕ → List ℕ → Replaced
replacement name bytes = record { name = name; bytes = bytes }

-- a file more
abbrev pub with_replaced : List Replaced → List ℕ → List ℕ → List Replaced
with_replaced before name bytes = before ++ replacement name bytes ∷ []

-- only the first ones of these were replaced, each whole
pub record ReplacesFirst (before now wanted : List Replaced) : Type 0 where
  pub count : ℕ
  pub within : count ≤ length wanted
  pub are : now ≡ before ++ take count wanted

-- the name is one of these
abbrev pub is_one : List (List ℕ) → List ℕ → Bool
is_one names name = list_any (bytes_eq name) names

-- the file has one of these names
abbrev pub is_refused : List (List ℕ) → Replaced → Bool
is_refused names file = is_one names file.name

-- the file has this name, and doesn't begin so
abbrev pub is_other : List ℕ → List ℕ → Replaced → Bool
is_other name front file = bytes_eq name file.name && not (starts_with eqb file.bytes front)

-- the name is that of a file that is there and doesn't begin so
abbrev pub takes_other : List Replaced → List ℕ → List ℕ → Bool
takes_other there name front = list_any (is_other name front) there
