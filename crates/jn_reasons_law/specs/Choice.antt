-- Which of several chains is shown, and what of it: a function of the program alone.
use Rattle.std.specs.Prelude.{ℕ, ◌≡◌, ◌≤◌, Bool, false, ◌&&◌, ◌||◌, eqb, ltb, List, [], ◌∷◌, ◌++◌, length}
use Rattle.jn_quals.specs.Qualifier.{Qualifier}
use Rattle.jn_points.specs.declared.program.Program.{Program}
use Rattle.jn_env.specs.Order.{Table}
use Rattle.jn_reasons_law.specs.declared.item.Bit.{Bit}
use Rattle.jn_reasons_law.specs.declared.item.Bit.TheVariants.{Nullable, Committed, Free}
use Rattle.jn_reasons_law.specs.declared.item.Item.{Item}
use Rattle.jn_reasons_law.specs.declared.item.Item.TheVariants.{AtSlot, AtRegister}
use Rattle.jn_reasons_law.specs.declared.item.Place.{Place}
use Rattle.jn_reasons_law.specs.declared.item.Place.TheVariants.{OfSlot, OfMethod, OfBody, OfPoint}
use Rattle.jn_reasons_law.specs.declared.item.Step.{Step}
use Rattle.jn_reasons_law.specs.Chains.{IsChain}

-- the order of bits: null, whole, under construction
abbrev pub bit_no : Bit → ℕ
bit_no Nullable = 0
bit_no Committed = 1
bit_no Free = 2

-- a place as numbers: first its kind, then where it is
abbrev pub place_numbers : Place → ℕ × ℕ × ℕ
place_numbers (OfSlot k) = (0, k, 0)
place_numbers (OfMethod m) = (1, m, 0)
place_numbers (OfBody b) = (2, b, 0)
place_numbers (OfPoint b p) = (3, b, p)

-- an item as numbers: slots before registers, these by body, point and register, and its bit last
abbrev pub item_numbers : Item → ℕ × ℕ × ℕ × ℕ × ℕ
item_numbers (AtSlot k bit) = (0, k, 0, 0, bit_no bit)
item_numbers (AtRegister b p r bit) = (1, b, p, r, bit_no bit)

-- the five numbers of an item as a list
abbrev pub item_list : Item → List ℕ
item_list x = let i = item_numbers x in i.0 ∷ i.1 ∷ i.2 ∷ i.3 ∷ i.4 ∷ []

-- the three numbers of a place as a list
abbrev pub place_list : Place → List ℕ
place_list p = let n = place_numbers p in n.0 ∷ n.1 ∷ n.2 ∷ []

-- a step as numbers: what the item is; then its place, declarations before overriders' names before bodies' heads before points, these by body and
-- point. So of the shortest chains from an item the first has at each step the least place, and there the least item
abbrev pub step_numbers : Step → List ℕ
step_numbers x = item_list x.item ++ place_list x.place

-- in the order of words in a dictionary
abbrev pub is_before : List ℕ → List ℕ → Bool
is_before [] ys = false
is_before (x ∷ xs) [] = false
is_before (x ∷ xs) (y ∷ ys) = ltb x y || (eqb x y && is_before xs ys)

-- two lists of numbers are equal
abbrev pub is_same : List ℕ → List ℕ → Bool
is_same [] [] = eqb 0 0
is_same [] (y ∷ ys) = false
is_same (x ∷ xs) [] = false
is_same (x ∷ xs) (y ∷ ys) = eqb x y && is_same xs ys

-- the first step that differs decides
abbrev pub comes_before : List Step → List Step → Bool
comes_before [] ys = false
comes_before (x ∷ xs) [] = false
comes_before (x ∷ xs) (y ∷ ys) = is_before (step_numbers x) (step_numbers y) || (is_same (step_numbers x) (step_numbers y) && comes_before xs ys)

-- a chain has a first step, and it is of the item
abbrev pub BeginsAt : Item → List Step → Type 0
BeginsAt x [] = ⊥
BeginsAt x (y ∷ ys) = y.item ≡ x

-- a shortest chain from the item, and the first of these
pub record IsFirstChain (P : Program) (s : List Qualifier) (tables : List Table) (x : Item) (steps : List Step) : Type 0 where
  pub begins : BeginsAt x steps
  pub chain : IsChain P s tables steps
  pub shortest : (others : List Step) → BeginsAt x others → IsChain P s tables others → length steps ≤ length others
  pub first : (others : List Step) → BeginsAt x others → IsChain P s tables others → length others ≡ length steps → comes_before others steps ≡ false

-- a slot's step is told, a register's isn't
abbrev pub tell : Item → Step → List Step → List Step
tell (AtSlot k bit) x rest = x ∷ rest
tell (AtRegister b p r bit) x rest = rest

-- what is told of a chain: where a slot has its bit from, and the end
abbrev pub told : List Step → List Step
told [] = []
told (x ∷ []) = x ∷ []
told (x ∷ y ∷ more) = tell x.item x (told (y ∷ more))
