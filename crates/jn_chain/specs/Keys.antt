-- Sources as numbers, the set of those of a list, and what is known of items.
use Rattle.std.specs.Prelude.{ℕ, ◌≡◌, ◌⊎◌, Bool, true, ◌&&◌, eqb, List, Option, Some, None}
use Rattle.std.specs.HashSet.{HashSet, contains}
use Rattle.std.specs.Map.{lookup}
use Rattle.jn_reasons_law.specs.declared.item.Item.{Item}
use Rattle.jn_reasons_law.specs.declared.item.Item.TheVariants.{AtSlot, AtRegister}
use Rattle.jn_reasons_law.specs.Choice.{bit_no}
use Rattle.jn_reasons_law.specs.Sources.{IsOneOf}
use Rattle.jn_chain.specs.declared.chains.Rest.{Rest}

-- five numbers
abbrev pub Key : Type 0
Key = (ℕ × ℕ) × ((ℕ × ℕ) × ℕ)

-- what it is, its body or slot, its point, its register and its bit
abbrev pub key_of : Option Item → Key
key_of None = ((0, 0), ((0, 0), 0))
key_of (Some (AtSlot k bit)) = ((1, k), ((0, 0), bit_no bit))
key_of (Some (AtRegister b p r bit)) = ((2, b), ((p, r), bit_no bit))

-- two keys are equal number by number
abbrev pub key_eq : Key → Key → Bool
key_eq x y = (eqb x.0.0 y.0.0 && eqb x.0.1 y.0.1) && ((eqb x.1.0.0 y.1.0.0 && eqb x.1.0.1 y.1.0.1) && eqb x.1.1 y.1.1)

-- the set has the keys of these sources, and no other source's
pub record AreKept {S : Type 0} (list : List (Option Item)) (set : HashSet Key S) : Type 0 where
  pub all : (z : Option Item) → IsOneOf z list → contains key_eq set (key_of z) ≡ true
  pub none_else : (z : Option Item) → contains key_eq set (key_of z) ≡ true → IsOneOf z list

-- what is kept for the item
abbrev pub kept_of : (A : Type 0) → List (Key × A) → Item → Option A
kept_of A entries x = lookup (key_eq (key_of (Some x))) entries

-- what is known of the item
abbrev pub rest_of : List (Key × Rest) → Item → Option Rest
rest_of entries x = kept_of Rest entries x

-- it is kept for the item, and what is kept for others stays
pub record IsPut {A : Type 0} (x : Item) (value : A) (old new : Item → Option A) : Type 0 where
  pub here : new x ≡ Some value
  pub others : (y : Item) → (y ≡ x) ⊎ (new y ≡ old y)

-- an item for which something is kept, or the text
abbrev pub IsEnd : (A : Type 0) → (Item → Option A) → Option Item → Type 0
IsEnd A kept None = Unit {0}
IsEnd A kept (Some x) = (value : A) × (kept x ≡ Some value)
