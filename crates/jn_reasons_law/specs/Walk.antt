-- Chains that are found step by step: each step has the least place, and there the least item, from which an end is near enough.
use Rattle.std.specs.Prelude.{ℕ, ◌≡◌, false, List, [], ◌∷◌, ◌++◌, length, Some, None}
use Rattle.jn_quals.specs.Qualifier.{Qualifier}
use Rattle.jn_points.specs.declared.program.Program.{Program}
use Rattle.jn_env.specs.Order.{Table}
use Rattle.jn_reasons_law.specs.declared.item.Item.{Item}
use Rattle.jn_reasons_law.specs.declared.item.Place.{Place}
use Rattle.jn_reasons_law.specs.declared.item.Step.{Step}
use Rattle.jn_reasons_law.specs.Items.{Stands}
use Rattle.jn_reasons_law.specs.Chains.{IsCause, IsChain}
use Rattle.jn_reasons_law.specs.Choice.{BeginsAt, is_before, item_list, place_list}

module _ (P : Program) (s : List Qualifier) (tables : List Table) where
  -- a chain of n steps begins with the item
  pub record EndsIn (n : ℕ) (x : Item) : Type 0 where
    pub steps : List Step
    pub begins : BeginsAt x steps
    pub chain : IsChain P s tables steps
    pub long : length steps ≡ n

  -- no place comes before this one, by which the item comes from the text
  abbrev pub IsLeastEnd : Item → Place → Type 0
  IsLeastEnd x p = (q : Place) → IsCause P s tables x q None → is_before (place_list q) (place_list p) ≡ false

  -- no place and item comes before these, by which the item comes from one with a chain of n steps
  abbrev pub IsLeastWay : ℕ → Item → Place → Item → Type 0
  IsLeastWay n x p y = (q : Place) (z : Item) → IsCause P s tables x q (Some z) → EndsIn n z → is_before (place_list q ++ item_list z) (place_list p ++ item_list y) ≡ false

  -- a chain of which each step goes the least way
  abbrev pub IsWalk : List Step → Type 0
  IsWalk [] = ⊥
  IsWalk (x ∷ []) = Stands s tables x.item × IsCause P s tables x.item x.place None × IsLeastEnd x.item x.place
  IsWalk (x ∷ y ∷ more) = Stands s tables x.item × IsCause P s tables x.item x.place (Some y.item) × IsLeastWay (length (y ∷ more)) x.item x.place y.item × IsWalk (y ∷ more)
