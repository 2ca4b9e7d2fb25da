-- Searching for the first chain, by levels: what items come from, as far as it isn't known how far that is from the text (None); and the least way to it.
use Rattle.std.specs.Prelude.{ℕ, zero, suc, ◌+◌, ◌-◌, ◌≡◌, ◌<◌, ◌≤◌, ◌⊎◌, true, false, List, [], ◌∷◌, ◌++◌, length, Option, Some, None, slice_index_or}
use Rattle.jn_quals.specs.Qualifier.{Qualifier}
use Rattle.jn_points.specs.declared.program.Program.{Program}
use Rattle.jn_env.specs.Order.{Table}
use Rattle.jn_reasons_law.specs.declared.item.Item.{Item}
use Rattle.jn_reasons_law.specs.declared.item.Place.{Place}
use Rattle.jn_reasons_law.specs.declared.item.Step.{Step}
use Rattle.jn_reasons_law.specs.Items.{Stands}
use Rattle.jn_reasons_law.specs.Sources.{IsOneOf}
use Rattle.jn_reasons_law.specs.Chains.{IsCause}
use Rattle.jn_reasons_law.specs.Choice.{is_before, item_list, place_list}
use Rattle.jn_reasons.specs.declared.causes.Cause.{Cause}
use Rattle.jn_reasons.specs.Listed.{IsListed, cause_at}
use Rattle.jn_chain.specs.declared.chains.Rest.{Rest}

-- a program, a signature, and a table for each body
pub record Ground : Type 0 where
  pub program : Program
  pub sig : List Qualifier
  pub tables : List Table

-- in one of the levels
abbrev pub IsSeen : Option Item → List (List (Option Item)) → Type 0
IsSeen z [] = ⊥
IsSeen z (l ∷ ls) = IsOneOf z l ⊎ IsSeen z ls

abbrev pub level_at : List (List (Option Item)) → ℕ → List (Option Item)
level_at ls m = slice_index_or ls m []

-- as numbers, for the order of ways
abbrev pub source_list : Option Item → List ℕ
source_list None = 0 ∷ 0 ∷ 0 ∷ 0 ∷ 0 ∷ []
source_list (Some x) = item_list x

abbrev pub way_list : Place → Option Item → List ℕ
way_list p z = place_list p ++ source_list z

-- the first of two causes where it comes before the second, else the second
abbrev pub IsLesser : Cause → Cause → Cause → Type 0
IsLesser c d e = ((is_before (way_list c.place c.source) (way_list d.place d.source) ≡ true) × (e ≡ c)) ⊎ ((is_before (way_list c.place c.source) (way_list d.place d.source) ≡ false) × (e ≡ d))

abbrev pub IsBest : Option Cause → Cause → Option Cause → Type 0
IsBest best c None = ⊥
IsBest None c (Some e) = e ≡ c
IsBest (Some d) c (Some e) = IsLesser c d e

-- of the best one and a cause the lesser, unless the cause isn't wanted
abbrev pub IsBetter : Option Cause → Cause → (Option Item → Type 0) → Option Cause → Type 0
IsBetter best c IsWanted result = ((IsWanted c.source → ⊥) × (result ≡ best)) ⊎ (IsWanted c.source × IsBest best c result)

-- of the causes that come from what is wanted the least
pub record IsLeastAmong (causes : List Cause) (IsWanted : Option Item → Type 0) (c : Cause) : Type 0 where
  pub listed : IsListed c causes
  pub among : IsWanted c.source
  pub least : (d : Cause) → IsListed d causes → IsWanted d.source → is_before (way_list d.place d.source) (way_list c.place c.source) ≡ false

-- none of the causes comes from what is wanted
abbrev pub IsUnwanted : List Cause → (Option Item → Type 0) → Type 0
IsUnwanted causes IsWanted = (d : Cause) → IsListed d causes → IsWanted d.source → ⊥

-- how many steps are left, where that is known
abbrev pub rest_left : Option Rest → Option ℕ
rest_left None = None
rest_left (Some r) = Some r.left

-- no step is left from the text
abbrev pub left_of : (Item → Option Rest) → Option Item → Option ℕ
left_of rests None = Some 0
left_of rests (Some x) = rest_left (rests x)

-- there is a number, and it is so small
abbrev pub IsAtMost : Option ℕ → ℕ → Type 0
IsAtMost None n = ⊥
IsAtMost (Some b) n = b ≤ n

-- the lesser of two numbers, where the first may be missing
pub record IsLower (old : Option ℕ) (n : ℕ) (new : Option ℕ) : Type 0 where
  pub lower : (m : ℕ) → IsAtMost old m → IsAtMost new m
  pub here : IsAtMost new n
  pub from : (new ≡ old) ⊎ (new ≡ Some n)

-- the sources are in the levels or among the next
abbrev pub AreSeen : List (Option Item) → List (List (Option Item)) → List (Option Item) → Type 0
AreSeen sources levels next = (z : Option Item) → IsOneOf z sources → IsSeen z levels ⊎ IsOneOf z next

-- the source is put after the others, unless it is seen
pub record IsAdded (levels : List (List (Option Item))) (z : Option Item) (old new : List (Option Item)) : Type 0 where
  pub kept : (w : Option Item) → IsOneOf w old → IsOneOf w new
  pub from : (w : Option Item) → IsOneOf w new → IsOneOf w old ⊎ (w ≡ z)
  pub there : IsSeen z levels ⊎ IsOneOf z new

module _ (rests : Item → Option Rest) where
  -- from the source so many steps are known to be left that with d more there are no fewer than the best
  pub record IsBound (d : ℕ) (best : Option ℕ) (z : Option Item) : Type 0 where
    pub left : ℕ
    pub known : left_of rests z ≡ Some left
    pub most : IsAtMost best (d + left)

  -- the best are d steps to one of these sources, and those that are left from there
  pub record IsGiven (d : ℕ) (AreThese : Option Item → Type 0) (best : Option ℕ) : Type 0 where
    pub source : Option Item
    pub one : AreThese source
    pub left : ℕ
    pub known : left_of rests source ≡ Some left
    pub is : best ≡ Some (d + left)

  -- of these sources those from which it isn't known how many steps are left are seen or among the next, and no other; those from which it is bound the best
  pub record AreMet (levels : List (List (Option Item))) (d : ℕ) (AreThese : Option Item → Type 0) (old new : List (Option Item)) (best now : Option ℕ) : Type 0 where
    pub kept : (w : Option Item) → IsOneOf w old → IsOneOf w new
    pub from : (w : Option Item) → IsOneOf w new → IsOneOf w old ⊎ (AreThese w × (left_of rests w ≡ None))
    pub there : (z : Option Item) → AreThese z → IsBound d now z ⊎ (IsSeen z levels ⊎ IsOneOf z new)
    pub lower : (m : ℕ) → IsAtMost best m → IsAtMost now m
    pub is : (now ≡ best) ⊎ IsGiven d AreThese now

-- the sources of these causes
abbrev pub IsSource : List Cause → Option Item → Type 0
IsSource causes z = (p : Place) × IsListed (cause_at p z) causes

-- what is known stays
abbrev pub IsKept : (Item → Option Rest) → (Item → Option Rest) → Type 0
IsKept old new = (z : Option Item) (n : ℕ) → left_of old z ≡ Some n → left_of new z ≡ Some n

-- at level m or before
pub record IsWithin (levels : List (List (Option Item))) (m : ℕ) (z : Option Item) : Type 0 where
  pub level : ℕ
  pub within : level ≤ m
  pub among : IsOneOf z (level_at levels level)

module _ (G : Ground) where
  abbrev pub IsThere : Option Item → Type 0
  IsThere None = Unit {0}
  IsThere (Some x) = Stands G.sig G.tables x

  -- an item comes by the place from a source that is there
  abbrev pub IsNext : Option Item → Place → Option Item → Type 0
  IsNext None p z = ⊥
  IsNext (Some x) p z = IsCause G.program G.sig G.tables x p z × IsThere z

  -- the list has each cause of an item whose source is there, and no other; of the text it has none
  pub record AreCauses (x : Option Item) (list : List Cause) : Type 0 where
    pub all : (p : Place) (z : Option Item) → IsNext x p z → IsListed (cause_at p z) list
    pub none_else : (p : Place) (z : Option Item) → IsListed (cause_at p z) list → IsNext x p z

  -- one of the list comes from it
  pub record IsReached (list : List (Option Item)) (z : Option Item) : Type 0 where
    pub from : Option Item
    pub place : Place
    pub among : IsOneOf from list
    pub next : IsNext from place z

  -- the text is so many steps away
  abbrev pub Reaches : ℕ → Option Item → Type 0
  Reaches zero z = z ≡ None
  Reaches (suc k) z = (p : Place) × (y : Option Item) × IsNext z p y × Reaches k y

  -- a step to a source that is k steps away from the text, and no such way comes before it
  pub record IsStep (k : ℕ) (x : Step) (y : Option Item) : Type 0 where
    pub next : IsNext (Some x.item) x.place y
    pub least : (p : Place) (z : Option Item) → IsNext (Some x.item) p z → Reaches k z → is_before (way_list p z) (way_list x.place y) ≡ false

  -- steps to the text, each the least
  abbrev pub IsWay : Option Item → List Step → Type 0
  IsWay z [] = z ≡ None
  IsWay z (x ∷ more) = (z ≡ Some x.item) × ((y : Option Item) × IsStep (length more) x y × IsWay y more)

  module _ (rests : Item → Option Rest) where
    -- what is known of an item: so many steps are left and no fewer, and the least cause from whose source one less is left
    pub record IsRest (x : Item) (rest : Rest) : Type 0 where
      pub some : 0 < rest.left
      pub next : IsNext (Some x) rest.cause.place rest.cause.source
      pub behind : left_of rests rest.cause.source ≡ Some (rest.left - 1)
      pub reaches : Reaches rest.left (Some x)
      pub shortest : (m : ℕ) → Reaches m (Some x) → rest.left ≤ m
      pub least : (p : Place) (z : Option Item) → IsNext (Some x) p z → Reaches (rest.left - 1) z → is_before (way_list p z) (way_list rest.cause.place rest.cause.source) ≡ false

    -- all that is known of items is so
    abbrev pub AreRests : Type 0
    AreRests = (x : Item) (rest : Rest) → rests x ≡ Some rest → IsRest x rest

    module _ (levels : List (List (Option Item))) where
      -- levels 0 to n: the item, what it comes from, and so on; what comes from the text in known steps isn't followed, but bounds the best
      pub record AreLevels (x : Item) (n : ℕ) (best : Option ℕ) : Type 0 where
        pub long : length levels ≡ n + 1
        pub item : IsOneOf (Some x) (level_at levels 0)
        pub spread : (m : ℕ) (y z : Option Item) (p : Place) → m < n → IsOneOf y (level_at levels m) → IsNext y p z → IsBound rests (m + 1) best z ⊎ IsWithin levels (m + 1) z
        pub reached : (m j : ℕ) (z : Option Item) → m ≤ n → IsOneOf z (level_at levels m) → Reaches j z → Reaches (m + j) (Some x)
        pub endless : (m : ℕ) → m ≤ n → IsOneOf None (level_at levels m) → ⊥
        pub given : (b : ℕ) → best ≡ Some b → Reaches b (Some x)

      -- all levels that a chain of the fewest steps can pass, which is the best
      pub record AreAllLevels (x : Item) (best : ℕ) : Type 0 where
        pub count : ℕ
        pub some : 0 < count
        pub levels_to : AreLevels x count (Some best)
        pub ends : (z : Option Item) → IsOneOf z (level_at levels count) → best ≤ count

    -- sources from which no fewer steps are left, and what each comes from has one less only where that is known
    pub record AreDue (list : List (Option Item)) (left : ℕ) : Type 0 where
      pub rests_are : AreRests
      pub sharp : (z : Option Item) (m : ℕ) → IsOneOf z list → Reaches m z → left ≤ m
      pub complete : (y z : Option Item) (p : Place) → IsOneOf y list → IsNext y p z → Reaches (left - 1) z → left_of rests z ≡ Some (left - 1)

  -- and now it is known of those of them from which so many are left
  pub record AreSettled (list : List (Option Item)) (left : ℕ) (old new : Item → Option Rest) : Type 0 where
    pub rests_are : AreRests new
    pub keeps : IsKept old new
    pub all : (z : Option Item) → IsOneOf z list → Reaches left z → left_of new z ≡ Some left

  -- the steps that are left are known
  pub record IsFound (rests : Item → Option Rest) (x : Item) (left : ℕ) : Type 0 where
    pub rests_are : AreRests rests
    pub known : left_of rests (Some x) ≡ Some left

  -- what the walk goes on with: the least step of the source, and one less is left
  pub record IsLeastStep (rests : Item → Option Rest) (left : ℕ) (x : Option Item) (step : Step) (y : Option Item) : Type 0 where
    pub is : x ≡ Some step.item
    pub way : IsStep left step y
    pub known : left_of rests y ≡ Some left

  -- a step from an item to what it comes from, the least that is known
  pub record IsKnownStep (rests : Item → Option Rest) (x : Step) (y : Option Item) : Type 0 where
    pub left : ℕ
    pub known : left_of rests (Some x.item) ≡ Some (left + 1)
    pub way : IsStep left x y
    pub behind : left_of rests y ≡ Some left

  -- such steps from a source to another
  abbrev pub IsPath : (Item → Option Rest) → Option Item → List Step → Option Item → Type 0
  IsPath rests z [] stop = z ≡ stop
  IsPath rests z (x ∷ more) stop = (z ≡ Some x.item) × ((y : Option Item) × IsKnownStep rests x y × IsPath rests y more stop)

  -- a way from a source to the text, and none is shorter
  pub record IsShortestWay (z : Option Item) (steps : List Step) : Type 0 where
    pub way : IsWay z steps
    pub shortest : (m : ℕ) → Reaches m z → length steps ≤ m
