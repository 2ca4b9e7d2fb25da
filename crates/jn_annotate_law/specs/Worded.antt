-- The slots of files after words were put.
use Rattle.std.specs.Prelude.{◌≡◌, ℕ, ◌+◌, true, not, cond, ◌&&◌, List, [], ◌∷◌, slice_get, slice_index_or}
use Rattle.jn_quals.specs.Qualifier.{Qualifier}
use Rattle.jn_quals.specs.Order.{no_qual}
use Rattle.jn_points.specs.declared.program.SlotInfo.{SlotInfo}
use Rattle.jn_transfer.specs.Contributions.{is_inferred}
use Rattle.jn_places_law.specs.Written.{written_slot}

-- a slot counts as inferred only where it is
abbrev pub Narrows : List SlotInfo → List SlotInfo → Type 0
Narrows said slots = (i : ℕ) → is_inferred (slice_get said i) ≡ true → is_inferred (slice_get slots i) ≡ true

module _ (said : List SlotInfo) (s : List Qualifier) where
  -- from the k-th on: one that counts as inferred is written as the signature says, any other is as it was
  abbrev pub worded_from : ℕ → List SlotInfo → List SlotInfo
  worded_from k [] = []
  worded_from k (info ∷ slots) = cond (is_inferred (slice_get said k)) (written_slot (slice_index_or s k no_qual)) info ∷ worded_from (k + 1) slots

-- those are left to infer that were, and don't count so
abbrev pub AreLeft : List SlotInfo → List SlotInfo → List SlotInfo → Type 0
AreLeft said old new = (i : ℕ) → is_inferred (slice_get new i) ≡ (is_inferred (slice_get old i) && not (is_inferred (slice_get said i)))
