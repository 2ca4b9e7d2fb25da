-- Whose slot it is: the first field, and then the first method, that names it.
use Rattle.std.specs.Prelude.{ℕ, zero, suc, ◌<◌, ◌≡◌, cond, eqb, ltb, List, [], ◌∷◌, length, Option, Some, None, slice_index_or}
use Rattle.std.specs.Option.{option_or}
use Rattle.jn_base.specs.declared.number.SlotNo.{SlotNo}
use Rattle.jn_points.specs.declared.program.Field.{Field}
use Rattle.jn_points.specs.declared.program.Method.{Method}
use Rattle.jn_points.specs.declared.program.Program.{Program}
use Rattle.jn_points.specs.Lookup.{field_info, method_at}
use Rattle.jn_note_words.specs.declared.owners.Owner.{Owner}
use Rattle.jn_note_words.specs.declared.owners.Owner.TheVariants.{OfField, OfParameter, OfReceiver, OfResult}

-- what the first of the numbers below n gives that gives one
abbrev pub first_below : {A : Type 0} → (ℕ → Option A) → ℕ → Option A
first_below f zero = None
first_below f (suc n) = option_or (first_below f n) (f n)

-- what the first item gives that gives something
abbrev pub first_of : {A B : Type 0} → (B → Option A) → List B → Option A
first_of f [] = None
first_of f (x ∷ xs) = option_or (f x) (first_of f xs)

module _ (k : ℕ) where
  -- an owner, where the slot that it names is k
  abbrev pub if_slot : Option SlotNo → Owner → Option Owner
  if_slot None owner = None
  if_slot (Some n) owner = cond (eqb n.0 k) (Some owner) None

  -- a field, where its slot is k
  abbrev pub by_field : ℕ → Option Field → Option Owner
  by_field f None = None
  by_field f (Some x) = if_slot x.slot (OfField f)

  -- a parameter of a method by its number, where its slot is k
  abbrev pub by_parameter : ℕ → List (Option SlotNo) → ℕ → Option Owner
  by_parameter m slots i = if_slot (slice_index_or slots i None) (OfParameter m i)

  -- the first parameter of a method whose slot is k
  abbrev pub by_parameters : ℕ → List (Option SlotNo) → Option Owner
  by_parameters m slots = first_below (by_parameter m slots) (length slots)

  -- the part of a method whose slot is k: a parameter, else its receiver, else its result
  abbrev pub by_method : ℕ → Option Method → Option Owner
  by_method m None = None
  by_method m (Some x) = option_or (by_parameters m x.param_slots) (option_or (if_slot x.receiver (OfReceiver m)) (if_slot x.result_slot (OfResult m)))

module _ (P : Program) where
  -- the first field whose slot it is
  abbrev pub by_fields : ℕ → Option Owner
  by_fields k = first_below (λ f. by_field k f (field_info P f)) (length P.fields)

  -- of the first method that has the slot, the part whose it is
  abbrev pub by_methods : ℕ → Option Owner
  by_methods k = first_below (λ m. by_method k m (method_at P m)) (length P.methods)

  -- whose slot k is; what is no slot is nobody's
  abbrev pub owner_of : ℕ → Option Owner
  owner_of k = cond (ltb k (length P.slots)) (option_or (by_fields k) (by_methods k)) None

-- each of the owners that were missing is what the test gives
pub record Filled (old new : List (Option Owner)) (test : ℕ → Option Owner) : Type 0 where
  pub long : length new ≡ length old
  pub each : (k : ℕ) → k < length old → slice_index_or new k None ≡ option_or (slice_index_or old k None) (test k)

-- the owner of each slot
pub record AreOwners (P : Program) (owners : List (Option Owner)) : Type 0 where
  pub long : length owners ≡ length P.slots
  pub each : (k : ℕ) → slice_index_or owners k None ≡ owner_of P k
