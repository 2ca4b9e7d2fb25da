-- The slots at which a row wants null: of a value that may be null, what takes it; of an overriding pair, what lacks the null that its partner has.
use Rattle.std.specs.Prelude.{ℕ, Bool, true, false, cond, List, [], ◌∷◌, ◌++◌, flat_map, map, Option, Some, None, slice_index_or}
use Rattle.jn_base.specs.declared.number.SlotNo.{SlotNo}
use Rattle.jn_base.specs.declared.place.Row.{Row}
use Rattle.jn_base.specs.declared.place.Span.{Span}
use Rattle.jn_contrib.specs.declared.listed.Overrider.{Overrider}
use Rattle.jn_env.specs.Order.{Table}
use Rattle.jn_points.specs.Lookup.{field_info, method_at, slots_of}
use Rattle.jn_points.specs.declared.program.Method.{Method}
use Rattle.jn_points.specs.declared.program.Program.{Program}
use Rattle.jn_quals.specs.Qualifier.{Qualifier}
use Rattle.jn_reasons_law.specs.declared.item.Bit.{Bit}
use Rattle.jn_reasons_law.specs.declared.item.Bit.TheVariants.{Nullable, Committed, Free}
use Rattle.jn_sigs.specs.Signature.{slot_qual}
use Rattle.jn_transfer.specs.Contributions.{field_slot_of, result_slot_of}
use Rattle.jn_transfer.specs.Pairs.{overriders, under}
use Rattle.jn_transfer.specs.Rules.{lacks_null}
use Rattle.jn_note_words.specs.declared.owners.Owner.{Owner}
use Rattle.jn_note_words.specs.declared.owners.Owner.TheVariants.{OfField, OfParameter, OfReceiver, OfResult}
use Rattle.jn_notes.specs.declared.pairs.Part.{Part}
use Rattle.jn_notes.specs.declared.pairs.Part.TheVariants.{OverParameters, OverReceiver, OverResult}
use Rattle.jn_notes.specs.declared.reads.Sought.{Sought}
use Rattle.jn_notes.specs.Asked.{part_of, same_span, sought_of}
use Rattle.jn_notes.specs.Spoken.{taker}

-- the number of a slot, where there is one: what has none is of a primitive type
abbrev pub number_of : Option SlotNo → List ℕ
number_of None = []
number_of (Some slot) = slot.0 ∷ []

-- ---- of a value

-- the bit of null
abbrev pub is_null : Bit → Bool
is_null Nullable = true
is_null Committed = false
is_null Free = false

module _ (P : Program) where
  -- the slot of what is declared; a receiver is never null
  abbrev pub slot_of_owner : Owner → Option SlotNo
  slot_of_owner (OfField f) = field_slot_of (field_info P f)
  slot_of_owner (OfParameter m i) = slice_index_or (slots_of (method_at P m)) i None
  slot_of_owner (OfReceiver m) = None
  slot_of_owner (OfResult m) = result_slot_of (method_at P m)

  -- of what takes a value, where something does
  abbrev pub taker_wants : Option Owner → List ℕ
  taker_wants None = []
  taker_wants (Some owner) = number_of (slot_of_owner owner)

  -- of a row of a value, where the value may be null
  abbrev pub value_wants : List Qualifier → List Table → Option Sought → List ℕ
  value_wants s tables None = []
  value_wants s tables (Some q) = cond (is_null q.bit) (taker_wants (taker P s q tables)) []

-- ---- of an overriding pair

module _ (s : List Qualifier) where
  -- the second slot, where the first has null and the second lacks it
  abbrev pub slot_wants : Option SlotNo → Option SlotNo → List ℕ
  slot_wants from to = cond (lacks_null (slot_qual s from) (slot_qual s to)) (number_of to) []

  -- slot by slot
  abbrev pub slots_want : List (Option SlotNo) → List (Option SlotNo) → List ℕ
  slots_want [] to = []
  slots_want (x ∷ from) [] = []
  slots_want (x ∷ from) (y ∷ to) = slot_wants x y ++ slots_want from to

  -- the overrider's parameters where the overridden method's may be null; the overridden method's result where the overrider's may be null
  abbrev pub part_wants : Part → Method → Method → List ℕ
  part_wants OverParameters over lower = slots_want lower.param_slots over.param_slots
  part_wants OverReceiver over lower = []
  part_wants OverResult over lower = slot_wants over.result_slot lower.result_slot

  -- the same where the overridden method is there
  abbrev pub lower_wants : Part → Method → Option Method → List ℕ
  lower_wants part over None = []
  lower_wants part over (Some lower) = part_wants part over lower

  module _ (P : Program) (span : Span) (part : Part) where
    -- of a method with those that it overrides, where the row points to it
    abbrev pub method_wants : Option Method → List ℕ → List ℕ
    method_wants None ks = []
    method_wants (Some over) ks = cond (same_span over.span span) (flat_map (λ k. lower_wants part over (method_at P k)) ks) []

    -- of one that is listed with those that it overrides
    abbrev pub listed_wants : Overrider → List ℕ
    listed_wants overrider = method_wants (method_at P overrider.method) overrider.under

    -- of each method that overrides
    abbrev pub all_wants : List ℕ
    all_wants = flat_map (λ m. method_wants (method_at P m) (under P m)) (overriders P)

  -- of a row of an overriding pair
  abbrev pub pair_wants : Program → Span → Option Part → List ℕ
  pair_wants P span None = []
  pair_wants P span (Some part) = all_wants P span part

-- ---- of rows

module _ (P : Program) (s : List Qualifier) (tables : List Table) where
  -- where a row wants null
  abbrev pub row_wants : Row → List ℕ
  row_wants row = value_wants P s tables (sought_of row.span row.code) ++ pair_wants s P row.span (part_of row.code)

  -- row by row
  abbrev pub rows_want : List Row → List (List ℕ)
  rows_want rows = map row_wants rows
