-- What a bit may come from, at the entry, after a point, and in a slot: an item (Some), or the text at that place itself (None).
use Rattle.std.specs.Prelude.{ℕ, zero, suc, ◌⊎◌, ◌≡◌, cond, eqb, List, [], ◌∷◌, ◌++◌, flat_map, Option, Some, None, slice_index_or}
use Rattle.jn_base.specs.declared.number.SlotNo.{SlotNo}
use Rattle.jn_base.specs.declared.number.RegNo.{RegNo}
use Rattle.jn_points.specs.declared.point.Operand.{Operand}
use Rattle.jn_points.specs.declared.point.PointKind.{PointKind}
use Rattle.jn_points.specs.declared.point.PointKind.TheVariants.{Const, Move, Unary, Binary, Concat, SameRef, FieldRead, FieldWrite, StaticRead, ElemRead, ArrayLen, NewArray, ArrayOf, New, CtorCall, Call, StrOp, Cast, Return}
use Rattle.jn_points.specs.declared.program.Method.{Method}
use Rattle.jn_points.specs.declared.program.Program.{Program}
use Rattle.jn_points.specs.Lookup.{slots_of, static_of, ctor_of, field_info, method_at, method_in}
use Rattle.jn_env.specs.Environment.{Env}
use Rattle.jn_env.specs.Order.{qual_at}
use Rattle.jn_env.specs.Keys.{is_on, own_keys}
use Rattle.jn_transfer.specs.Contributions.{field_slot_of, receiver_slot_of, result_slot_of}
use Rattle.jn_transfer.specs.Pairs.{under}
use Rattle.jn_reasons_law.specs.declared.item.Bit.{Bit}
use Rattle.jn_reasons_law.specs.declared.item.Bit.TheVariants.{Nullable, Committed, Free}
use Rattle.jn_reasons_law.specs.declared.item.Item.{Item}
use Rattle.jn_reasons_law.specs.declared.item.Item.TheVariants.{AtSlot, AtRegister}

-- it stands in the list
abbrev pub IsOneOf : Option Item → List (Option Item) → Type 0
IsOneOf z [] = ⊥
IsOneOf z (y ∷ ys) = (z ≡ y) ⊎ IsOneOf z ys

-- the text itself
abbrev pub the_text : List (Option Item)
the_text = None ∷ []

-- the same bit of a slot, where there is one
abbrev pub from_slot : Option SlotNo → Bit → List (Option Item)
from_slot None bit = []
from_slot (Some n) bit = Some (AtSlot n.0 bit) ∷ []

-- of a parameter, its slot's
abbrev pub from_given : List (Option SlotNo) → ℕ → Bit → List (Option Item)
from_given xs r bit = from_slot (slice_index_or xs r None) bit

-- a constructor's `this` is under construction by itself
abbrev pub from_this : Option Method → Bit → List (Option Item)
from_this m bit = cond (ctor_of m) the_text (from_slot (receiver_slot_of m) bit)

-- of an instance body's first register what `this` has, of each later one what its parameter has
abbrev pub from_this_or_given : Option Method → ℕ → Bit → List (Option Item)
from_this_or_given m zero bit = from_this m bit
from_this_or_given m (suc r) bit = from_given (slots_of m) r bit

-- a register's bit at a body's entry
abbrev pub at_entry : Option Method → ℕ → Bit → List (Option Item)
at_entry m r bit = cond (static_of m) (from_given (slots_of m) r bit) (from_this_or_given m r bit)

-- what is for slot k
abbrev pub if_slot : ℕ → Option SlotNo → List (Option Item) → List (Option Item)
if_slot k None xs = []
if_slot k (Some n) xs = cond (eqb n.0 k) xs []

-- of what the first slot has, to the second
abbrev pub from_slot_to : ℕ → Option SlotNo → Option SlotNo → Bit → List (Option Item)
from_slot_to k from to bit = if_slot k to (from_slot from bit)

-- slot by slot
abbrev pub from_slots_to : ℕ → List (Option SlotNo) → List (Option SlotNo) → Bit → List (Option Item)
from_slots_to k [] ys bit = []
from_slots_to k (x ∷ xs) [] bit = []
from_slots_to k (x ∷ xs) (y ∷ ys) bit = from_slot_to k x y bit ++ from_slots_to k xs ys bit

-- the overridden method's parameters and receiver for those of the overrider, and the overrider's result for that of the overridden
abbrev pub from_override : ℕ → Option Method → Option Method → Bit → List (Option Item)
from_override k over lower bit =
    from_slots_to k (slots_of lower) (slots_of over) bit
    ++ from_slot_to k (receiver_slot_of lower) (receiver_slot_of over) bit
    ++ from_slot_to k (result_slot_of over) (result_slot_of lower) bit

-- the bit that method m sends to slot k, for each method that it overrides
abbrev pub from_pairs : Program → ℕ → ℕ → Bit → List (Option Item)
from_pairs P m k bit = flat_map (λ j. from_override k (method_at P m) (method_at P j) bit) (under P m)

-- only of the bit null
abbrev pub for_null : Bit → List (Option Item) → List (Option Item)
for_null Nullable xs = xs
for_null Committed xs = []
for_null Free xs = []

module _ (b p : ℕ) where
  -- a register's before the point
  abbrev pub from_register : ℕ → Bit → List (Option Item)
  from_register r bit = Some (AtRegister b p r bit) ∷ []

  -- the reference arguments'
  abbrev pub from_references : List (Option SlotNo) → List Operand → Bit → List (Option Item)
  from_references [] args bit = []
  from_references (x ∷ xs) [] bit = []
  from_references (None ∷ xs) (a ∷ args) bit = from_references xs args bit
  from_references (Some n ∷ xs) (a ∷ args) bit = Some (AtRegister b p a.reg.0 bit) ∷ from_references xs args bit

  -- a new object is committed by itself, and free by an argument
  abbrev pub from_new : List (Option SlotNo) → List Operand → Bit → List (Option Item)
  from_new xs args Nullable = []
  from_new xs args Committed = the_text
  from_new xs args Free = from_references xs args Free

  -- a register that isn't the one that is written keeps its bit
  abbrev pub unless_written : ℕ → ℕ → Bit → List (Option Item) → List (Option Item)
  unless_written dst r bit xs = cond (eqb dst r) xs (from_register r bit)

  -- the same of a call, whose result may be written to no register
  abbrev pub unless_result : Option RegNo → ℕ → Bit → List (Option Item) → List (Option Item)
  unless_result None r bit xs = from_register r bit
  unless_result (Some dst) r bit xs = unless_written dst.0 r bit xs

  -- a field is committed where what is written is committed or free, and never free
  abbrev pub from_settled : ℕ → Bit → List (Option Item)
  from_settled r Nullable = from_register r Nullable
  from_settled r Committed = from_register r Committed ++ from_register r Free
  from_settled r Free = []

  -- of each argument whose parameter has slot k
  abbrev pub from_arguments : ℕ → List (Option SlotNo) → List Operand → Bit → List (Option Item)
  from_arguments k [] args bit = []
  from_arguments k (x ∷ xs) [] bit = []
  from_arguments k (x ∷ xs) (a ∷ args) bit = if_slot k x (from_register a.reg.0 bit) ++ from_arguments k xs args bit

  -- of a value that goes to a slot, where it is there and the slot is k
  abbrev pub from_operand : ℕ → Option SlotNo → Option Operand → Bit → List (Option Item)
  from_operand k slot None bit = []
  from_operand k slot (Some a) bit = if_slot k slot (from_register a.reg.0 bit)

  -- a receiver isn't null
  abbrev pub from_receiver : ℕ → Option SlotNo → Option Operand → Bit → List (Option Item)
  from_receiver k slot object Nullable = []
  from_receiver k slot object Committed = from_operand k slot object Committed
  from_receiver k slot object Free = from_operand k slot object Free

  module _ (P : Program) (e : Env) where
    -- a field read from an object under construction may be unassigned; else it has what its slot has
    abbrev pub from_field : ℕ → ℕ → Bit → List (Option Item)
    from_field object f bit = cond (qual_at e object).free the_text (from_slot (field_slot_of (field_info P f)) bit)

    -- a register's bit after the point
    abbrev pub behind : PointKind → ℕ → Bit → List (Option Item)
    behind (Const dst value) r bit = unless_written dst.0 r bit the_text
    behind (Move dst from bound) r bit = unless_written dst.0 r bit (from_register from.reg.0 bit)
    behind (Unary dst negate of) r bit = unless_written dst.0 r bit []
    behind (Binary dst op left right) r bit = unless_written dst.0 r bit []
    behind (Concat dst left right) r bit = unless_written dst.0 r bit the_text
    behind (SameRef dst eq left right) r bit = unless_written dst.0 r bit []
    behind (FieldRead dst object f) r bit = unless_written dst.0 r bit (from_field object.reg.0 f.0 bit)
    behind (StaticRead dst f) r bit = unless_written dst.0 r bit []
    behind (ElemRead dst array i) r bit = unless_written dst.0 r bit the_text
    behind (ArrayLen dst array) r bit = unless_written dst.0 r bit []
    behind (NewArray dst base n) r bit = unless_written dst.0 r bit the_text
    behind (ArrayOf dst base xs) r bit = unless_written dst.0 r bit the_text
    behind (New dst m args) r bit = unless_written dst.0 r bit (from_new (slots_of (method_at P m.0)) args bit)
    behind (Call dst m object direct args) r bit = unless_result dst r bit (from_slot (result_slot_of (method_at P m.0)) bit)
    behind (StrOp dst op of other) r bit = unless_written dst.0 r bit []
    behind (Cast dst of c) r bit = unless_written dst.0 r bit (from_register of.reg.0 bit)
    behind kind r bit = from_register r bit

    -- a constructor's own field that isn't assigned
    abbrev pub from_unset : ℕ → List ℕ → List ℕ → List (Option Item)
    from_unset k [] keys = []
    from_unset k (f ∷ fs) keys = cond (is_on (λ key. eqb key f) keys e.assigned) [] (if_slot k (field_slot_of (field_info P f)) the_text) ++ from_unset k fs keys

    -- the bit that the point sends to slot k
    abbrev pub sent_from : ℕ → PointKind → Bit → List (Option Item)
    sent_from k (FieldWrite object f v) bit = if_slot k (field_slot_of (field_info P f.0)) (from_settled v.reg.0 bit)
    sent_from k (New dst m args) bit = from_arguments k (slots_of (method_at P m.0)) args bit
    sent_from k (CtorCall m args own) bit = from_arguments k (slots_of (method_at P m.0)) args bit
    sent_from k (Call dst m object direct args) bit = from_arguments k (slots_of (method_at P m.0)) args bit ++ from_receiver k (receiver_slot_of (method_at P m.0)) object bit
    sent_from k (Return v) bit = from_operand k (result_slot_of (method_in P b)) v bit ++ for_null bit (from_unset k (own_keys P b) (own_keys P b))
    sent_from k kind bit = []
