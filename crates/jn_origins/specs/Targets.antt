-- The slots to which a point can send, whatever its environment; and the bodies that can send to a slot.
use Rattle.std.specs.Prelude.{ℕ, ◌<◌, ◌≡◌, ◌⊎◌, true, List, [], ◌∷◌, ◌++◌, length, Option, Some, None, slice_get, slice_index_or}
use Rattle.jn_base.specs.declared.number.SlotNo.{SlotNo}
use Rattle.jn_points.specs.declared.point.Point.{Point}
use Rattle.jn_points.specs.declared.point.PointKind.{PointKind}
use Rattle.jn_points.specs.declared.point.PointKind.TheVariants.{FieldWrite, New, CtorCall, Call, Return}
use Rattle.jn_points.specs.declared.program.Program.{Program}
use Rattle.jn_points.specs.Lookup.{field_info, method_at, method_in, point_at, slots_of}
use Rattle.jn_env.specs.Keys.{own_keys}
use Rattle.jn_transfer.specs.Contributions.{field_slot_of, is_inferred, receiver_slot_of, result_slot_of}
use Rattle.jn_reasons.specs.declared.causes.Cause.{Cause}
use Rattle.jn_reasons.specs.Listed.{IsListed}

abbrev pub IsOf : ℕ → List ℕ → Type 0
IsOf x [] = ⊥
IsOf x (y ∷ ys) = (x ≡ y) ⊎ IsOf x ys

abbrev pub slot_list : Option SlotNo → List ℕ
slot_list None = []
slot_list (Some n) = n.0 ∷ []

abbrev pub slots_list : List (Option SlotNo) → List ℕ
slots_list [] = []
slots_list (x ∷ xs) = slot_list x ++ slots_list xs

module _ (P : Program) where
  abbrev pub fields_list : List ℕ → List ℕ
  fields_list [] = []
  fields_list (f ∷ fs) = slot_list (field_slot_of (field_info P f)) ++ fields_list fs

  -- of a point of body b
  abbrev pub targets : ℕ → PointKind → List ℕ
  targets b (FieldWrite r f v) = slot_list (field_slot_of (field_info P f.0))
  targets b (New dst m args) = slots_list (slots_of (method_at P m.0))
  targets b (CtorCall m args own) = slots_list (slots_of (method_at P m.0))
  targets b (Call dst m r direct args) = slots_list (slots_of (method_at P m.0)) ++ slot_list (receiver_slot_of (method_at P m.0))
  targets b (Return v) = slot_list (result_slot_of (method_in P b)) ++ fields_list (own_keys P b)
  targets b kind = []

  -- of points of body b
  abbrev pub all_targets : ℕ → List Point → List ℕ
  all_targets b [] = []
  all_targets b (pt ∷ pts) = targets b pt.kind ++ all_targets b pts

  -- lists for slots, to which a body is added for each inferred one of these
  pub record Added (body : ℕ) (slots : List ℕ) (old new : List (List ℕ)) : Type 0 where
    pub long : length new ≡ length old
    pub kept : (k x : ℕ) → IsOf x (slice_index_or old k []) → IsOf x (slice_index_or new k [])
    pub there : (k : ℕ) → k < length old → IsOf k slots → is_inferred (slice_get P.slots k) ≡ true → IsOf body (slice_index_or new k [])

  -- the bodies below n are in the lists of the inferred slots to which a point of theirs can send
  pub record AreSendersBelow (n : ℕ) (lists : List (List ℕ)) : Type 0 where
    pub long : length lists ≡ length P.slots
    pub all : (b p k : ℕ) (pt : Point) → b < n → point_at P b p ≡ Some pt → IsOf k (targets b pt.kind) → is_inferred (slice_get P.slots k) ≡ true → IsOf b (slice_index_or lists k [])

  abbrev pub AreSenders : List (List ℕ) → Type 0
  AreSenders lists = AreSendersBelow (length P.bodies) lists

-- of each of the numbers
abbrev pub over : (ℕ → List Cause) → List ℕ → List Cause
over f [] = []
over f (x ∷ xs) = f x ++ over f xs

-- the same causes, in any order
pub record AreSame (one other : List Cause) : Type 0 where
  pub all : (c : Cause) → IsListed c other → IsListed c one
  pub none_else : (c : Cause) → IsListed c one → IsListed c other
