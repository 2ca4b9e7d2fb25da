-- What a body sends into inferred slots under its table (this project's inference of positions of private members that are not written), and when a signature is closed.
use Rattle.std.specs.Prelude.{ℕ, ◌≡◌, ◌⊎◌, Bool, true, false, cond, eqb, IsTrue, List, [], ◌∷◌, ◌++◌, Option, Some, None, slice_get, slice_index_or}
use Rattle.jn_base.specs.declared.number.SlotNo.{SlotNo}
use Rattle.jn_quals.specs.Qualifier.{Qualifier}
use Rattle.jn_quals.specs.Order.{no_qual, null_only, without_null, settle, within}
use Rattle.jn_points.specs.declared.point.Operand.{Operand}
use Rattle.jn_points.specs.declared.point.Point.{Point}
use Rattle.jn_points.specs.declared.point.PointKind.{PointKind}
use Rattle.jn_points.specs.declared.point.PointKind.TheVariants.{FieldWrite, New, CtorCall, Call, Return}
use Rattle.jn_points.specs.declared.program.Field.{Field}
use Rattle.jn_points.specs.declared.program.Method.{Method}
use Rattle.jn_points.specs.declared.program.SlotInfo.{SlotInfo}
use Rattle.jn_points.specs.declared.program.Program.{Program}
use Rattle.jn_points.specs.Lookup.{slots_of, point_at, field_info, method_at, method_in}
use Rattle.jn_env.specs.Environment.{Env}
use Rattle.jn_env.specs.Order.{env_in, qual_at}
use Rattle.jn_env.specs.Keys.{is_on, own_keys}

-- whether a slot is there and inferred, that is neither written nor given by default
abbrev pub is_inferred : Option SlotInfo → Bool
is_inferred None = false
is_inferred (Some info) = info.inferred

-- the slot of what a method gives, None where that is no reference
abbrev pub result_slot_of : Option Method → Option SlotNo
result_slot_of None = None
result_slot_of (Some m) = m.result_slot

-- the slot of the object on which a method is called, None where it is static or a constructor
abbrev pub receiver_slot_of : Option Method → Option SlotNo
receiver_slot_of None = None
receiver_slot_of (Some m) = m.receiver

-- the slot of a field, None where its type is no reference
abbrev pub field_slot_of : Option Field → Option SlotNo
field_slot_of None = None
field_slot_of (Some f) = f.slot

-- what is sent has this pair of a slot's number and a qualifier
abbrev pub IsSent : ℕ × Qualifier → List (ℕ × Qualifier) → Type 0
IsSent x [] = ⊥
IsSent x (y ∷ ys) = (x ≡ y) ⊎ IsSent x ys

module _ (P : Program) where
  -- to an inferred slot alone
  abbrev pub sends : Option SlotNo → Qualifier → List (ℕ × Qualifier)
  sends None q = []
  sends (Some n) q = cond (is_inferred (slice_get P.slots n.0)) ((n.0, q) ∷ []) []

  -- each argument's qualifier, to its parameter
  abbrev pub arg_sends : Env → List (Option SlotNo) → List Operand → List (ℕ × Qualifier)
  arg_sends e [] args = []
  arg_sends e (x ∷ xs) [] = []
  arg_sends e (x ∷ xs) (a ∷ args) = sends x (qual_at e a.reg.0) ++ arg_sends e xs args

  -- a receiver's without N
  abbrev pub receiver_sends : Env → Option SlotNo → Option Operand → List (ℕ × Qualifier)
  receiver_sends e slot None = []
  receiver_sends e slot (Some r) = sends slot (without_null (qual_at e r.reg.0))

  -- the qualifier of the value that a return gives, to the result's slot; nothing where it gives none
  abbrev pub return_sends : Env → Option SlotNo → Option Operand → List (ℕ × Qualifier)
  return_sends e slot None = []
  return_sends e slot (Some v) = sends slot (qual_at e v.reg.0)

  -- N to each of a constructor's own fields that isn't assigned
  abbrev pub unset_sends : List ℕ → List ℕ → List Bool → List (ℕ × Qualifier)
  unset_sends [] keys bits = []
  unset_sends (f ∷ fs) keys bits = cond (is_on (λ k. eqb k f) keys bits) [] (sends (field_slot_of (field_info P f)) null_only) ++ unset_sends fs keys bits

  -- what a reached point of body b sends
  abbrev pub kind_sends : ℕ → Env → PointKind → List (ℕ × Qualifier)
  kind_sends b e (FieldWrite r f v) = sends (field_slot_of (field_info P f.0)) (settle (qual_at e v.reg.0))
  kind_sends b e (New dst m args) = arg_sends e (slots_of (method_at P m.0)) args
  kind_sends b e (CtorCall m args own) = arg_sends e (slots_of (method_at P m.0)) args
  kind_sends b e (Call dst m r direct args) = arg_sends e (slots_of (method_at P m.0)) args ++ receiver_sends e (receiver_slot_of (method_at P m.0)) r
  kind_sends b e (Return v) = return_sends e (result_slot_of (method_in P b)) v ++ unset_sends (own_keys P b) (own_keys P b) e.assigned
  kind_sends b e kind = []

  -- a signature has all that is sent under the tables
  abbrev pub Closed : List Qualifier → List (List (Option Env)) → Type 0
  Closed s tables = (b p : ℕ) (pt : Point) (e : Env) → point_at P b p ≡ Some pt → env_in (slice_index_or tables b []) p ≡ Some e → (x : ℕ × Qualifier) → IsSent x (kind_sends b e pt.kind) → IsTrue (within x.1 (slice_index_or s x.0 no_qual))

  -- a reference field's slot is there, and has C where it isn't inferred
  abbrev pub FieldSlots : Type 0
  FieldSlots = (f : ℕ) (x : Field) (n : SlotNo) → field_info P f ≡ Some x → x.slot ≡ Some n → (info : SlotInfo) × (slice_get P.slots n.0 ≡ Some info) × (info.inferred ≡ false → info.start.committed ≡ true)
