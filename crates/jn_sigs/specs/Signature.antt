-- Signatures, that is a qualifier for each slot, and the one from which inference starts.
use Rattle.std.specs.Prelude.{ℕ, ◌+◌, ◌≡◌, Bool, true, false, cond, not, ◌&&◌, ◌||◌, eqb, List, [], ◌∷◌, Option, Some, None, slice_get, slice_index_or}
use Rattle.jn_base.specs.declared.number.MethodNo.{MethodNo}
use Rattle.jn_base.specs.declared.number.SlotNo.{SlotNo}
use Rattle.jn_quals.specs.Qualifier.{Qualifier}
use Rattle.jn_quals.specs.Order.{no_qual, committed_only}
use Rattle.jn_points.specs.declared.point.PointKind.{PointKind}
use Rattle.jn_points.specs.declared.point.PointKind.TheVariants.{New, CtorCall, Call}
use Rattle.jn_points.specs.declared.program.Field.{Field}
use Rattle.jn_points.specs.declared.program.Method.{Method}
use Rattle.jn_points.specs.declared.program.Body.{Body}
use Rattle.jn_points.specs.declared.program.SlotInfo.{SlotInfo}
use Rattle.jn_points.specs.declared.program.Program.{Program}
use Rattle.jn_points.specs.Lookup.{class_of, private_of, method_at}
use Rattle.jn_points.specs.Members.{some_of}

-- the methods that a point calls by name
abbrev pub calls_method : ℕ → PointKind → Bool
calls_method m (New dst ctor args) = eqb ctor.0 m
calls_method m (CtorCall ctor args own) = eqb ctor.0 m
calls_method m (Call dst method receiver direct args) = eqb method.0 m
calls_method m kind = false

-- whether a method is there and is m
abbrev pub is_method : ℕ → Option MethodNo → Bool
is_method m None = false
is_method m (Some n) = eqb n.0 m

-- whether a slot is there and is i
abbrev pub is_slot : ℕ → Option SlotNo → Bool
is_slot i None = false
is_slot i (Some s) = eqb s.0 i

-- the slot is of a parameter, the receiver or the result of the method
abbrev pub method_has_slot : ℕ → Method → Bool
method_has_slot i m = is_slot i m.receiver || is_slot i m.result_slot || some_of (is_slot i) m.param_slots

module _ (P : Program) where
  -- calls in a body count for a method: of a private one those in the bodies of its class, of another one all
  abbrev pub counts_for : Bool → ℕ → Body → Bool
  counts_for is_private c body = not is_private || eqb (class_of (method_at P body.method.0)) c

  -- a body has a call site of method m that counts
  abbrev pub calls_from : ℕ → Bool → ℕ → Body → Bool
  calls_from m is_private c body = counts_for is_private c body && some_of (λ pt. calls_method m pt.kind) body.points

  -- whether some body has a call site of the method that counts
  abbrev pub has_call_site : ℕ → Method → Bool
  has_call_site m info = some_of (calls_from m info.is_private info.owner.0) P.bodies

  -- some body calls the method, of a private one some body of its class
  abbrev pub is_called : ℕ → Bool
  is_called m = some_of (calls_from m (private_of (method_at P m)) (class_of (method_at P m))) P.bodies

  -- the slot is of a method, from number m on, that has no call site that counts
  abbrev pub uncalled_from : ℕ → ℕ → List Method → Bool
  uncalled_from i m [] = false
  uncalled_from i m (x ∷ xs) = (method_has_slot i x && not (has_call_site m x)) || uncalled_from i (m + 1) xs

  -- where slot i starts: as written or by default; an inferred one at {C} if its method has no call site that counts, else empty
  abbrev pub start_of : ℕ → SlotInfo → Qualifier
  start_of i info = cond info.inferred (cond (uncalled_from i 0 P.methods) committed_only no_qual) info.start

  -- where slots start, in their order, the first of them with number i
  abbrev pub starts_from : ℕ → List SlotInfo → List Qualifier
  starts_from i [] = []
  starts_from i (x ∷ xs) = start_of i x ∷ starts_from (i + 1) xs

  -- written and default slots have their bits; an inferred one is empty, or {C} where it is of a private method with no call site in its class,
  -- or of another method with no call site in the program
  abbrev pub start_signature : List Qualifier
  start_signature = starts_from 0 P.slots

  -- no method but a private one has an inferred slot
  abbrev pub OnlyPrivateInferred : Type 0
  OnlyPrivateInferred = (m i : ℕ) (x : Method) (info : SlotInfo) → method_at P m ≡ Some x → method_has_slot i x ≡ true → slice_get P.slots i ≡ Some info → info.inferred ≡ true → x.is_private ≡ true

module _ (s : List Qualifier) where
  -- what the signature says of a slot, the empty qualifier where there is none
  abbrev pub slot_qual : Option SlotNo → Qualifier
  slot_qual None = no_qual
  slot_qual (Some n) = slice_index_or s n.0 no_qual

  -- what the signature says of each slot in turn
  abbrev pub slot_quals : List (Option SlotNo) → List Qualifier
  slot_quals [] = []
  slot_quals (x ∷ xs) = slot_qual x ∷ slot_quals xs

  -- what the signature says of the values that a field holds
  abbrev pub field_qual_of : Option Field → Qualifier
  field_qual_of None = no_qual
  field_qual_of (Some f) = slot_qual f.slot

  -- what the signature says of what a method gives
  abbrev pub result_of : Option Method → Qualifier
  result_of None = no_qual
  result_of (Some m) = slot_qual m.result_slot

  -- what the signature says of the object on which a method is called
  abbrev pub receiver_of : Option Method → Qualifier
  receiver_of None = no_qual
  receiver_of (Some m) = slot_qual m.receiver

module _ (P : Program) (s : List Qualifier) where
  -- what the signature says of the values that the field of a number holds
  abbrev pub field_qual : ℕ → Qualifier
  field_qual f = field_qual_of s (slice_get P.fields f)
