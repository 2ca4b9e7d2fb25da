-- Programs that are safe for every caller: a contract between a call and the heap before and after it, so no sequence of calls need be looked at. Arguments are
-- committed, and no caller holds what is under construction (Summers and Müller, Freedom before commitment).
use Rattle.std.specs.Prelude.{ℕ, ◌≡◌, Bool, false, true, List, [], ◌∷◌, Option, Some, None, slice_get}
use Rattle.jn_quals.specs.Qualifier.{Qualifier}
use Rattle.jn_quals.specs.Order.{settle}
use Rattle.jn_points.specs.declared.point.BaseType.{BaseType}
use Rattle.jn_points.specs.declared.point.Point.{Point}
use Rattle.jn_points.specs.declared.point.PointKind.{PointKind}
use Rattle.jn_points.specs.declared.point.PointKind.TheVariants.{Return}
use Rattle.jn_points.specs.declared.program.Program.{Program}
use Rattle.jn_points.specs.Lookup.{method_at, point_at, result_base_of}
use Rattle.jn_points.specs.BaseRows.{is_void}
use Rattle.jn_sigs.specs.Signature.{result_of}
use Rattle.jn_heap.specs.Values.{Prim, Value, At, Thing, Object, Elems, End, Done, Limits}
use Rattle.jn_heap.specs.State.{Regs, State, Ends, Goes, Stuck, value_of}
use Rattle.jn_heap.specs.Steps.{field_in}
use Rattle.jn_heap.specs.Runs.{NullFault, run, texts, words_base}
use Rattle.jn_caller_law.specs.Whole.{IsWhole, Takes, type_of}
use Rattle.jn_caller_law.specs.Entries.{Allowed, Call, StaticCall, begin, heap_with, named}

-- a call of main: the words stand alone on the heap, as an array (JLS 8, 12.1.4)
abbrev pub words_heap : List (List ℕ) → List Thing
words_heap words = Elems words_base (texts words) ∷ []

-- main is called as a static method, on the array of words, which is the first thing on the heap (JLS 8, 12.1.4)
abbrev pub main_call : ℕ → ℕ → Call
main_call m b = StaticCall m b (At 0 ∷ [])

-- what a Return gives (JLS 8, 14.17)
abbrev pub returned_by : Regs → PointKind → Option Value
returned_by regs (Return v) = value_of regs v
returned_by regs k = None

-- the same of a point that may be missing, which gives nothing then
abbrev pub returned_at : Regs → Option Point → Option Value
returned_at regs None = None
returned_at regs (Some pt) = returned_by regs pt.kind

-- each thing is still there, of the class or array type that it had
abbrev pub Stay : List Thing → List Thing → Type 0
Stay before after = (o : ℕ) (x : Thing) → slice_get before o ≡ Some x → (y : Thing) × (slice_get after o ≡ Some y) × (type_of y ≡ type_of x)

module _ (P : Program) where
  -- a thing refers to a place by a field of its class, or by an element
  abbrev pub Refers : Option Thing → ℕ → Type 0
  Refers None p = ⊥
  Refers (Some (Object c fs)) p = (f : ℕ) × (field_in P (Some (Object c fs)) f ≡ Some (At p))
  Refers (Some (Elems b xs)) p = (i : ℕ) × (slice_get xs i ≡ Some (At p))

  -- what the last frame gives back
  abbrev pub returned : State → Option Value
  returned last = returned_at last.top.regs (point_at P last.top.body last.top.at)

  module _ (s : List Qualifier) where
    -- what a call that has ended leaves: a whole heap with all that was there, a new object of a constructor's class among it; what
    -- could be passed before can be passed still; and a method with result gives a value of its type that is null only where the
    -- result's slot has N, since what it gives is whole by now
    pub record Leaves (heap : List Thing) (c : Call) (last : State) : Type 0 where
      pub whole : IsWhole P s last.heap last.statics
      pub stay : Stay (heap_with P heap c) last.heap
      pub taken : (t : BaseType) (q : Qualifier) (v : Value) → Takes P heap t q v → Takes P last.heap t q v
      pub result : is_void (result_base_of (method_at P (named c))) ≡ false → (v : Value) × (returned last ≡ Some v) × Takes P last.heap (result_base_of (method_at P (named c))) (settle (result_of s (method_at P (named c)))) v

    -- what callers have after an exception of Java or a limit: all things that were there before, with all that they refer to, are
    -- those of a whole heap; what else was made may be half built, but none of them refers to it
    pub record Survives (before : List Thing) (last : State) : Type 0 where
      pub part : ℕ → Bool
      pub old : (o : ℕ) (x : Thing) → slice_get before o ≡ Some x → part o ≡ true
      pub closed : (o p : ℕ) → part o ≡ true → Refers (slice_get last.heap o) p → part p ≡ true
      pub view : List Thing
      pub same : (o : ℕ) → part o ≡ true → slice_get view o ≡ slice_get last.heap o
      pub whole : IsWhole P s view last.statics

    -- no allowed call over a whole heap comes to a null dereference or gets stuck, within any limits, with any texts of strings,
    -- whatever was printed; where it ends as done it leaves a whole heap, and however it ends, what was there is whole
    pub record SafeForCallers : Type 0 where
      pub never_null : (heap : List Thing) (statics : List Prim) (c : Call) → IsWhole P s heap statics → Allowed P s heap c → (limits : Limits) (out : List ℕ) (names : List (List ℕ)) (n : ℕ) (st : State) → run P names (Goes (begin P limits statics out heap c)) n ≡ Goes st → NullFault P st → ⊥
      pub never_stuck : (heap : List Thing) (statics : List Prim) (c : Call) → IsWhole P s heap statics → Allowed P s heap c → (limits : Limits) (out : List ℕ) (names : List (List ℕ)) (n : ℕ) → run P names (Goes (begin P limits statics out heap c)) n ≡ Stuck → ⊥
      pub leaves : (heap : List Thing) (statics : List Prim) (c : Call) → IsWhole P s heap statics → Allowed P s heap c → (limits : Limits) (out : List ℕ) (names : List (List ℕ)) (n : ℕ) (last : State) → run P names (Goes (begin P limits statics out heap c)) n ≡ Ends Done last → Leaves heap c last
      pub survives : (heap : List Thing) (statics : List Prim) (c : Call) → IsWhole P s heap statics → Allowed P s heap c → (limits : Limits) (out : List ℕ) (names : List (List ℕ)) (n : ℕ) (e : End) (last : State) → run P names (Goes (begin P limits statics out heap c)) n ≡ Ends e last → Survives heap last
