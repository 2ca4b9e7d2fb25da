-- Base typing of states, which soundness asks of a run.
use Rattle.std.specs.Prelude.{ℕ, ◌≡◌, Bool, true, false, List, [], ◌∷◌, Option, Some, None, slice_get}
use Rattle.jn_points.specs.Shaped.{IsObjectClass, IsVirtual}
use Rattle.jn_points.specs.BaseTyping.{PointTyped, StartsWith, given_bases}
use Rattle.jn_points.specs.BaseRows.{is_void}
use Rattle.jn_base.specs.declared.number.RegNo.{RegNo}
use Rattle.jn_base.specs.declared.number.MethodNo.{MethodNo}
use Rattle.jn_base.specs.declared.number.SlotNo.{SlotNo}
use Rattle.jn_points.specs.declared.point.Operand.{Operand}
use Rattle.jn_points.specs.declared.point.BaseType.{BaseType}
use Rattle.jn_points.specs.declared.point.BaseType.TheVariants.{Ref, Array}
use Rattle.jn_points.specs.declared.point.Elem.TheVariants.{Ref as RefElem}
use Rattle.jn_points.specs.declared.point.Point.{Point}
use Rattle.jn_points.specs.declared.point.PointKind.{PointKind}
use Rattle.jn_points.specs.declared.point.PointKind.TheVariants.{New, CtorCall, Call}
use Rattle.jn_heap.specs.Values.{At, Elems, NullRef, Object, Plain, Text, Thing, Value}
use Rattle.jn_heap.specs.State.{Frame, Regs, State, value_at}
use Rattle.jn_heap.specs.Steps.{field_in}
use Rattle.jn_heap.specs.Runs.{MainForm}
use Rattle.jn_soundness.specs.World.{World}
use Rattle.jn_points.specs.Lookup.{body_of, class_of, ctor_of, field_base, is_ref_base, method_at, method_in, params_of, point_at, reg_base, result_base_of, slots_of, static_of, ref_field, is_array, elem_base}
use Rattle.jn_points.specs.Members.{dispatch, fits}
use Rattle.jn_soundness.specs.Asked.{Overrides}

abbrev pub base_of_thing : Thing → BaseType
base_of_thing (Object c fs) = Ref (record { 0 = c })
base_of_thing (Elems b xs) = b

module _ (W : World) where
  abbrev pub ThingFits : Option Thing → BaseType → Type 0
  ThingFits None t = ⊥
  ThingFits (Some x) t = fits W.program (base_of_thing x) t ≡ true

  abbrev pub HasType : List Thing → BaseType → Value → Type 0
  HasType heap t NullRef = is_ref_base t ≡ true
  HasType heap t (Text x) = fits W.program (Ref (record { 0 = 1 })) t ≡ true
  HasType heap t (Plain p) = is_ref_base t ≡ false
  HasType heap t (At o) = ThingFits (slice_get heap o) t

  abbrev pub ThingTyped : List Thing → Option Thing → Type 0
  ThingTyped heap None = Unit {0}
  ThingTyped heap (Some (Object c fs)) = IsObjectClass W.program c × ((f : ℕ) (v : Value) → field_in W.program (Some (Object c fs)) f ≡ Some v → HasType heap (field_base W.program f) v)
  ThingTyped heap (Some (Elems b xs)) = (is_array b ≡ true) × ((i : ℕ) (v : Value) → slice_get xs i ≡ Some v → HasType heap (elem_base b) v)

  abbrev pub HeapTyped : List Thing → Type 0
  HeapTyped heap = (o : ℕ) → ThingTyped heap (slice_get heap o)

  abbrev pub RegsTyped : List Thing → ℕ → Regs → Type 0
  RegsTyped heap b regs = (r : ℕ) (v : Value) → value_at regs r ≡ Some v → HasType heap (reg_base W.program b r) v

  abbrev pub GivesTo : ℕ → ℕ → Option RegNo → Type 0
  GivesTo b w None = Unit {0}
  GivesTo b w (Some dst) = (is_void (result_base_of (method_in W.program b)) ≡ false) × (fits W.program (result_base_of (method_in W.program b)) (reg_base W.program w dst.0) ≡ true)

  -- what callee b gives fits the waiting point of body w
  abbrev pub ReturnFits : ℕ → ℕ → PointKind → Type 0
  ReturnFits b w (New dst m args) = fits W.program (reg_base W.program b 0) (reg_base W.program w dst.0) ≡ true
  ReturnFits b w (Call dst m r direct args) = GivesTo b w dst
  ReturnFits b w k = Unit {0}

  abbrev pub ReturnFitsAt : ℕ → ℕ → Option Point → Type 0
  ReturnFitsAt b w None = Unit {0}
  ReturnFitsAt b w (Some pt) = ReturnFits b w pt.kind

  abbrev pub WaitTyped : List Thing → ℕ → List Frame → Type 0
  WaitTyped heap b [] = Unit {0}
  WaitTyped heap b (w ∷ ws) = RegsTyped heap w.body w.regs × ReturnFitsAt b w.body (point_at W.program w.body w.at) × WaitTyped heap w.body ws

  pub record StateTyped (st : State) : Type 0 where
    pub heap : HeapTyped st.heap
    pub top : RegsTyped st.heap st.top.body st.top.regs
    pub waiting : WaitTyped st.heap st.top.body st.waiting

  -- a slot stands where the parameter is a reference
  abbrev pub SlotsRef : List (Option SlotNo) → List BaseType → Type 0
  SlotsRef [] ts = Unit {0}
  SlotsRef (x ∷ xs) [] = Unit {0}
  SlotsRef (None ∷ xs) (t ∷ ts) = SlotsRef xs ts
  SlotsRef (Some s ∷ xs) (t ∷ ts) = (is_ref_base t ≡ true) × SlotsRef xs ts

  pub record Selects (k m : ℕ) : Type 0 where
    pub over : Overrides W k m
    pub params : params_of (method_at W.program k) ≡ params_of (method_at W.program m)
    pub result : fits W.program (result_base_of (method_at W.program k)) (result_base_of (method_at W.program m)) ≡ true

  pub record ProgramTyped : Type 0 where
    pub points : (b p : ℕ) (pt : Point) → point_at W.program b p ≡ Some pt → PointTyped W.program b pt.kind
    -- the method that an object's class has for a method of a class above it
    pub selects : (c m k : ℕ) → IsObjectClass W.program c → IsVirtual W.program m → dispatch W.program c m ≡ Some k → fits W.program (Ref (record { 0 = c })) (Ref (record { 0 = class_of (method_at W.program m) })) ≡ true → Selects k m × (fits W.program (Ref (record { 0 = c })) (Ref (record { 0 = class_of (method_at W.program k) })) ≡ true)
    pub virtual : (b p : ℕ) (pt : Point) (dst : Option RegNo) (m : MethodNo) (r : Operand) (args : List Operand) → point_at W.program b p ≡ Some pt → pt.kind ≡ Call dst m (Some r) false args → IsVirtual W.program m.0
    pub direct : (b p : ℕ) (pt : Point) (dst : Option RegNo) (m : MethodNo) (r : Operand) (args : List Operand) → point_at W.program b p ≡ Some pt → pt.kind ≡ Call dst m (Some r) true args → Selects m.0 m.0
    pub fields : (f : ℕ) → ref_field W.program f ≡ false → is_ref_base (field_base W.program f) ≡ false
    pub refs : (m : ℕ) → SlotsRef (slots_of (method_at W.program m)) (params_of (method_at W.program m))
    pub bodies : (m b : ℕ) → body_of (method_at W.program m) ≡ Some b → method_in W.program b ≡ method_at W.program m
    pub starts : (m b : ℕ) → body_of (method_at W.program m) ≡ Some b → StartsWith W.program (reg_base W.program b) (given_bases W.program m)
    pub ctor_reg : (m b : ℕ) → body_of (method_at W.program m) ≡ Some b → ctor_of (method_at W.program m) ≡ true → (reg_base W.program b 0 ≡ Ref (record { 0 = class_of (method_at W.program m) })) × (static_of (method_at W.program m) ≡ false)
    pub receivers : (b p : ℕ) (pt : Point) (dst : Option RegNo) (m : MethodNo) (direct : Bool) (args : List Operand) → point_at W.program b p ≡ Some pt → pt.kind ≡ Call dst m None direct args → static_of (method_at W.program m.0) ≡ true
    pub news : (b p : ℕ) (pt : Point) (dst : RegNo) (m : MethodNo) (args : List Operand) → point_at W.program b p ≡ Some pt → pt.kind ≡ New dst m args → (ctor_of (method_at W.program m.0) ≡ true) × IsObjectClass W.program (class_of (method_at W.program m.0))
    pub ctors : (b p : ℕ) (pt : Point) (m : MethodNo) (args : List Operand) (own : Bool) → point_at W.program b p ≡ Some pt → pt.kind ≡ CtorCall m args own → ctor_of (method_at W.program m.0) ≡ true

  -- main's first register takes an array of String
  abbrev pub MainTyped : ℕ → Type 0
  MainTyped b = StartsWith W.program (reg_base W.program b) (Array (RefElem (record { 0 = 1 })) false ∷ [])

  abbrev pub MainsTyped : Type 0
  MainsTyped = (m b : ℕ) → MainForm W.program m b → MainTyped b
