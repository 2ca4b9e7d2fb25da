-- What soundness asks of base typing, and of mains.
use Rattle.std.specs.Prelude.{ℕ, ◌≡◌, true, false, IsTrue, [], Some, slice_get, List, ◌∷◌, Option, None}
use Rattle.jn_quals.specs.Order.{within}
use Rattle.jn_points.specs.declared.point.Point.{Point}
use Rattle.jn_points.specs.declared.point.PointKind.{PointKind}
use Rattle.jn_points.specs.declared.point.PointKind.TheVariants.{FieldWrite, FieldRead, ArrayOf, New, ElemRead, ElemWrite, Call}
use Rattle.jn_points.specs.declared.program.Body.{Body}
use Rattle.jn_points.specs.Lookup.{body_at, ref_field, ctor_of, method_at, method_in, reg_base, static_of, flat_field, slots_of}
use Rattle.jn_soundness.specs.World.{World}
use Rattle.jn_base.specs.declared.number.SlotNo.{SlotNo}
use Rattle.jn_quals.specs.Qualifier.{Qualifier}
use Rattle.jn_points.specs.declared.point.BaseType.{BaseType}
use Rattle.jn_points.specs.declared.point.Operand.{Operand}
use Rattle.jn_transfer.specs.Transfer.{elem_qual, given_quals}
use Rattle.jn_sigs.specs.Signature.{receiver_of, result_of, slot_quals, slot_qual}
use Rattle.jn_heap.specs.Values.{At, Elems, NullRef, Plain, Prim, Text, Value}
use Rattle.jn_soundness.specs.Checked.{ref_elems}
use Rattle.jn_heap.specs.State.{Regs, State, value_at}
use Rattle.jn_heap.specs.Steps.{field_at}
use Rattle.jn_heap.specs.Calls.{class_at, selected}
use Rattle.jn_heap.specs.Runs.{MainForm}
use Rattle.jn_env.specs.Order.{QualsWithin}

-- each reference argument holds a reference
abbrev pub ArgsRef : Regs → List (Option SlotNo) → List Operand → Type 0
ArgsRef regs [] args = Unit {0}
ArgsRef regs (x ∷ xs) [] = Unit {0}
ArgsRef regs (None ∷ xs) (a ∷ args) = ArgsRef regs xs args
ArgsRef regs (Some s ∷ xs) (a ∷ args) = ((p : Prim) → value_at regs a.reg.0 ≡ Some (Plain p) → ⊥) × ArgsRef regs xs args

-- an int or boolean, or nothing yet
abbrev pub HoldsPlain : Option Value → Type 0
HoldsPlain None = Unit {0}
HoldsPlain (Some NullRef) = ⊥
HoldsPlain (Some (Text t)) = ⊥
HoldsPlain (Some (Plain p)) = Unit {0}
HoldsPlain (Some (At o)) = ⊥

abbrev pub AllPlain : Regs → List Operand → Type 0
AllPlain regs [] = Unit {0}
AllPlain regs (a ∷ args) = HoldsPlain (value_at regs a.reg.0) × AllPlain regs args

module _ (W : World) where
  -- the selected method takes all that the named one takes, and gives no more
  pub record Overrides (k m : ℕ) : Type 0 where
    pub params : QualsWithin (slot_quals W.sig (slots_of (method_at W.program m))) (slot_quals W.sig (slots_of (method_at W.program k)))
    pub receiver : IsTrue (within (receiver_of W.sig (method_at W.program m)) (receiver_of W.sig (method_at W.program k)))
    pub result : IsTrue (within (result_of W.sig (method_at W.program k)) (result_of W.sig (method_at W.program m)))
    pub method : ctor_of (method_at W.program k) ≡ false
    pub instance : static_of (method_at W.program k) ≡ false

  -- an array has elements of the nullity of the register's type
  abbrev pub ElemsFit : State → ℕ → Type 0
  ElemsFit st r = (o : ℕ) (b : BaseType) (xs : List Value) → value_at st.top.regs r ≡ Some (At o) → slice_get st.heap o ≡ Some (Elems b xs) → elem_qual b ≡ elem_qual (reg_base W.program st.top.body r)

  -- what a point's registers hold
  abbrev pub Typed : State → PointKind → Type 0
  Typed st (FieldRead dst r f) = (o p : ℕ) → value_at st.top.regs r.reg.0 ≡ Some (At o) → field_at W.program st.heap o f.0 ≡ Some (At p) → flat_field W.program f.0 ≡ true → class_at st.heap p ≡ None
  Typed st (ElemRead dst r i) = ElemsFit st r.reg.0
  Typed st (FieldWrite r f s) = ref_field W.program f.0 ≡ false → HoldsPlain (value_at st.top.regs s.reg.0)
  Typed st (ElemWrite r i s) = ElemsFit st r.reg.0 × (ref_elems (reg_base W.program st.top.body r.reg.0) ≡ false → HoldsPlain (value_at st.top.regs s.reg.0))
  Typed st (ArrayOf dst base xs) = ref_elems base ≡ false → AllPlain st.top.regs xs
  Typed st (New dst m args) = ArgsRef st.top.regs (slots_of (method_at W.program m.0)) args
  Typed st (Call dst m (Some r) direct args) = (o k : ℕ) → value_at st.top.regs r.reg.0 ≡ Some (At o) → selected W.program st.heap o m.0 direct ≡ Some k → Overrides k m.0
  Typed st k = Unit {0}

  abbrev pub TypedAt : State → Option Point → Type 0
  TypedAt st None = Unit {0}
  TypedAt st (Some pt) = Typed st pt.kind

  -- main's body takes one committed argument
  pub record IsMain (b : ℕ) : Type 0 where
    pub body : Body
    pub there : body_at W.program b ≡ Some body
    pub method : ctor_of (method_in W.program b) ≡ false
    pub qual : Qualifier
    pub given : given_quals W.sig (method_in W.program b) ≡ qual ∷ []
    pub committed : qual.committed ≡ true

  -- each main is static and no constructor, and the signature gives its parameter C
  pub record MainsOk : Type 0 where
    pub static : (m b : ℕ) → MainForm W.program m b → static_of (method_at W.program m) ≡ true
    pub method : (m b : ℕ) → MainForm W.program m b → ctor_of (method_at W.program m) ≡ false
    pub slot : (m b : ℕ) (main : MainForm W.program m b) → (slot_qual W.sig (Some main.slot)).committed ≡ true
