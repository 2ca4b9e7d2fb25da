-- Values, things and points are of their base types: what soundness asks of them, and each step that leaves the heap as it is.
use Rattle.std.proofs.Common.{◌≡◌, ℕ, Bool, true, false, ◌⊎◌, inl, inr, List, [], ◌∷◌, ◌++◌, Option, Some, None, refl, sym, ◌∙◌, subst, ltb}
use Rattle.std.specs.Prelude.{slice_get, slice_set, eqb, ltb, ℤ}
use Rattle.jn_points.specs.BaseTyping.{AllTyped, ArgsTyped, ConstTyped, PointTyped, Ordered}
use Rattle.jn_points.specs.Shaped.{IsVirtual}
use Rattle.jn_base.specs.declared.number.RegNo.{RegNo}
use Rattle.jn_base.specs.declared.number.ClassNo.{ClassNo}
use Rattle.jn_base.specs.declared.number.MethodNo.{MethodNo}
use Rattle.jn_base.specs.declared.number.SlotNo.{SlotNo}
use Rattle.jn_points.specs.declared.point.Operand.{Operand}
use Rattle.jn_points.specs.declared.point.Operator.{Operator}
use Rattle.jn_points.specs.declared.point.StrOperation.{StrOperation}
use Rattle.jn_points.specs.declared.point.BaseType.{BaseType}
use Rattle.jn_points.specs.declared.point.BaseType.TheVariants.{Ref, Array, Int, Bool as BoolBase, Void, Null as NullBase}
use Rattle.jn_points.specs.declared.point.Elem.TheVariants.{Ref as RefElem, Int as IntElem, Bool as BoolElem}
use Rattle.jn_points.specs.declared.point.Literal.{Literal}
use Rattle.jn_points.specs.declared.point.Literal.TheVariants.{Int as IntOf, Truth as TruthOf, Str, Null}
use Rattle.jn_points.specs.declared.point.Point.{Point}
use Rattle.jn_points.specs.declared.point.PointKind.{PointKind}
use Rattle.jn_points.specs.declared.point.PointKind.TheVariants.{FieldRead, FieldWrite, ElemRead, ElemWrite, ArrayOf, New, Call}
use Rattle.jn_points.specs.declared.program.Field.{Field}
use Rattle.jn_soundness.specs.Types.{HasType, HeapTyped, ProgramTyped, RegsTyped, Selects, SlotsRef, StateTyped, ThingFits, ThingTyped, base_of_thing}
use Rattle.jn_heap.specs.Values.{At, Elems, Fails, Gives, Got, Lacks, NullRef, Object, Plain, Prim, Text, Thing, Value, binary, default_of, index, same, unary, units, text_op}
use Rattle.jn_heap.specs.State.{Ends, Goes, Next, Regs, State, Stuck, got_of, got_plain, got_sets, moves, object_of, sets, value_at}
use Rattle.jn_heap.specs.Steps.{array_len, binary_of, branch, cast_as, cast_of, concat_of, elem_in, field_at, field_in, goes_by, is_within, item_or_index, length_in, literal_value, may_hold, print, read_elem, read_field, same_of, str_op, test_inst, test_null, text_or_long, unary_of, write_static, thing_within}
use Rattle.jn_heap.specs.Calls.{class_in, dispatched, selected}
use Rattle.jn_soundness.specs.World.{World}
use Rattle.jn_points.specs.Lookup.{class_of, field_base, field_base_of, flat_of, is_flat, is_ref_base, method_at, params_of, point_at, reg_base, slots_of, is_array, elem_base}
use Rattle.jn_points.specs.Members.{fits}
use Rattle.jn_soundness.specs.Checked.{ref_elems}
use Rattle.jn_soundness.proofs.Fits.{fits_trans, fits_refs, fits_flat, fits_elems, fits_items}
use Rattle.jn_soundness.proofs.Basics.{true_false, eqb_cases, value_other, value_same}
use Rattle.jn_soundness.proofs.Tops.{GotOk, object_is}
use Rattle.jn_soundness.specs.Asked.{ArgsRef, Typed, HoldsPlain, AllPlain}

pub array_ref : (b : BaseType) → is_array b ≡ true → is_ref_base b ≡ true
array_ref (Array e nullable) a = refl
array_ref b a = cc

-- a thing on the heap is of no type but reference types
pub no_thing : (W : World) (T : Ordered W.program) (heap : List Thing) (t : BaseType) (x : Option Thing) → is_ref_base t ≡ false → ThingTyped W heap x → ThingFits W x t → ⊥
no_thing W T heap t None n h f = f
no_thing W T heap t (Some (Object c fs)) n h f = true_false (is_ref_base t) (sym (fits_refs W.program T (Ref (record { 0 = c })) t f)) n
no_thing W T heap t (Some (Elems b xs)) n h f = true_false (is_ref_base t) (sym (fits_refs W.program T b t f) ∙ array_ref b h.0) n

module _ (W : World) (T : Ordered W.program) (P : ProgramTyped W) where
  -- a value of a type is of each type that it fits
  fits_thing : (x : Option Thing) (t u : BaseType) → fits W.program t u ≡ true → ThingFits W x t → ThingFits W x u
  fits_thing None t u f h = h
  fits_thing (Some x) t u f h = fits_trans W.program T (base_of_thing x) t u h f

  pub fits_type : (heap : List Thing) (t u : BaseType) (v : Value) → fits W.program t u ≡ true → HasType W heap t v → HasType W heap u v
  fits_type heap t u NullRef f h = sym (fits_refs W.program T t u f) ∙ h
  fits_type heap t u (Text x) f h = fits_trans W.program T (Ref (record { 0 = 1 })) t u h f
  fits_type heap t u (Plain p) f h = sym (fits_refs W.program T t u f) ∙ h
  fits_type heap t u (At o) f h = fits_thing (slice_get heap o) t u f h

  -- what is within a class is of it
  within_thing : (heap : List Thing) (c : ClassNo) (x : Option Thing) → ThingTyped W heap x → thing_within W.program x c.0 ≡ true → ThingFits W x (Ref c)
  within_thing heap c None t h = cc
  within_thing heap c (Some (Object d fs)) t h = h
  within_thing heap c (Some (Elems b xs)) t h = array_within b t.0
    where
      array_within : (b : BaseType) → is_array b ≡ true → fits W.program b (Ref c) ≡ true
      array_within (Array e nullable) a = h
      array_within b a = cc

  within_has : (heap : List Thing) → HeapTyped W heap → (v : Value) (c : ClassNo) → is_within W.program heap v c.0 ≡ true → HasType W heap (Ref c) v
  within_has heap typed NullRef c h = refl
  within_has heap typed (Text t) c h = h
  within_has heap typed (Plain p) c h = cc
  within_has heap typed (At o) c h = within_thing heap c (slice_get heap o) (typed o) h

  -- what an element may hold is of its type, and so is a default
  pub held_has : (heap : List Thing) → HeapTyped W heap → (t : BaseType) (v : Value) → may_hold W.program heap t v ≡ true → HasType W heap t v
  held_has heap typed Int (Plain p) h = refl
  held_has heap typed BoolBase (Plain p) h = refl
  held_has heap typed (Ref c) NullRef h = refl
  held_has heap typed (Ref c) (Text t) h = within_has heap typed (Text t) c h
  held_has heap typed (Ref c) (At o) h = within_has heap typed (At o) c h
  held_has heap typed t v h = cc

  pub default_has : (heap : List Thing) (t : BaseType) → HasType W heap t (default_of t)
  default_has heap Int = refl
  default_has heap BoolBase = refl
  default_has heap Void = refl
  default_has heap NullBase = refl
  default_has heap (Ref c) = refl
  default_has heap (Array e nullable) = refl

  -- a register whose type is no reference type holds an int or boolean
  holds_plain : (heap : List Thing) → HeapTyped W heap → (t : BaseType) → is_ref_base t ≡ false → (v : Option Value) → ((w : Value) → v ≡ Some w → HasType W heap t w) → HoldsPlain v
  holds_plain heap typed t n None h = tt
  holds_plain heap typed t n (Some NullRef) h = true_false (is_ref_base t) (h NullRef refl) n
  holds_plain heap typed t n (Some (Text x)) h = true_false (is_ref_base t) (sym (fits_refs W.program T (Ref (record { 0 = 1 })) t (h (Text x) refl))) n
  holds_plain heap typed t n (Some (Plain p)) h = tt
  holds_plain heap typed t n (Some (At o)) h = no_thing W T heap t (slice_get heap o) n (typed o) (h (At o) refl)

  no_ref_elems : (b : BaseType) → ref_elems b ≡ false → is_ref_base (elem_base b) ≡ false
  no_ref_elems (Array IntElem nullable) h = refl
  no_ref_elems (Array BoolElem nullable) h = refl
  no_ref_elems (Array (RefElem c) nullable) h = cc
  no_ref_elems b h = refl

  -- fields, and arguments for slots
  flat_base : (x : Option Field) → flat_of x ≡ is_flat (field_base_of x)
  flat_base None = refl
  flat_base (Some f) = refl

  flat_thing : (heap : List Thing) (x : Option Thing) (t : BaseType) → ThingTyped W heap x → ThingFits W x t → is_flat t ≡ true → class_in x ≡ None
  flat_thing heap None t h f n = refl
  flat_thing heap (Some (Object c fs)) t h f n = true_false (eqb c 1) (fits_flat W.program T c t f n) h.0.no_string
  flat_thing heap (Some (Elems b xs)) t h f n = refl

  field_typed : (heap : List Thing) (x : Option Thing) (f : ℕ) (v : Value) → ThingTyped W heap x → field_in W.program x f ≡ Some v → HasType W heap (field_base W.program f) v
  field_typed heap None f v h is = cc
  field_typed heap (Some (Object c fs)) f v h is = h.1 f v is
  field_typed heap (Some (Elems b xs)) f v h is = cc

  args_ref : (heap : List Thing) (b : ℕ) (regs : Regs) (slots : List (Option SlotNo)) (ts : List BaseType) (args : List Operand) → RegsTyped W heap b regs → SlotsRef W slots ts → ArgsTyped W.program b ts args → ArgsRef regs slots args
  args_ref heap b regs [] ts args r s a = tt
  args_ref heap b regs (x ∷ xs) ts [] r s a = tt
  args_ref heap b regs (x ∷ xs) [] (y ∷ args) r s a = absurd a
  args_ref heap b regs (None ∷ xs) (t ∷ ts) (y ∷ args) r s a = args_ref heap b regs xs ts args r s a.1
  args_ref heap b regs (Some k ∷ xs) (t ∷ ts) (y ∷ args) r s a =
      (λ p is. true_false (is_ref_base t) s.0 (fits_type heap (reg_base W.program b y.reg.0) t (Plain p) a.0 (r y.reg.0 (Plain p) is)), args_ref heap b regs xs ts args r s.1 a.1)

  module _ (st : State) (ty : StateTyped W st) where
    abbrev b : ℕ
    b = st.top.body

    -- what soundness asks of a point
    at_reg : (r o : ℕ) → value_at st.top.regs r ≡ Some (At o) → ThingFits W (slice_get st.heap o) (reg_base W.program b r)
    at_reg r o is = ty.top r (At o) is

    call_selects : (m : ℕ) (r o k : ℕ) → IsVirtual W.program m → (x : Option Thing) → slice_get st.heap o ≡ x → fits W.program (reg_base W.program b r) (Ref (record { 0 = class_of (method_at W.program m) })) ≡ true → ThingFits W x (reg_base W.program b r) → dispatched W.program (class_in x) m ≡ Some k → Selects W k m × (ThingFits W x (Ref (record { 0 = class_of (method_at W.program k) })))
    call_selects m r o k v None is f h d = absurd h
    call_selects m r o k v (Some (Object c fs)) is f h d = P.selects c m k (subst (λ z. ThingTyped W st.heap z) is (ty.heap o)).0 v d (fits_trans W.program T (Ref (record { 0 = c })) (reg_base W.program b r) (Ref (record { 0 = class_of (method_at W.program m) })) h f)
    call_selects m r o k v (Some (Elems x xs)) is f h d = cc

    pub selects_on : (pt : Point) (dst : Option RegNo) (m : MethodNo) (r : Operand) (direct : Bool) (args : List Operand) → point_at W.program b st.top.at ≡ Some pt → pt.kind ≡ Call dst m (Some r) direct args → PointTyped W.program b (Call dst m (Some r) direct args) → (o k : ℕ) → value_at st.top.regs r.reg.0 ≡ Some (At o) → selected W.program st.heap o m.0 direct ≡ Some k → Selects W k m.0 × ThingFits W (slice_get st.heap o) (Ref (record { 0 = class_of (method_at W.program k) }))
    selects_on pt dst m r true args is e p o k io ik =
        let same : m.0 ≡ k = cc in
        subst (λ k. Selects W k m.0 × ThingFits W (slice_get st.heap o) (Ref (record { 0 = class_of (method_at W.program k) }))) same
        (P.direct b st.top.at pt dst m r args is e, fits_thing (slice_get st.heap o) (reg_base W.program b r.reg.0) (Ref (record { 0 = class_of (method_at W.program m.0) })) p.0 (at_reg r.reg.0 o io))
    selects_on pt dst m r false args is e p o k io ik = call_selects m.0 r.reg.0 o k (P.virtual b st.top.at pt dst m r args is e) (slice_get st.heap o) refl p.0 (at_reg r.reg.0 o io) ik

    all_hold_plain : (t : BaseType) → is_ref_base t ≡ false → (args : List Operand) → AllTyped W.program b t args → AllPlain st.top.regs args
    all_hold_plain t n [] h = tt
    all_hold_plain t n (a ∷ args) h = (holds_plain st.heap ty.heap t n (value_at st.top.regs a.reg.0) (λ v x. fits_type st.heap (reg_base W.program b a.reg.0) t v h.0 (ty.top a.reg.0 v x)), all_hold_plain t n args h.1)

    pub typed_kind : (pt : Point) → point_at W.program b st.top.at ≡ Some pt → (k : PointKind) → pt.kind ≡ k → PointTyped W.program b k → Typed W st k
    typed_kind pt is (FieldRead dst r f) e p = λ o q io ifq fl.
        flat_thing st.heap (slice_get st.heap q) (field_base W.program f.0) (ty.heap q) (field_typed st.heap (slice_get st.heap o) f.0 (At q) (ty.heap o) ifq) (sym (flat_base (slice_get W.program.fields f.0)) ∙ fl)
    typed_kind pt is (ElemRead dst r i) e p = λ o c xs io ix. fits_elems W.program T c (reg_base W.program b r.reg.0) (subst (λ x. ThingFits W x (reg_base W.program b r.reg.0)) ix (at_reg r.reg.0 o io)) (subst (λ x. ThingTyped W st.heap x) ix (ty.heap o)).0 p.0
    typed_kind pt is (ElemWrite r i s) e p = (λ o c xs io ix. fits_elems W.program T c (reg_base W.program b r.reg.0) (subst (λ x. ThingFits W x (reg_base W.program b r.reg.0)) ix (at_reg r.reg.0 o io)) (subst (λ x. ThingTyped W st.heap x) ix (ty.heap o)).0 p.0, λ ir. holds_plain st.heap ty.heap (elem_base (reg_base W.program b r.reg.0)) (no_ref_elems (reg_base W.program b r.reg.0) ir) (value_at st.top.regs s.reg.0) (λ v x. fits_type st.heap (reg_base W.program b s.reg.0) (elem_base (reg_base W.program b r.reg.0)) v p.1 (ty.top s.reg.0 v x)))
    typed_kind pt is (FieldWrite r f s) e p = λ ir. holds_plain st.heap ty.heap (field_base W.program f.0) (P.fields f.0 ir) (value_at st.top.regs s.reg.0) (λ v x. fits_type st.heap (reg_base W.program b s.reg.0) (field_base W.program f.0) v p (ty.top s.reg.0 v x))
    typed_kind pt is (ArrayOf dst base xs) e p = λ ir. all_hold_plain (elem_base base) (no_ref_elems base ir) xs p.2
    typed_kind pt is (New dst m args) e p = args_ref st.heap b st.top.regs (slots_of (method_at W.program m.0)) (params_of (method_at W.program m.0)) args ty.top (P.refs m.0) p.1
    typed_kind pt is (Call dst m None direct args) e p = tt
    typed_kind pt is (Call dst m (Some r) direct args) e p = λ o k io ik. (selects_on pt dst m r direct args is e p o k io ik).0.over
    typed_kind pt is k e p = tt

    -- points that enter and leave no frame

    -- a register that is set
    regs_set : (dst : ℕ) (v : Value) → HasType W st.heap (reg_base W.program b dst) v → RegsTyped W st.heap b (slice_set st.top.regs dst (Some v))
    regs_set dst v h r w is = by (eqb_cases r dst)
      where
        by : (r ≡ dst) ⊎ (r ≡ dst → ⊥) → HasType W st.heap (reg_base W.program b r) w
        by (inl same) =
            let now : v ≡ w = value_same st.top.regs dst v w (subst (λ x. value_at (slice_set st.top.regs dst (Some v)) x ≡ Some w) same is) in
            subst (λ x. HasType W st.heap (reg_base W.program b x) w) (sym same) (subst (λ w. HasType W st.heap (reg_base W.program b dst) w) now h)
        by (inr n) = ty.top r w (sym (value_other st.top.regs dst r (Some v) n) ∙ is)

    abbrev NextTyped : Next → Type 0
    NextTyped (Goes x) = StateTyped W x
    NextTyped (Ends e x) = Unit {0}
    NextTyped Stuck = Unit {0}

    pub set_typed : (dst : ℕ) (v : Value) → HasType W st.heap (reg_base W.program b dst) v → NextTyped (sets st dst v)
    set_typed dst v h = record { heap = ty.heap; top = regs_set dst v h; waiting = ty.waiting }

    pub got_typed : (dst : ℕ) (x : Got Value) → GotOk (HasType W st.heap (reg_base W.program b dst)) x → NextTyped (got_sets st dst x)
    got_typed dst (Gives v) h = set_typed dst v h
    got_typed dst (Fails e) h = tt
    got_typed dst Lacks h = tt

    pub move_typed : (to : ℕ) → NextTyped (moves st to)
    move_typed to = record { heap = ty.heap; top = ty.top; waiting = ty.waiting }

    -- values that are read
    pub value_typed : (r : ℕ) (u : BaseType) → fits W.program (reg_base W.program b r) u ≡ true → (v : Option Value) → value_at st.top.regs r ≡ v → GotOk (HasType W st.heap u) (got_of v)
    value_typed r u f None is = tt
    value_typed r u f (Some v) is = fits_type st.heap (reg_base W.program b r) u v f (ty.top r v is)

    got_field : (o f : ℕ) (u : BaseType) → fits W.program (field_base W.program f) u ≡ true → (v : Option Value) → field_at W.program st.heap o f ≡ v → GotOk (HasType W st.heap u) (got_of v)
    got_field o f u h None is = tt
    got_field o f u h (Some v) is = fits_type st.heap (field_base W.program f) u v h (field_typed st.heap (slice_get st.heap o) f v (ty.heap o) is)

    pub read_typed : (o : Option ℕ) (f : ℕ) (u : BaseType) → fits W.program (field_base W.program f) u ≡ true → GotOk (HasType W st.heap u) (read_field W.program st.heap o f)
    read_typed None f u h = tt
    read_typed (Some o) f u h = got_field o f u h (field_at W.program st.heap o f) refl

    -- texts, numbers and booleans
    text_typed : (u : BaseType) (t : List ℕ) (x : Bool) → fits W.program (Ref (record { 0 = 1 })) u ≡ true → GotOk (HasType W st.heap u) (text_or_long t x)
    text_typed u t true f = tt
    text_typed u t false f = f

    pub concat_typed : (longest : ℕ) (u : BaseType) (v w : Option (List ℕ)) → fits W.program (Ref (record { 0 = 1 })) u ≡ true → GotOk (HasType W st.heap u) (concat_of longest v w)
    concat_typed longest u None w f = tt
    concat_typed longest u (Some v) None f = tt
    concat_typed longest u (Some v) (Some w) f = text_typed u (v ++ w) (ltb longest (units (v ++ w))) f

    pub prim_typed : (u : BaseType) (g : Got Prim) → is_ref_base u ≡ false → GotOk (HasType W st.heap u) (got_plain g)
    prim_typed u (Gives p) h = h
    prim_typed u (Fails e) h = tt
    prim_typed u Lacks h = tt

    pub binary_typed : (u : BaseType) (op : Operator) (p q : Option Prim) → is_ref_base u ≡ false → GotOk (HasType W st.heap u) (binary_of op p q)
    binary_typed u op None q h = tt
    binary_typed u op (Some p) None h = tt
    binary_typed u op (Some p) (Some q) h = prim_typed u (binary op p q) h

    pub unary_typed : (u : BaseType) (neg : Bool) (p : Option Prim) → is_ref_base u ≡ false → GotOk (HasType W st.heap u) (unary_of neg p)
    unary_typed u neg None h = tt
    unary_typed u neg (Some p) h = prim_typed u (unary neg p) h

    pub same_typed : (u : BaseType) (eq : Bool) (v w : Option Value) → is_ref_base u ≡ false → GotOk (HasType W st.heap u) (same_of eq v w)
    same_typed u eq None w h = tt
    same_typed u eq (Some v) None h = tt
    same_typed u eq (Some v) (Some w) h = h

    len_in : (u : BaseType) (x : Option Thing) → is_ref_base u ≡ false → GotOk (HasType W st.heap u) (length_in x)
    len_in u None h = tt
    len_in u (Some (Object c fs)) h = tt
    len_in u (Some (Elems c xs)) h = h

    pub len_typed : (u : BaseType) (o : Option ℕ) → is_ref_base u ≡ false → GotOk (HasType W st.heap u) (array_len st.heap o)
    len_typed u None h = tt
    len_typed u (Some o) h = len_in u (slice_get st.heap o) h

    pub str_typed : (u : BaseType) (op : StrOperation) (v w : Option Value) → is_ref_base u ≡ false → GotOk (HasType W st.heap u) (str_op op v w)
    str_typed u op None w h = tt
    str_typed u op (Some NullRef) w h = tt
    str_typed u op (Some (Text t)) w h = prim_typed u (text_op op t w) h
    str_typed u op (Some (Plain p)) w h = tt
    str_typed u op (Some (At o)) w h = tt

    -- casts and constants
    cast_by : (u : BaseType) (c : ClassNo) (v : Value) (x : Bool) → is_within W.program st.heap v c.0 ≡ x → fits W.program (Ref c) u ≡ true → GotOk (HasType W st.heap u) (cast_as v x)
    cast_by u c v true is f = fits_type st.heap (Ref c) u v f (within_has st.heap ty.heap v c is)
    cast_by u c v false is f = tt

    pub cast_typed : (u : BaseType) (c : ClassNo) (v : Option Value) → fits W.program (Ref c) u ≡ true → GotOk (HasType W st.heap u) (cast_of W.program st.heap v c.0)
    cast_typed u c None f = tt
    cast_typed u c (Some NullRef) f = sym (fits_refs W.program T (Ref c) u f)
    cast_typed u c (Some (Text t)) f = cast_by u c (Text t) (is_within W.program st.heap (Text t) c.0) refl f
    cast_typed u c (Some (Plain p)) f = tt
    cast_typed u c (Some (At o)) f = cast_by u c (At o) (is_within W.program st.heap (At o) c.0) refl f

    pub const_typed : (names : List (List ℕ)) (dst : ℕ) (l : Literal) → ConstTyped W.program b dst l → HasType W st.heap (reg_base W.program b dst) (literal_value names l)
    const_typed names dst (IntOf i) h = h
    const_typed names dst (TruthOf t) h = h
    const_typed names dst (Str n) h = h
    const_typed names dst Null h = h

    -- elements of arrays
    item_typed : (c u : BaseType) (xs : List Value) (v : Option Value) → ((w : Value) → v ≡ Some w → HasType W st.heap c w) → fits W.program c u ≡ true → GotOk (HasType W st.heap u) (item_or_index v)
    item_typed c u xs None k f = tt
    item_typed c u xs (Some v) k f = fits_type st.heap c u v f (k v refl)

    elem_typed : (t u : BaseType) (x : Option Thing) (i : Option ℕ) → ThingTyped W st.heap x → ThingFits W x t → is_array t ≡ true → fits W.program (elem_base t) u ≡ true → GotOk (HasType W st.heap u) (elem_in x i)
    elem_typed t u None i h f a g = tt
    elem_typed t u (Some (Object c fs)) i h f a g = tt
    elem_typed t u (Some (Elems c xs)) None h f a g = tt
    elem_typed t u (Some (Elems c xs)) (Some i) h f a g = item_typed (elem_base c) u xs (slice_get xs i) (λ w x. h.1 i w x) (fits_trans W.program T (elem_base c) (elem_base t) u (fits_items W.program T c t f h.0 a) g)

    pub read_elem_typed : (r : ℕ) (u : BaseType) (o : Option ℕ) (i : Option ℤ) → object_of (value_at st.top.regs r) ≡ o → is_array (reg_base W.program b r) ≡ true → fits W.program (elem_base (reg_base W.program b r)) u ≡ true → GotOk (HasType W st.heap u) (read_elem st.heap o i)
    read_elem_typed r u None i is a f = tt
    read_elem_typed r u (Some o) None is a f = tt
    read_elem_typed r u (Some o) (Some i) is a f = elem_typed (reg_base W.program b r) u (slice_get st.heap o) (index i) (ty.heap o) (at_reg r o (object_is (value_at st.top.regs r) o is)) a f

    -- jumps, output and static fields
    goes_by_typed : (t : Bool) (x y : ℕ) → NextTyped (goes_by st t x y)
    goes_by_typed true x y = move_typed x
    goes_by_typed false x y = move_typed y

    pub test_null_typed : (x y : ℕ) (v : Option Value) → NextTyped (test_null st x y v)
    test_null_typed x y None = tt
    test_null_typed x y (Some NullRef) = move_typed x
    test_null_typed x y (Some (Text t)) = move_typed y
    test_null_typed x y (Some (Plain p)) = tt
    test_null_typed x y (Some (At o)) = move_typed y

    pub test_inst_typed : (c x y : ℕ) (v : Option Value) → NextTyped (test_inst W.program st c x y v)
    test_inst_typed c x y None = tt
    test_inst_typed c x y (Some NullRef) = move_typed y
    test_inst_typed c x y (Some (Text t)) = goes_by_typed (is_within W.program st.heap (Text t) c) x y
    test_inst_typed c x y (Some (Plain p)) = tt
    test_inst_typed c x y (Some (At o)) = goes_by_typed (is_within W.program st.heap (At o) c) x y

    pub branch_typed : (x y : ℕ) (p : Option Bool) → NextTyped (branch st x y p)
    branch_typed x y None = tt
    branch_typed x y (Some p) = goes_by_typed p x y

    pub print_typed : (v : Option (List ℕ)) → NextTyped (print st v)
    print_typed None = tt
    print_typed (Some v) = record { heap = ty.heap; top = ty.top; waiting = ty.waiting }

    pub static_typed : (f : ℕ) (p : Option Prim) → NextTyped (write_static st f p)
    static_typed f None = tt
    static_typed f (Some p) = record { heap = ty.heap; top = ty.top; waiting = ty.waiting }
