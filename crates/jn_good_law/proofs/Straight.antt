-- A frame that goes on at its own points keeps what the calls below it say.
use Rattle.std.proofs.Common.{◌≡◌, ℕ, Bool, true, false, ◌⊎◌, inl, inr, List, [], ◌∷◌, ◌++◌, length, replicate, Option, Some, None, refl, sym, ap, ◌∙◌, subst, cond, ◌+◌, ltb}
use Rattle.std.specs.Prelude.{slice_get, slice_set, ℤ}
use Rattle.jn_points.specs.declared.point.BaseType.{BaseType}
use Rattle.jn_points.specs.declared.point.Point.{Point}
use Rattle.jn_points.specs.declared.point.PointKind.{PointKind}
use Rattle.jn_points.specs.declared.point.PointKind.TheVariants.{Const, Move, Unary, Binary, Concat, SameRef, FieldRead, FieldWrite, StaticRead, StaticWrite, ElemRead, ElemWrite, ArrayLen, NewArray, ArrayOf, New, CtorCall, Call, StrOp, Print, Cast, TestInst, TestNull, Branch, Goto, Return}
use Rattle.jn_heap.specs.Values.{At, Elems, Fails, Gives, Got, Lacks, NullRef, Object, Plain, Prim, Text, Thing, Value, default_of, index}
use Rattle.jn_heap.specs.State.{Ends, Frame, Goes, Next, State, Stuck, gather, got_sets, moves, object_of, prim_of, sets, value_at, int_of, truth_of, text_in, moves_to}
use Rattle.jn_heap.specs.Steps.{allocates, array_of, branch, count_of, goes_by, is_within, literal_value, may_hold, new_array, print, put_thing, store_in, stored, test_inst, test_null, write_elem, write_field, write_in, write_static}
use Rattle.jn_heap.specs.Calls.{class_in, dispatched, selected, class_at}
use Rattle.jn_heap.specs.Runs.{act}
use Rattle.jn_points.specs.Lookup.{class_of, method_at, method_in, point_at, elem_base, static_of}
use Rattle.jn_points.specs.Members.{has_field}
use Rattle.jn_soundness.proofs.Basics.{eqb_cases, value_zero}
use Rattle.jn_soundness.proofs.Writes.{set_there, set_other}
use Rattle.jn_soundness.proofs.Grows.{append_other, past_end}
use Rattle.jn_points.specs.Edges.{edges_of}
use Rattle.jn_points.specs.Shaped.{LeadsTo, writes}
use Rattle.jn_points.specs.declared.program.Program.{Program}
use Rattle.jn_good_law.specs.Calls.{Runs, HasThis, Entered, EnteredAt, Calls}
use Rattle.jn_soundness.proofs.Plains.{IsPlainKind}

-- a thing takes another's place
pub set_class : (heap : List Thing) (o : ℕ) (x y : Thing) → slice_get heap o ≡ Some x → class_in (Some y) ≡ class_in (Some x) → (p c : ℕ) → class_at heap p ≡ Some c → class_at (slice_set heap o y) p ≡ Some c
set_class heap o x y is same p c h = by (eqb_cases o p)
  where
    by : (o ≡ p) ⊎ (o ≡ p → ⊥) → class_at (slice_set heap o y) p ≡ Some c
    by (inl e) =
        let now : slice_get (slice_set heap o y) p ≡ Some y = subst (λ z. slice_get (slice_set heap o y) z ≡ Some y) e (set_there heap o x y is) in
        let old : slice_get heap p ≡ Some x = subst (λ z. slice_get heap z ≡ Some x) e is in
        ap class_in now ∙ (same ∙ (sym (ap class_in old) ∙ h))
    by (inr n) = ap class_in (set_other heap o p y n) ∙ h

-- one more thing
pub push_class : (heap : List Thing) (x : Thing) (p c : ℕ) → class_at heap p ≡ Some c → class_at (heap ++ x ∷ []) p ≡ Some c
push_class heap x p c h = ap class_in (append_other heap x p born) ∙ h
  where
    born : p ≡ length heap → ⊥
    born e = let bad : None ≡ Some c = sym (ap class_in (ap (λ z. slice_get heap z) e ∙ past_end heap)) ∙ h in cc

module _ (P : Program) where
  -- a frame goes on in its body, with the `this` of a method that isn't static, and each object has its class
  pub record GoesOn (heap after : List Thing) (f g : Frame) : Type 0 where
    pub body : g.body ≡ f.body
    pub this : static_of (method_in P f.body) ≡ false → value_at g.regs 0 ≡ value_at f.regs 0
    pub classes : (o c : ℕ) → class_at heap o ≡ Some c → class_at after o ≡ Some c

  pub on_itself : (heap after : List Thing) (f : Frame) → ((o c : ℕ) → class_at heap o ≡ Some c → class_at after o ≡ Some c) → GoesOn heap after f f
  on_itself heap after f h = record { body = refl; this = λ s. refl; classes = h }

  pub moved_on : (heap : List Thing) (f : Frame) (to : ℕ) → GoesOn heap heap f (moves_to f to)
  moved_on heap f to = record { body = refl; this = λ s. refl; classes = λ o c h. h }

  module _ (heap after : List Thing) (f g : Frame) (on : GoesOn heap after f g) where
    runs_on : (m : ℕ) → Runs P m f → Runs P m g
    runs_on m r = r ∙ ap Some (sym on.body)

    this_on : (v : Value) → HasThis P f v → HasThis P g v
    this_on v t = record { instance = subst (λ b. static_of (method_in P b) ≡ false) (sym on.body) t.instance; held = on.this t.instance ∙ t.held }

    dispatched_on : (o m k : ℕ) (x : Option ℕ) → class_at heap o ≡ x → dispatched P x m ≡ Some k → dispatched P (class_at after o) m ≡ Some k
    dispatched_on o m k None e d = cc
    dispatched_on o m k (Some c) e d = subst (λ y. dispatched P y m ≡ Some k) (sym (on.classes o c e)) d

    selects_still : (o m k : ℕ) (direct : Bool) → selected P heap o m direct ≡ Some k → selected P after o m direct ≡ Some k
    selects_still o m k true s = s
    selects_still o m k false s = dispatched_on o m k (class_at heap o) refl s

    entered_on : (w : Frame) (k : PointKind) → Entered P heap f w k → Entered P after g w k
    entered_on w (New dst m args) e = record { runs = runs_on m.0 e.runs; object = e.object; this = this_on (At e.object) e.this; class = on.classes e.object (class_of (method_at P m.0)) e.class }
    entered_on w (CtorCall m args own) e = record { runs = runs_on m.0 e.runs; value = e.value; this = this_on e.value e.this; caller = e.caller }
    entered_on w (Call dst m None direct args) e = runs_on m.0 e
    entered_on w (Call dst m (Some r) direct args) e = record { object = e.object; receiver = e.receiver; this = this_on (At e.object) e.this; method = e.method; selects = selects_still e.object m.0 e.method direct e.selects; runs = runs_on e.method e.runs }
    entered_on w k e = absurd e

    entered_at_on : (w : Frame) (o : Option Point) → EnteredAt P heap f w o → EnteredAt P after g w o
    entered_at_on w None e = e
    entered_at_on w (Some pt) e = entered_on w pt.kind e

  pub calls_on : (heap after : List Thing) (f g : Frame) → GoesOn heap after f g → (ws : List Frame) → Calls P heap f ws → Calls P after g ws
  calls_on heap after f g on [] c = tt
  calls_on heap after f g on (w ∷ ws) c = (entered_at_on heap after f g on w (point_at P w.body w.at) c.0, calls_on heap after w w (on_itself heap after w on.classes) ws c.1)

  -- the running frame goes on along an edge of its point, over the same waiting ones
  pub record Stays (st : State) (k : PointKind) (next : State) : Type 0 where
    pub on : GoesOn st.heap next.heap st.top next.top
    pub leads : LeadsTo (edges_of k st.top.at) next.top.at
    pub waiting : next.waiting ≡ st.waiting

  abbrev pub StaysNext : State → PointKind → Next → Type 0
  StaysNext st k (Goes next) = Stays st k next
  StaysNext st k (Ends e end) = Unit {0}
  StaysNext st k Stuck = Unit {0}

  module _ (st : State) (k : PointKind) where
    -- the next point
    abbrev GoesNext : Type 0
    GoesNext = LeadsTo (edges_of k st.top.at) (st.top.at + 1)

    moves_stays : (to : ℕ) → LeadsTo (edges_of k st.top.at) to → StaysNext st k (moves st to)
    moves_stays to l = record { on = moved_on st.heap st.top to; leads = l; waiting = refl }

    sets_stays : GoesNext → (dst : ℕ) (v : Value) → (static_of (method_in P st.top.body) ≡ false → Some dst ≡ Some 0 → ⊥) → StaysNext st k (sets st dst v)
    sets_stays l dst v kept = record { on = record { body = refl; this = λ s. value_zero st.top.regs dst (Some v) (λ e. kept s (ap (λ z. Some z) e)); classes = λ o c h. h }; leads = l; waiting = refl }

    got_stays : GoesNext → (dst : ℕ) (g : Got Value) → (static_of (method_in P st.top.body) ≡ false → Some dst ≡ Some 0 → ⊥) → StaysNext st k (got_sets st dst g)
    got_stays l dst (Gives v) kept = sets_stays l dst v kept
    got_stays l dst (Fails e) kept = tt
    got_stays l dst Lacks kept = tt

    put_stays : GoesNext → (o : ℕ) (x y : Thing) → slice_get st.heap o ≡ Some x → class_in (Some y) ≡ class_in (Some x) → StaysNext st k (put_thing st o (Gives y))
    put_stays l o x y is same = record { on = record { body = refl; this = λ s. refl; classes = set_class st.heap o x y is same }; leads = l; waiting = refl }

    bit_stays : GoesNext → (o c : ℕ) (fs : List Value) (f : ℕ) (v : Value) → slice_get st.heap o ≡ Some (Object c fs) → (t : Bool) → StaysNext st k (put_thing st o (cond t (Gives (Object c (slice_set fs f v))) Lacks))
    bit_stays l o c fs f v is true = put_stays l o (Object c fs) (Object c (slice_set fs f v)) is refl
    bit_stays l o c fs f v is false = tt

    field_stays : GoesNext → (o f : ℕ) (v : Value) (x : Option Thing) → slice_get st.heap o ≡ x → StaysNext st k (put_thing st o (write_in P x f v))
    field_stays l o f v None is = tt
    field_stays l o f v (Some (Object c fs)) is = bit_stays l o c fs f v is (has_field P c f)
    field_stays l o f v (Some (Elems b xs)) is = tt

    write_stays : GoesNext → (o : Option ℕ) (f : ℕ) (v : Option Value) → StaysNext st k (write_field P st o f v)
    write_stays l None f v = tt
    write_stays l (Some o) f None = tt
    write_stays l (Some o) f (Some v) = field_stays l o f v (slice_get st.heap o) refl

    stored_stays : GoesNext → (o : ℕ) (b : BaseType) (xs : List Value) (i : ℕ) (v : Value) → slice_get st.heap o ≡ Some (Elems b xs) → (x y : Bool) → StaysNext st k (put_thing st o (stored b xs i v x y))
    stored_stays l o b xs i v is false y = tt
    stored_stays l o b xs i v is true false = tt
    stored_stays l o b xs i v is true true = put_stays l o (Elems b xs) (Elems b (slice_set xs i v)) is refl

    store_stays : GoesNext → (o : ℕ) (i : Option ℕ) (v : Value) (x : Option Thing) → slice_get st.heap o ≡ x → StaysNext st k (put_thing st o (store_in P st.heap x i v))
    store_stays l o i v None is = tt
    store_stays l o i v (Some (Object c fs)) is = tt
    store_stays l o None v (Some (Elems b xs)) is = tt
    store_stays l o (Some i) v (Some (Elems b xs)) is = stored_stays l o b xs i v is (ltb i (length xs)) (may_hold P st.heap (elem_base b) v)

    elem_stays : GoesNext → (o : Option ℕ) (i : Option ℤ) (v : Option Value) → StaysNext st k (write_elem P st o i v)
    elem_stays l None i v = tt
    elem_stays l (Some o) None v = tt
    elem_stays l (Some o) (Some i) None = tt
    elem_stays l (Some o) (Some i) (Some v) = store_stays l o (index i) v (slice_get st.heap o) refl

    allocates_stays : GoesNext → (dst : ℕ) (x : Thing) → (static_of (method_in P st.top.body) ≡ false → Some dst ≡ Some 0 → ⊥) → StaysNext st k (allocates st dst x)
    allocates_stays l dst x kept = record { on = record { body = refl; this = λ s. value_zero st.top.regs dst (Some (At (length st.heap))) (λ e. kept s (ap (λ z. Some z) e)); classes = push_class st.heap x }; leads = l; waiting = refl }

    new_array_stays : GoesNext → (dst : ℕ) (b : BaseType) (n : Got ℕ) → (static_of (method_in P st.top.body) ≡ false → Some dst ≡ Some 0 → ⊥) → StaysNext st k (new_array st dst b n)
    new_array_stays l dst b (Gives n) kept = allocates_stays l dst (Elems b (replicate n (default_of (elem_base b)))) kept
    new_array_stays l dst b (Fails e) kept = tt
    new_array_stays l dst b Lacks kept = tt

    array_of_stays : GoesNext → (dst : ℕ) (b : BaseType) (vs : Option (List Value)) → (static_of (method_in P st.top.body) ≡ false → Some dst ≡ Some 0 → ⊥) → StaysNext st k (array_of st dst b vs)
    array_of_stays l dst b None kept = tt
    array_of_stays l dst b (Some vs) kept = allocates_stays l dst (Elems b vs) kept

    static_stays : GoesNext → (f : ℕ) (p : Option Prim) → StaysNext st k (write_static st f p)
    static_stays l f None = tt
    static_stays l f (Some p) = record { on = moved_on st.heap st.top (st.top.at + 1); leads = l; waiting = refl }

    print_stays : GoesNext → (t : Option (List ℕ)) → StaysNext st k (print st t)
    print_stays l None = tt
    print_stays l (Some t) = record { on = moved_on st.heap st.top (st.top.at + 1); leads = l; waiting = refl }

    module _ (x y : ℕ) (lx : LeadsTo (edges_of k st.top.at) x) (ly : LeadsTo (edges_of k st.top.at) y) where
      goes_by_stays : (t : Bool) → StaysNext st k (goes_by st t x y)
      goes_by_stays true = moves_stays x lx
      goes_by_stays false = moves_stays y ly

      test_inst_stays : (c : ℕ) (v : Option Value) → StaysNext st k (test_inst P st c x y v)
      test_inst_stays c None = tt
      test_inst_stays c (Some NullRef) = moves_stays y ly
      test_inst_stays c (Some (Text t)) = goes_by_stays (is_within P st.heap (Text t) c)
      test_inst_stays c (Some (Plain p)) = tt
      test_inst_stays c (Some (At o)) = goes_by_stays (is_within P st.heap (At o) c)

      test_null_stays : (v : Option Value) → StaysNext st k (test_null st x y v)
      test_null_stays None = tt
      test_null_stays (Some NullRef) = moves_stays x lx
      test_null_stays (Some (Text t)) = moves_stays y ly
      test_null_stays (Some (Plain p)) = tt
      test_null_stays (Some (At o)) = moves_stays y ly

      branch_stays : (t : Option Bool) → StaysNext st k (branch st x y t)
      branch_stays None = tt
      branch_stays (Some t) = goes_by_stays t

  module _ (st : State) where
    -- the points that enter no frame and leave none
    pub kind_stays : (names : List (List ℕ)) (k : PointKind) → IsPlainKind k → (static_of (method_in P st.top.body) ≡ false → writes k ≡ Some 0 → ⊥) → StaysNext st k (act P names st k)
    kind_stays names (Const dst l) p kept = sets_stays st (Const dst l) (inl refl) dst.0 (literal_value names l) kept
    kind_stays names (Move dst from bound) p kept = got_stays st (Move dst from bound) (inl refl) dst.0 _ kept
    kind_stays names (Unary dst neg of) p kept = got_stays st (Unary dst neg of) (inl refl) dst.0 _ kept
    kind_stays names (Binary dst op l r) p kept = got_stays st (Binary dst op l r) (inl refl) dst.0 _ kept
    kind_stays names (Concat dst l r) p kept = got_stays st (Concat dst l r) (inl refl) dst.0 _ kept
    kind_stays names (SameRef dst eq l r) p kept = got_stays st (SameRef dst eq l r) (inl refl) dst.0 _ kept
    kind_stays names (FieldRead dst r f) p kept = got_stays st (FieldRead dst r f) (inl refl) dst.0 _ kept
    kind_stays names (FieldWrite r f v) p kept = write_stays st (FieldWrite r f v) (inl refl) (object_of (value_at st.top.regs r.reg.0)) f.0 (value_at st.top.regs v.reg.0)
    kind_stays names (StaticRead dst f) p kept = got_stays st (StaticRead dst f) (inl refl) dst.0 _ kept
    kind_stays names (StaticWrite f v) p kept = static_stays st (StaticWrite f v) (inl refl) f.0 (prim_of (value_at st.top.regs v.reg.0))
    kind_stays names (ElemRead dst r i) p kept = got_stays st (ElemRead dst r i) (inl refl) dst.0 _ kept
    kind_stays names (ElemWrite r i v) p kept = elem_stays st (ElemWrite r i v) (inl refl) (object_of (value_at st.top.regs r.reg.0)) (int_of (prim_of (value_at st.top.regs i.reg.0))) (value_at st.top.regs v.reg.0)
    kind_stays names (ArrayLen dst r) p kept = got_stays st (ArrayLen dst r) (inl refl) dst.0 _ kept
    kind_stays names (NewArray dst b n) p kept = new_array_stays st (NewArray dst b n) (inl refl) dst.0 b (count_of st.limits.longest (int_of (prim_of (value_at st.top.regs n.reg.0)))) kept
    kind_stays names (ArrayOf dst b xs) p kept = array_of_stays st (ArrayOf dst b xs) (inl refl) dst.0 b (gather st.top.regs xs) kept
    kind_stays names (New dst m args) p kept = absurd p
    kind_stays names (CtorCall m args own) p kept = absurd p
    kind_stays names (Call dst m r direct args) p kept = absurd p
    kind_stays names (StrOp dst op of other) p kept = got_stays st (StrOp dst op of other) (inl refl) dst.0 _ kept
    kind_stays names (Print of) p kept = print_stays st (Print of) (inl refl) (text_in (value_at st.top.regs of.reg.0))
    kind_stays names (Cast dst of c) p kept = got_stays st (Cast dst of c) (inl refl) dst.0 _ kept
    kind_stays names (TestInst of c og x y) p kept = test_inst_stays st (TestInst of c og x y) x.0 y.0 (inl refl) (inr refl) c.0 (value_at st.top.regs of.reg.0)
    kind_stays names (TestNull of og x y) p kept = test_null_stays st (TestNull of og x y) x.0 y.0 (inl refl) (inr refl) (value_at st.top.regs of.reg.0)
    kind_stays names (Branch of x y) p kept = branch_stays st (Branch of x y) x.0 y.0 (inl refl) (inr refl) (truth_of (prim_of (value_at st.top.regs of.reg.0)))
    kind_stays names (Goto to) p kept = moves_stays st (Goto to) to.0 (inl refl)
    kind_stays names (Return v) p kept = absurd p
