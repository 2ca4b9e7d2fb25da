-- Calls, constructor calls and new enter good frames.
use Rattle.std.proofs.Common.{◌≡◌, ℕ, zero, suc, ◌+◌, ◌<◌, Bool, true, false, not, ◌&&◌, ◌||◌, ◌⊎◌, inl, inr, List, [], ◌∷◌, ◌++◌, length, Option, Some, None, refl, sym, ap, ◌∙◌, subst, arith, cond, ltb}
use Rattle.std.specs.Prelude.{slice_get, IsTrue}
use Rattle.std.proofs.lemmas.Bool.{or_parts}
use Rattle.jn_points.specs.Shaped.{Chains, Early, test_at}
use Rattle.jn_base.specs.declared.number.RegNo.{RegNo}
use Rattle.jn_base.specs.declared.number.MethodNo.{MethodNo}
use Rattle.jn_base.specs.declared.number.SlotNo.{SlotNo}
use Rattle.jn_quals.specs.Qualifier.{Qualifier}
use Rattle.jn_points.specs.declared.point.Operand.{Operand}
use Rattle.jn_points.specs.declared.point.BaseType.{BaseType}
use Rattle.jn_points.specs.declared.point.BaseType.TheVariants.{Ref, Array}
use Rattle.jn_points.specs.declared.point.Point.{Point}
use Rattle.jn_points.specs.declared.point.PointKind.TheVariants.{New, CtorCall, Call}
use Rattle.jn_points.specs.declared.program.Field.{Field}
use Rattle.jn_points.specs.declared.program.Method.{Method}
use Rattle.jn_points.specs.declared.program.Body.{Body}
use Rattle.jn_soundness.specs.Checked.{ArgsPass, Checked, PointOk, ReceiverPasses}
use Rattle.jn_heap.specs.Values.{At, NullRef, Object, Plain, Prim, Text, Thing, Value, default_of, defaults}
use Rattle.jn_env.specs.Environment.{Env}
use Rattle.jn_heap.specs.State.{Regs, State, gather, gather_more, object_of, value_at}
use Rattle.jn_heap.specs.Steps.{field_in}
use Rattle.jn_heap.specs.Calls.{calls, calls_on, calls_this, class_in, ctor_calls, enter, entered, news, pad, selected}
use Rattle.jn_soundness.specs.World.{World, param_quals}
use Rattle.jn_transfer.specs.Transfer.{all_settled, any_empty, any_free, entry_env, given_quals, new_qual, ref_quals, this_qual}
use Rattle.jn_points.specs.Members.{has_field}
use Rattle.jn_points.specs.Lookup.{body_at, body_of, class_of, ctor_of, is_ref_base, method_at, method_in, owner, point_at, ref_field, regs_of, slots_of, static_of}
use Rattle.jn_env.specs.Keys.{fact_keys, no_bits, own_keys}
use Rattle.jn_sigs.specs.Signature.{field_qual, receiver_of, result_of, slot_quals}
use Rattle.jn_quals.specs.Order.{free_only, is_none, no_qual, within}
use Rattle.jn_env.specs.Order.{qual_at}
use Rattle.jn_soundness.proofs.Basics.{true_false, within_free, describes_within, describes_era, described_at, AllDescribed, described_pad, all_within, on_none, within_refl}
use Rattle.jn_soundness.proofs.Tops.{object_is, arrives, no_test}
use Rattle.jn_soundness.proofs.Laters.{Later, describes_later, frame_later, top_waits, all_later, waiting_later}
use Rattle.jn_soundness.proofs.Writes.{or_free, cond_is}
use Rattle.jn_soundness.proofs.Grows.{FitsMark, thing_later, grown_marks, grown_later, grown_heap, mark_same, append_last}
use Rattle.jn_soundness.specs.Asked.{ArgsRef, Overrides, Typed}
use Rattle.jn_soundness.specs.Frames.{AssignedOk, Ctor, CtorOk, Described, FactOk, FieldSet, GoodTop, SupersEnded}
use Rattle.jn_soundness.specs.Heaps.{Building, Describes, FieldOk, FreeField, HeapOk, HoldsRef, IsMember, MarkFits}
use Rattle.jn_soundness.specs.Marks.{Committed, FrameMark, Free, Marking, Marks, ObjMark, Unborn, enters_shared, enters_new, shares_era, mark_by}
use Rattle.jn_soundness.specs.Calls.{EraStep, Waiting, Waits}
use Rattle.jn_soundness.specs.Marked.{Marked, MarkedNext}
use Rattle.jn_soundness.proofs.Eras.{grown_eras}

same_fits : (m : Marks) (k : ObjMark) → FitsMark m m k
same_fits m Unborn = tt
same_fits m Committed = tt
same_fits m (Free a ended) = λ o q h. h

-- the same heap under another list of frames
pub heap_frames : (W : World) (m : Marks) (gs hs : List FrameMark) (heap : List Thing) → ((o a : ℕ) → Building gs o a → Building hs o a) → HeapOk W m gs heap → HeapOk W m hs heap
heap_frames W m gs hs heap bld h o = thing_later W m m (λ o k. k) gs hs o (bld o) (m o) (slice_get heap o) (same_fits m (m o)) (h o)

-- the arguments' values are described in an era
abbrev pub ArgsFit : Marks → ℕ → Env → Regs → List Operand → Type 0
ArgsFit m a e regs [] = Unit {0}
ArgsFit m a e regs (x ∷ args) = Describes m a (qual_at e x.reg.0) (value_at regs x.reg.0) × ArgsFit m a e regs args

module _ (m : Marks) (a : ℕ) (e : Env) (regs : Regs) where
  more : (q p : Qualifier) (qs : List Qualifier) (v : Option Value) (o : Option (List Value)) (vs : List Value) → gather_more v o ≡ Some vs → IsTrue (within p q) → Describes m a p v → ((us : List Value) → o ≡ Some us → AllDescribed m a qs us) → AllDescribed m a (q ∷ qs) vs
  more q p qs None o vs is w d h = cc
  more q p qs (Some v) None vs is w d h = cc
  more q p qs (Some v) (Some us) vs is w d h =
      let same : v ∷ us ≡ vs = cc in
      subst (λ x. AllDescribed m a (q ∷ qs) x) same (describes_within m a p q (Some v) w d, h us refl)

  pub args_described : (qs : List Qualifier) (args : List Operand) (vs : List Value) → ArgsFit m a e regs args → ArgsPass e qs args → gather regs args ≡ Some vs → AllDescribed m a qs vs
  args_described [] [] vs d p is = let same : [] ≡ vs = cc in subst (λ x. AllDescribed m a [] x) same tt
  args_described [] (x ∷ args) vs d p is = absurd p
  args_described (q ∷ qs) [] vs d p is = absurd p
  args_described (q ∷ qs) (x ∷ args) vs d p is = more q (qual_at e x.reg.0) qs (value_at regs x.reg.0) (gather regs args) vs is p.0 d.0 (λ us h. args_described qs args us d.1 p.1 h)

  pub args_fit : (args : List Operand) → Described m a e.quals regs → ArgsFit m a e regs args
  args_fit [] d = tt
  args_fit (x ∷ args) d = (described_at m a e.quals regs x.reg.0 d, args_fit args d)

args_later : (W : World) (m : Marks) (heap : List Thing) (n : Marks) (heap' : List Thing) (a : ℕ) (l : Later W a m heap n heap') (e : Env) (regs : Regs) (args : List Operand) → ArgsFit m a e regs args → ArgsFit n a e regs args
args_later W m heap n heap' a l e regs [] d = tt
args_later W m heap n heap' a l e regs (x ∷ args) d = (describes_later W m heap n heap' a l (qual_at e x.reg.0) (value_at regs x.reg.0) d.0, args_later W m heap n heap' a l e regs args d.1)

-- arguments without a free part are described in every era
args_era : (W : World) (m : Marks) (a b : ℕ) (e : Env) (regs : Regs) (slots : List (Option SlotNo)) (args : List Operand) → ArgsPass e (slot_quals W.sig slots) args → any_free (ref_quals e slots args) ≡ false → ArgsFit m a e regs args → ArgsFit m b e regs args
args_era W m a b e regs [] [] p n d = tt
args_era W m a b e regs [] (x ∷ args) p n d = absurd p
args_era W m a b e regs (s ∷ slots) [] p n d = absurd p
args_era W m a b e regs (None ∷ slots) (x ∷ args) p n d =
    (describes_era m a b (qual_at e x.reg.0) (value_at regs x.reg.0) (or_free (qual_at e x.reg.0).free (λ f. true_false false (within_free (qual_at e x.reg.0) no_qual p.0 f) refl)) d.0, args_era W m a b e regs slots args p.1 n d.1)
args_era W m a b e regs (Some s ∷ slots) (x ∷ args) p n d =
    let both = or_parts (qual_at e x.reg.0).free (any_free (ref_quals e slots args)) n in
    (describes_era m a b (qual_at e x.reg.0) (value_at regs x.reg.0) both.0 d.0, args_era W m a b e regs slots args p.1 both.1 d.1)

-- a reference argument has a qualifier
some_bit : (n c f : Bool) → (n ≡ true) ⊎ (c ≡ true) ⊎ (f ≡ true) → not (n || (c || f)) ≡ false
some_bit true c f h = refl
some_bit false true f h = refl
some_bit false false true h = refl
some_bit false false false (inl h) = cc
some_bit false false false (inr (inl h)) = cc
some_bit false false false (inr (inr h)) = cc

lives : (m : Marks) (a : ℕ) (q : Qualifier) (v : Value) → Describes m a q (Some v) → ((p : Prim) → Some v ≡ Some (Plain p) → ⊥) → is_none q ≡ false
lives m a q NullRef d n = some_bit q.null q.committed q.free (inl d)
lives m a q (Text t) d n = some_bit q.null q.committed q.free (inr (inl d))
lives m a q (Plain p) d n = absurd (n p refl)
lives m a q (At o) d n = by_mark (m o) d
  where
    by_mark : (k : ObjMark) → MarkFits a q k → is_none q ≡ false
    by_mark Unborn h = absurd h
    by_mark Committed h = some_bit q.null q.committed q.free (inr (inl h))
    by_mark (Free e ended) h = some_bit q.null q.committed q.free (inr (inr h.0))

or_both : (a b : Bool) → a ≡ false → b ≡ false → (a || b) ≡ false
or_both true b h k = cc
or_both false b h k = k

none_more : (m : Marks) (a : ℕ) (e : Env) (regs : Regs) (slots : List (Option SlotNo)) (y : Operand) (args : List Operand) (o : Option (List Value)) → (o ≡ None → ⊥) → Describes m a (qual_at e y.reg.0) (value_at regs y.reg.0) → ((us : List Value) → gather regs args ≡ Some us → ArgsRef regs slots args → any_empty (ref_quals e slots args) ≡ false) → (x : Option SlotNo) → ArgsRef regs (x ∷ slots) (y ∷ args) → (v : Option Value) → value_at regs y.reg.0 ≡ v → (us : Option (List Value)) → gather regs args ≡ us → gather_more (value_at regs y.reg.0) (gather regs args) ≡ o → any_empty (ref_quals e (x ∷ slots) (y ∷ args)) ≡ false
none_more m a e regs slots y args o s d rec x t None iv us iu is = absurd (s (sym is ∙ ap (λ w. gather_more w (gather regs args)) iv))
none_more m a e regs slots y args o s d rec x t (Some v) iv None iu is = absurd (s (sym is ∙ (ap (λ w. gather_more w (gather regs args)) iv ∙ ap (λ w. gather_more (Some v) w) iu)))
none_more m a e regs slots y args o s d rec None t (Some v) iv (Some us) iu is = rec us iu t
none_more m a e regs slots y args o s d rec (Some k) t (Some v) iv (Some us) iu is =
    or_both (is_none (qual_at e y.reg.0)) (any_empty (ref_quals e slots args))
    (lives m a (qual_at e y.reg.0) v (subst (λ w. Describes m a (qual_at e y.reg.0) w) iv d) (λ p z. t.0 p (iv ∙ z)))
    (rec us iu t.1)

none_empty : (m : Marks) (a : ℕ) (e : Env) (regs : Regs) (slots : List (Option SlotNo)) (args : List Operand) (o : Option (List Value)) → gather regs args ≡ o → (o ≡ None → ⊥) → ArgsRef regs slots args → ArgsFit m a e regs args → any_empty (ref_quals e slots args) ≡ false
none_empty m a e regs [] args o is s t d = refl
none_empty m a e regs (x ∷ slots) [] o is s t d = refl
none_empty m a e regs (None ∷ slots) (y ∷ args) o is s t d = none_more m a e regs slots y args o s d.0 (λ us iu h. none_empty m a e regs slots args (Some us) iu (λ z. cc) h d.1) None t (value_at regs y.reg.0) refl (gather regs args) refl is
none_empty m a e regs (Some k ∷ slots) (y ∷ args) o is s t d = none_more m a e regs slots y args o s d.0 (λ us iu h. none_empty m a e regs slots args (Some us) iu (λ z. cc) h d.1) (Some k) t (value_at regs y.reg.0) refl (gather regs args) refl is

settled_one : (n c f : Bool) → not (n || (c || f)) ≡ false → f ≡ false → (c || n) ≡ true
settled_one true true f h k = refl
settled_one true false f h k = refl
settled_one false true f h k = refl
settled_one false false true h k = cc
settled_one false false false h k = cc

and_both : (a b : Bool) → a ≡ true → b ≡ true → (a && b) ≡ true
and_both true b h k = k
and_both false b h k = cc

all_settled_of : (qs : List Qualifier) → any_empty qs ≡ false → any_free qs ≡ false → all_settled qs ≡ true
all_settled_of [] h k = refl
all_settled_of (q ∷ qs) h k =
    let x = or_parts (is_none q) (any_empty qs) h in let y = or_parts q.free (any_free qs) k in
    and_both (q.committed || q.null) (all_settled qs) (settled_one q.null q.committed q.free x.0 y.0) (all_settled_of qs x.1 y.1)

new_committed : (qs : List Qualifier) → any_empty qs ≡ false → any_free qs ≡ false → (new_qual qs).committed ≡ true
new_committed qs h k = ap (λ b. (cond b no_qual (record { null = false; committed = all_settled qs; free = any_free qs })).committed) h ∙ all_settled_of qs h k

new_free : (qs : List Qualifier) → any_empty qs ≡ false → any_free qs ≡ true → (new_qual qs).free ≡ true
new_free qs h k = ap (λ b. (cond b no_qual (record { null = false; committed = all_settled qs; free = any_free qs })).free) h ∙ k

module _ (W : World) (checked : Checked W) where
  entry_assigned : (heap : List Thing) (x : Option ℕ) (b : ℕ) → AssignedOk W heap x b (no_bits (own_keys W.program b))
  entry_assigned heap None b = tt
  entry_assigned heap (Some o) b = on_none (FieldSet W heap o) (own_keys W.program b)

  -- a callee's first state
  pub enter_top : (m : Marks) (heap : List Thing) (b : ℕ) (x : Body) → body_at W.program b ≡ Some x → (vs : List Value) (g : FrameMark) → AllDescribed m g.era (given_quals W.sig (method_in W.program b)) vs → CtorOk W m heap (entered W.program b vs) g g.built → GoodTop W m heap (entered W.program b vs) g
  enter_top m heap b x there vs g d c =
      arrives W m heap (entered W.program b vs) g (entry_env W.program W.sig b) (checked.entry b x there)
      (record { quals = described_pad m g.era W (given_quals W.sig (method_in W.program b)) vs (regs_of (body_at W.program b)) d; assigned = entry_assigned heap g.built b; ctor = c })
      (on_none (FactOk W heap (pad vs (regs_of (body_at W.program b)))) (fact_keys W.program b))
      (no_test W m heap (pad vs (regs_of (body_at W.program b))) (test_at W.program b 0) (checked.entry_test b))

  given_static : (m : Option Method) → static_of m ≡ true → given_quals W.sig m ≡ slot_quals W.sig (slots_of m)
  given_static m h = ap (λ b. cond b (slot_quals W.sig (slots_of m)) (this_qual W.sig m ∷ slot_quals W.sig (slots_of m))) h

  given_this : (m : Option Method) → static_of m ≡ false → given_quals W.sig m ≡ this_qual W.sig m ∷ slot_quals W.sig (slots_of m)
  given_this m h = ap (λ b. cond b (slot_quals W.sig (slots_of m)) (this_qual W.sig m ∷ slot_quals W.sig (slots_of m))) h

  pad_zero : (v : Value) (vs : List Value) (n k : ℕ) → n ≡ suc k → value_at (pad (v ∷ vs) n) 0 ≡ Some v
  pad_zero v vs zero k h = cc
  pad_zero v vs (suc n) k h = refl

  first_value : (b : ℕ) (v : Value) (vs : List Value) → ctor_of (method_in W.program b) ≡ true → value_at (pad (v ∷ vs) (regs_of (body_at W.program b))) 0 ≡ Some v
  first_value b v vs c = let r = checked.ctor_regs b c in pad_zero v vs (regs_of (body_at W.program b)) r.0 r.1

  entry_supers : (b : ℕ) → ctor_of (method_in W.program b) ≡ true → Early W.program b 0 ⊎ SupersEnded W (class_of (method_in W.program b)) []
  entry_supers b c = by (checked.entry_early b c)
    where
      by : Early W.program b 0 ⊎ ((f : ℕ) → has_field W.program (class_of (method_in W.program b)) f ≡ true → owner W.program f ≡ class_of (method_in W.program b)) → Early W.program b 0 ⊎ SupersEnded W (class_of (method_in W.program b)) []
      by (inl h) = inl h
      by (inr h) = inr (λ f k. inl (h f k))

  more_ended : {X : Type 0} → (c : ℕ) (ended : List ℕ) → X ⊎ SupersEnded W c [] → X ⊎ SupersEnded W c ended
  more_ended c ended (inl h) = inl h
  more_ended c ended (inr h) = inr (λ f k. by (h f k))
    where
      by : {f : ℕ} → (f ≡ c) ⊎ IsMember f [] → (f ≡ c) ⊎ IsMember f ended
      by (inl e) = inl e
      by (inr e) = absurd e

  module _ (st : State) (mk : Marking) (good : Marked W st mk) (pt : Point) (point : point_at W.program st.top.body st.top.at ≡ Some pt) where
    waits_same : (b : ℕ) (g : FrameMark) → Waits W b g mk.top good.top.env pt.kind → EraStep g mk.top → Waiting W mk.marks st.heap b g (st.top ∷ st.waiting) (mk.top ∷ mk.waiting)
    waits_same b g w e = (record { frame = top_waits W mk.marks st.heap mk.marks st.heap st.top mk.top good.top; pt = pt; point = point; waits = w; era = e }, good.waiting)

    same_step : (g : FrameMark) → g.opened ≡ false → g.era ≡ mk.top.era → EraStep g mk.top
    same_step g o e = record { opened = λ h. true_false g.opened h o; same = λ h. e }

    -- a call of a method that is no constructor
    call_good : (dst : Option RegNo) (m : MethodNo) (r : Option Operand) (direct : Bool) (args : List Operand) → pt.kind ≡ Call dst m r direct args → (k : ℕ) (vs : List Value) → ctor_of (method_at W.program k) ≡ false → IsTrue (within (result_of W.sig (method_at W.program k)) (result_of W.sig (method_at W.program m.0))) → AllDescribed mk.marks mk.top.era (given_quals W.sig (method_at W.program k)) vs → (t : Bool) (x : Option ℕ) → body_of (method_at W.program k) ≡ x → MarkedNext W (enters_shared mk None) (enter W.program t st st.heap x vs)
    call_good dst m r direct args is k vs c w d true x ib = tt
    call_good dst m r direct args is k vs c w d false None ib = tt
    call_good dst m r direct args is k vs c w d false (Some b) ib =
        let g : FrameMark = record { era = mk.top.era; opened = false; made = false; built = None } in
        let same : method_in W.program b ≡ method_at W.program k = checked.bodies k b ib in
        record {
          heap = heap_frames W mk.marks (mk.top ∷ mk.waiting) (g ∷ mk.top ∷ mk.waiting) st.heap (λ o a h. inr h) good.heap;
          top = enter_top mk.marks st.heap b (checked.there k b ib).0 (checked.there k b ib).1 vs g (subst (λ y. AllDescribed mk.marks mk.top.era (given_quals W.sig y) vs) (sym same) d) (ap (λ y. ctor_of y) same ∙ c);
          waiting = waits_same b g (subst (λ y. Waits W b g mk.top good.top.env y) (sym is) (record {
            method = ap (λ y. ctor_of y) same ∙ c;
            made = refl;
            result = subst (λ y. IsTrue (within (result_of W.sig y) (result_of W.sig (method_at W.program m.0)))) (sym same) w;
            shared = refl;
          })) (same_step g refl refl);
          below = good.below;
          eras = λ o a l h. inr (good.eras o a l h);
        }

    args_of : (qs : List Qualifier) (args : List Operand) (vs : List Value) → ArgsPass good.top.env qs args → gather st.top.regs args ≡ Some vs → AllDescribed mk.marks mk.top.era qs vs
    args_of qs args vs p is = args_described mk.marks mk.top.era good.top.env st.top.regs qs args vs (args_fit mk.marks mk.top.era good.top.env st.top.regs args good.top.stands.quals) p is

    static_call : (dst : Option RegNo) (m : MethodNo) (direct : Bool) (args : List Operand) → pt.kind ≡ Call dst m None direct args → ArgsPass good.top.env (param_quals W m.0) args → static_of (method_at W.program m.0) ≡ true → ctor_of (method_at W.program m.0) ≡ false → (vs : Option (List Value)) → gather st.top.regs args ≡ vs → MarkedNext W (enters_shared mk None) (calls W.program st m.0 None direct vs)
    static_call dst m direct args is p s c None iv = tt
    static_call dst m direct args is p s c (Some vs) iv =
        let q = result_of W.sig (method_at W.program m.0) in
        call_good dst m None direct args is m.0 vs c (within_refl q.null q.committed q.free) (subst (λ y. AllDescribed mk.marks mk.top.era y vs) (sym (given_static (method_at W.program m.0) s)) (args_of (param_quals W m.0) args vs p iv)) (ltb st.limits.deepest (length st.waiting + 2)) (body_of (method_at W.program m.0)) refl

    this_call : (dst : Option RegNo) (m : MethodNo) (r : Operand) (direct : Bool) (args : List Operand) → pt.kind ≡ Call dst m (Some r) direct args → ArgsPass good.top.env (param_quals W m.0) args → ReceiverPasses W good.top.env (method_at W.program m.0) (Some r) → ((o k : ℕ) → value_at st.top.regs r.reg.0 ≡ Some (At o) → selected W.program st.heap o m.0 direct ≡ Some k → Overrides W k m.0) → (vs : List Value) → gather st.top.regs args ≡ Some vs → (o : ℕ) → value_at st.top.regs r.reg.0 ≡ Some (At o) → (k : Option ℕ) → selected W.program st.heap o m.0 direct ≡ k → MarkedNext W (enters_shared mk None) (calls_on W.program st k (At o ∷ vs))
    this_call dst m r direct args is p rp ty vs iv o io None ik = tt
    this_call dst m r direct args is p rp ty vs iv o io (Some k) ik =
        let u = ty o k io ik in
        let d : Describes mk.marks mk.top.era (qual_at good.top.env r.reg.0) (Some (At o)) = subst (λ v. Describes mk.marks mk.top.era (qual_at good.top.env r.reg.0) v) io (described_at mk.marks mk.top.era good.top.env.quals st.top.regs r.reg.0 good.top.stands.quals) in
        let this : Describes mk.marks mk.top.era (receiver_of W.sig (method_at W.program k)) (Some (At o)) = describes_within mk.marks mk.top.era (receiver_of W.sig (method_at W.program m.0)) (receiver_of W.sig (method_at W.program k)) (Some (At o)) u.receiver (describes_within mk.marks mk.top.era (qual_at good.top.env r.reg.0) (receiver_of W.sig (method_at W.program m.0)) (Some (At o)) rp.1 d) in
        let is_this : this_qual W.sig (method_at W.program k) ≡ receiver_of W.sig (method_at W.program k) = ap (λ b. cond b free_only (receiver_of W.sig (method_at W.program k))) u.method in
        let all : AllDescribed mk.marks mk.top.era (this_qual W.sig (method_at W.program k) ∷ param_quals W k) (At o ∷ vs) = (subst (λ q. Describes mk.marks mk.top.era q (Some (At o))) (sym is_this) this, all_within mk.marks mk.top.era (param_quals W m.0) (param_quals W k) vs u.params (args_of (param_quals W m.0) args vs p iv)) in
        call_good dst m (Some r) direct args is k (At o ∷ vs) u.method u.result (subst (λ y. AllDescribed mk.marks mk.top.era y (At o ∷ vs)) (sym (given_this (method_at W.program k) u.instance)) all) (ltb st.limits.deepest (length st.waiting + 2)) (body_of (method_at W.program k)) refl

    on_call : (dst : Option RegNo) (m : MethodNo) (r : Operand) (direct : Bool) (args : List Operand) → pt.kind ≡ Call dst m (Some r) direct args → ArgsPass good.top.env (param_quals W m.0) args → ReceiverPasses W good.top.env (method_at W.program m.0) (Some r) → ((o k : ℕ) → value_at st.top.regs r.reg.0 ≡ Some (At o) → selected W.program st.heap o m.0 direct ≡ Some k → Overrides W k m.0) → (vs : Option (List Value)) → gather st.top.regs args ≡ vs → (o : Option ℕ) → object_of (value_at st.top.regs r.reg.0) ≡ o → MarkedNext W (enters_shared mk None) (calls W.program st m.0 (Some r) direct vs)
    on_call dst m r direct args is p rp ty None iv o io = tt
    on_call dst m r direct args is p rp ty (Some vs) iv o io = subst (λ x. MarkedNext W (enters_shared mk None) (calls_this W.program st x m.0 direct vs)) (sym io) (by o io)
      where
        by : (o : Option ℕ) → object_of (value_at st.top.regs r.reg.0) ≡ o → MarkedNext W (enters_shared mk None) (calls_this W.program st o m.0 direct vs)
        by None io = tt
        by (Some o) io = this_call dst m r direct args is p rp ty vs iv o (object_is (value_at st.top.regs r.reg.0) o io) (selected W.program st.heap o m.0 direct) refl

    pub call_kind : (dst : Option RegNo) (m : MethodNo) (r : Option Operand) (direct : Bool) (args : List Operand) → pt.kind ≡ Call dst m r direct args → PointOk W st.top.body st.top.at good.top.env (Call dst m r direct args) → Typed W st (Call dst m r direct args) → MarkedNext W (enters_shared mk None) (calls W.program st m.0 r direct (gather st.top.regs args))
    call_kind dst m None direct args is ok ty = static_call dst m direct args is ok.rules.0 ok.rules.1 ok.names.0 (gather st.top.regs args) refl
    call_kind dst m (Some r) direct args is ok ty = on_call dst m r direct args is ok.rules.0 ok.rules.1 ty (gather st.top.regs args) refl (object_of (value_at st.top.regs r.reg.0)) refl

    -- this(..) and super(..)
    ctor_entry : (m : MethodNo) (args : List Operand) (own : Bool) → pt.kind ≡ CtorCall m args own → Chains W.program st.top.body m.0 own → (o : ℕ) → mk.top.built ≡ Some o → Ctor W mk.marks st.heap st.top mk.top o → (vs : List Value) → AllDescribed mk.marks mk.top.era (param_quals W m.0) vs → (t : Bool) (x : Option ℕ) → body_of (method_at W.program m.0) ≡ x → MarkedNext W (enters_shared mk (Some o)) (enter W.program t st st.heap x (At o ∷ vs))
    ctor_entry m args own is ch o ob c vs d true x ib = tt
    ctor_entry m args own is ch o ob c vs d false None ib = tt
    ctor_entry m args own is ch o ob c vs d false (Some b) ib =
        let g : FrameMark = record { era = mk.top.era; opened = false; made = false; built = Some o } in
        let same : method_in W.program b ≡ method_at W.program m.0 = checked.bodies m.0 b ib in
        let inside : ctor_of (method_in W.program b) ≡ true = ap (λ y. ctor_of y) same ∙ ch.ctor in
        let is_this : this_qual W.sig (method_at W.program m.0) ≡ free_only = ap (λ b. cond b free_only (receiver_of W.sig (method_at W.program m.0))) ch.ctor in
        let this : Describes mk.marks mk.top.era free_only (Some (At o)) = subst (λ k. MarkFits mk.top.era free_only k) (sym c.free) (refl, refl) in
        let all : AllDescribed mk.marks mk.top.era (this_qual W.sig (method_at W.program m.0) ∷ param_quals W m.0) (At o ∷ vs) = (subst (λ q. Describes mk.marks mk.top.era q (Some (At o))) (sym is_this) this, d) in
        let given : AllDescribed mk.marks mk.top.era (given_quals W.sig (method_at W.program m.0)) (At o ∷ vs) = subst (λ y. AllDescribed mk.marks mk.top.era y (At o ∷ vs)) (sym (given_this (method_at W.program m.0) (checked.ctor_this m.0 ch.ctor))) all in
        record {
          heap = heap_frames W mk.marks (mk.top ∷ mk.waiting) (g ∷ mk.top ∷ mk.waiting) st.heap (λ o a h. inr h) good.heap;
          top = enter_top mk.marks st.heap b (checked.there m.0 b ib).0 (checked.there m.0 b ib).1 (At o ∷ vs) g (subst (λ y. AllDescribed mk.marks mk.top.era (given_quals W.sig y) (At o ∷ vs)) (sym same) given)
              (record { inside = inside; this = first_value b (At o) vs inside; ended = c.ended; free = c.free; supers = more_ended (class_of (method_in W.program b)) c.ended (entry_supers b inside); class = λ h. true_false false h refl });
          waiting = waits_same b g (subst (λ y. Waits W b g mk.top good.top.env y) (sym is) (record { ctor = inside; class = ap (λ y. class_of y) same; made = refl; built = sym ob; shared = refl })) (same_step g refl refl);
          below = good.below;
          eras = λ o a l h. inr (good.eras o a l h);
        }

    ctor_value : (m : MethodNo) (args : List Operand) (own : Bool) → pt.kind ≡ CtorCall m args own → Chains W.program st.top.body m.0 own → ArgsPass good.top.env (param_quals W m.0) args → (vs : Option (List Value)) → gather st.top.regs args ≡ vs → (x : Option ℕ) → mk.top.built ≡ x → CtorOk W mk.marks st.heap st.top mk.top x → MarkedNext W (enters_shared mk mk.top.built) (ctor_calls W.program st m.0 (value_at st.top.regs 0) vs)
    ctor_value m args own is ch p None iv x ib c = tt
    ctor_value m args own is ch p (Some vs) iv None ib c = true_false (ctor_of (method_in W.program st.top.body)) ch.inside c
    ctor_value m args own is ch p (Some vs) iv (Some o) ib c = subst (λ v. MarkedNext W (enters_shared mk mk.top.built) (ctor_calls W.program st m.0 v (Some vs))) (sym c.this)
        (subst (λ z. MarkedNext W (enters_shared mk z) (ctor_calls W.program st m.0 (Some (At o)) (Some vs))) (sym ib) (ctor_entry m args own is ch o ib c vs (args_of (param_quals W m.0) args vs p iv) (ltb st.limits.deepest (length st.waiting + 2)) (body_of (method_at W.program m.0)) refl))

    pub ctor_kind : (m : MethodNo) (args : List Operand) (own : Bool) → pt.kind ≡ CtorCall m args own → PointOk W st.top.body st.top.at good.top.env (CtorCall m args own) → MarkedNext W (enters_shared mk mk.top.built) (ctor_calls W.program st m.0 (value_at st.top.regs 0) (gather st.top.regs args))
    ctor_kind m args own is ok = ctor_value m args own is ok.names ok.rules (gather st.top.regs args) refl mk.top.built refl good.top.stands.ctor

    -- new
    default_field : (fs : List Field) (f : ℕ) (v : Value) → slice_get (defaults fs) f ≡ Some v → (x : Field) × (slice_get fs f ≡ Some x) × (default_of x.base ≡ v)
    default_field [] f v h = cc
    default_field (x ∷ fs) zero v h = let same : default_of x.base ≡ v = cc in (x, refl, same)
    default_field (x ∷ fs) (suc f) v h = default_field fs f v h

    prim_default : (b : BaseType) → is_ref_base b ≡ false → (default_of b ≡ NullRef → ⊥)
    prim_default (Ref c) h e = cc
    prim_default (Array x n) h e = cc
    prim_default b h e = cc

    default_ok : (b : BaseType) (n : Marks) (a own : ℕ) (is_ref : Bool) (q : Qualifier) → (is_ref ≡ false → is_ref_base b ≡ false) → FreeField n a [] own is_ref q (default_of b)
    default_ok b n a own is_ref q h = by (default_of b) (null b) (λ e. or_true' is_ref (λ x. prim_default b (h x) e))
      where
        or_true' : (b : Bool) → (b ≡ false → ⊥) → b ≡ true
        or_true' true h = refl
        or_true' false h = absurd (h refl)

        null : (b : BaseType) → HoldsRef (default_of b) → ⊥
        null (Ref c) h = h
        null (Array x n) h = h
        null b h = h

        by : (v : Value) → (HoldsRef v → ⊥) → (v ≡ NullRef → is_ref ≡ true) → FreeField n a [] own is_ref q v
        by NullRef k l = record { value = l refl; slot = λ x. absurd x; ends = λ x y. absurd x }
        by (Text t) k l = absurd (k tt)
        by (Plain p) k l = record { value = tt; slot = λ x. absurd x; ends = λ x y. absurd x }
        by (At o) k l = absurd (k tt)

    module _ (dst : RegNo) (m : MethodNo) (args : List Operand) (is : pt.kind ≡ New dst m args) (ctor : ctor_of (method_at W.program m.0) ≡ true) (p : ArgsPass good.top.env (param_quals W m.0) args) (vs : List Value) (iv : gather st.top.regs args ≡ Some vs) (ty : ArgsRef st.top.regs (slots_of (method_at W.program m.0)) args) where
      abbrev slots : List (Option SlotNo)
      slots = slots_of (method_at W.program m.0)

      abbrev made : Thing
      made = Object (class_of (method_at W.program m.0)) (defaults W.program.fields)

      abbrev heap' : List Thing
      heap' = st.heap ++ made ∷ []

      abbrev free_args : Bool
      free_args = any_free (ref_quals good.top.env slots args)

      fits : ArgsFit mk.marks mk.top.era good.top.env st.top.regs args
      fits = args_fit mk.marks mk.top.era good.top.env st.top.regs args good.top.stands.quals

      not_empty : any_empty (ref_quals good.top.env slots args) ≡ false
      not_empty = none_empty mk.marks mk.top.era good.top.env st.top.regs slots args (Some vs) iv (λ z. cc) ty fits

      module _ (a next : ℕ) (opened : Bool) (b : ℕ) (ib : body_of (method_at W.program m.0) ≡ Some b)
          (era_fits : ArgsFit (grown_marks W mk.marks (mk.top ∷ mk.waiting) st.heap good.heap made (Free a [])) a good.top.env st.top.regs args)
          (q_opens : opened ≡ not (any_free (ref_quals good.top.env slots args)))
          (q_opened : opened ≡ true → (new_qual (ref_quals good.top.env slots args)).committed ≡ true)
          (q_shared : opened ≡ false → (new_qual (ref_quals good.top.env slots args)).free ≡ true)
          (era : EraStep (record { era = a; opened = opened; made = true; built = Some (length st.heap) }) mk.top) (below : a < next) where
        abbrev g' : FrameMark
        g' = record { era = a; opened = opened; made = true; built = Some (length st.heap) }

        abbrev marks' : Marks
        marks' = grown_marks W mk.marks (mk.top ∷ mk.waiting) st.heap good.heap made (Free a [])

        fields_ok : (f : ℕ) (v : Value) → field_in W.program (Some made) f ≡ Some v → FieldOk marks' (Free a []) (owner W.program f) (ref_field W.program f) (field_qual W.program W.sig f) v
        fields_ok f v h =
            let x = default_field W.program.fields f v (cond_is (has_field W.program (class_of (method_at W.program m.0)) f) (slice_get (defaults W.program.fields) f) v h) in
            subst (λ v. FreeField marks' a [] (owner W.program f) (ref_field W.program f) (field_qual W.program W.sig f) v) x.2 (default_ok x.0.base marks' a (owner W.program f) (ref_field W.program f) (field_qual W.program W.sig f) (λ z. checked.fields f x.0 x.1 z))

        new_entry : MarkedNext W (record { marks = marks'; top = g'; waiting = mk.top ∷ mk.waiting; next = next }) (enter W.program false st heap' (Some b) (At (length st.heap) ∷ vs))
        new_entry =
            let gs = mk.top ∷ mk.waiting in
            let same : method_in W.program b ≡ method_at W.program m.0 = checked.bodies m.0 b ib in
            let inside : ctor_of (method_in W.program b) ≡ true = ap (λ y. ctor_of y) same ∙ ctor in
            let is_this : this_qual W.sig (method_at W.program m.0) ≡ free_only = ap (λ b. cond b free_only (receiver_of W.sig (method_at W.program m.0))) ctor in
            let this : Describes marks' a free_only (Some (At (length st.heap))) = subst (λ k. MarkFits a free_only k) (sym (mark_same mk.marks (length st.heap) (Free a []))) (refl, refl) in
            let all : AllDescribed marks' a (this_qual W.sig (method_at W.program m.0) ∷ param_quals W m.0) (At (length st.heap) ∷ vs) = (subst (λ q. Describes marks' a q (Some (At (length st.heap)))) (sym is_this) this, args_described marks' a good.top.env st.top.regs (param_quals W m.0) args vs era_fits p iv) in
            let given : AllDescribed marks' a (given_quals W.sig (method_at W.program m.0)) (At (length st.heap) ∷ vs) = subst (λ y. AllDescribed marks' a y (At (length st.heap) ∷ vs)) (sym (given_this (method_at W.program m.0) (checked.ctor_this m.0 ctor))) all in
            let later : (c : ℕ) → Later W c mk.marks st.heap marks' heap' = grown_later W mk.marks gs st.heap good.heap made (Free a []) in
            record {
              heap = grown_heap W mk.marks gs st.heap good.heap made (Free a []) (g' ∷ gs) (λ o c h. inr h) (record { fields = fields_ok; built = inr (inl (refl, refl, refl)) });
              top = enter_top marks' heap' b (checked.there m.0 b ib).0 (checked.there m.0 b ib).1 (At (length st.heap) ∷ vs) g' (subst (λ y. AllDescribed marks' a (given_quals W.sig y) (At (length st.heap) ∷ vs)) (sym same) given)
                  (record {
                    inside = inside;
                    this = first_value b (At (length st.heap)) vs inside;
                    ended = [];
                    free = mark_same mk.marks (length st.heap) (Free a []);
                    supers = entry_supers b inside;
                    class = λ h. ap class_in (append_last st.heap made) ∙ ap (λ y. Some (class_of y)) (sym same);
                  });
              waiting = (
                record {
                  frame = frame_later W mk.marks st.heap marks' heap' st.top mk.top (later mk.top.era) (top_waits W mk.marks st.heap marks' heap' st.top mk.top good.top);
                  pt = pt;
                  point = point;
                  waits = subst (λ y. Waits W b g' mk.top good.top.env y) (sym is) (record { ctor = inside; made = refl; opens = q_opens; opened = q_opened; shared = q_shared });
                  era = era;
                },
                waiting_later W mk.marks st.heap marks' heap' st.top.body mk.top st.waiting mk.waiting (all_later W mk.marks st.heap marks' heap' later mk.waiting) good.waiting,
              );
              below = below;
              eras = grown_eras mk.marks (length st.heap) a [] gs (g' ∷ gs) (λ b x. inr x) (inl refl) good.eras;
            }

      new_by : (t : Bool) → free_args ≡ t → (deep : Bool) (x : Option ℕ) → body_of (method_at W.program m.0) ≡ x → MarkedNext W (enters_new mk (length st.heap) t) (enter W.program deep st heap' x (At (length st.heap) ∷ vs))
      new_by t it true x ib = tt
      new_by t it false None ib = tt
      new_by true it false (Some b) ib =
          let a = mk.top.era in
          new_entry a mk.next false b ib
          (args_later W mk.marks st.heap (grown_marks W mk.marks (mk.top ∷ mk.waiting) st.heap good.heap made (Free a [])) heap' a (grown_later W mk.marks (mk.top ∷ mk.waiting) st.heap good.heap made (Free a []) a) good.top.env st.top.regs args fits)
          (sym (ap not it)) (λ h. true_false false h refl) (λ h. new_free (ref_quals good.top.env slots args) not_empty it)
          (record { opened = λ h. true_false false h refl; same = λ h. refl }) good.below
      new_by false it false (Some b) ib =
          let a = mk.next in
          let e = mk.top.era in
          let n = grown_marks W mk.marks (mk.top ∷ mk.waiting) st.heap good.heap made (Free a []) in
          new_entry a (mk.next + 1) true b ib
          (args_era W n e a good.top.env st.top.regs slots args p it (args_later W mk.marks st.heap n heap' e (grown_later W mk.marks (mk.top ∷ mk.waiting) st.heap good.heap made (Free a []) e) good.top.env st.top.regs args fits))
          (sym (ap not it)) (λ h. new_committed (ref_quals good.top.env slots args) not_empty it) (λ h. true_false true refl h)
          (record { opened = λ h. good.below; same = λ h. true_false true refl h }) (omega arith)

    new_value : (dst : RegNo) (m : MethodNo) (args : List Operand) → pt.kind ≡ New dst m args → ctor_of (method_at W.program m.0) ≡ true → ArgsPass good.top.env (param_quals W m.0) args → (vs : Option (List Value)) → gather st.top.regs args ≡ vs → ArgsRef st.top.regs (slots_of (method_at W.program m.0)) args → MarkedNext W (enters_new mk (length st.heap) (any_free (ref_quals good.top.env (slots_of (method_at W.program m.0)) args))) (news W.program st m.0 vs)
    new_value dst m args is c p None iv ty = tt
    new_value dst m args is c p (Some vs) iv ty = new_by dst m args is c p vs iv ty (any_free (ref_quals good.top.env (slots_of (method_at W.program m.0)) args)) refl (ltb st.limits.deepest (length st.waiting + 2)) (body_of (method_at W.program m.0)) refl

    pub new_kind : (dst : RegNo) (m : MethodNo) (args : List Operand) → pt.kind ≡ New dst m args → PointOk W st.top.body st.top.at good.top.env (New dst m args) → Typed W st (New dst m args) → MarkedNext W (mark_by W st mk (New dst m args)) (news W.program st m.0 (gather st.top.regs args))
    new_kind dst m args is ok ty =
        subst (λ o. MarkedNext W (enters_new mk (length st.heap) (shares_era o (slots_of (method_at W.program m.0)) args)) (news W.program st m.0 (gather st.top.regs args))) (sym good.top.reached)
        (new_value dst m args is ok.names.0 ok.rules (gather st.top.regs args) refl ty)
