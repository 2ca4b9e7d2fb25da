-- Each step keeps a state good, and a good state has no null fault.
use Rattle.std.proofs.Common.{◌≡◌, ℕ, zero, suc, true, false, List, [], ◌∷◌, Option, Some, None, refl, sym, ap, subst, arith, cond}
use Rattle.std.specs.Prelude.{slice_get}
use Rattle.std.proofs.Math.Dec.{eqb-suc-zero}
use Rattle.jn_points.specs.Shaped.{test_at, test_in, test_of}
use Rattle.jn_points.specs.declared.point.BaseType.TheVariants.{Array}
use Rattle.jn_points.specs.declared.point.Elem.TheVariants.{Ref as RefElem}
use Rattle.jn_points.specs.declared.point.Point.{Point}
use Rattle.jn_points.specs.declared.point.PointKind.{PointKind}
use Rattle.jn_points.specs.declared.point.PointKind.TheVariants.{FieldRead, FieldWrite, ElemRead, ElemWrite, ArrayLen, StrOp, New, CtorCall, Call, Return}
use Rattle.jn_heap.specs.Values.{At, Elems, Limits, NullRef, Prim, Text, Value}
use Rattle.jn_soundness.specs.Checked.{Checked, PointOk, Unbroken}
use Rattle.jn_heap.specs.State.{State, value_at}
use Rattle.jn_heap.specs.Runs.{NullFault, act, derefs_null, fault_at, start_state, step_at, texts}
use Rattle.jn_soundness.specs.World.{World}
use Rattle.jn_points.specs.Lookup.{dereferences, point_at}
use Rattle.jn_env.specs.Order.{qual_at}
use Rattle.jn_soundness.proofs.Basics.{true_false, described_at, AllDescribed}
use Rattle.jn_soundness.proofs.Plains.{plain_good}
use Rattle.jn_soundness.proofs.Enters.{enter_top, call_kind, ctor_kind, new_kind}
use Rattle.jn_soundness.proofs.Leaves.{return_kind}
use Rattle.jn_soundness.specs.Marks.{Committed, Marking, Marks, Unborn, mark_by, mark_at, start_marking}
use Rattle.jn_soundness.specs.Heaps.{Describes, Settled, ThingOk}
use Rattle.jn_soundness.specs.Marked.{Marked, MarkedNext}
use Rattle.jn_soundness.specs.Asked.{IsMain, Typed, TypedAt}
use Rattle.jn_soundness.specs.Frames.{TestOk}
use Rattle.jn_soundness.proofs.Eras.{committed_eras}

module _ (W : World) (checked : Checked W) where
  kind_marked : (names : List (List ℕ)) (st : State) (mk : Marking) (good : Marked W st mk) (pt : Point) → point_at W.program st.top.body st.top.at ≡ Some pt → (k : PointKind) → pt.kind ≡ k → PointOk W st.top.body st.top.at good.top.env k → Typed W st k → test_at W.program st.top.body st.top.at ≡ test_of k → TestOk W st.heap st.top.regs (test_of k) → MarkedNext W (mark_by W st mk k) (act W.program names st k)
  kind_marked names st mk good pt is (New dst m args) e ok ty pl t = new_kind W checked st mk good pt is dst m args e ok ty
  kind_marked names st mk good pt is (CtorCall m args own) e ok ty pl t = ctor_kind W checked st mk good pt is m args own e ok
  kind_marked names st mk good pt is (Call dst m r direct args) e ok ty pl t = call_kind W checked st mk good pt is dst m r direct args e ok ty
  kind_marked names st mk good pt is (Return v) e ok ty pl t = return_kind W checked st mk good v ok
  kind_marked names st mk good pt is k e ok ty pl t = plain_good W st mk good names k tt ok pl t ty

  pub step_marked : (names : List (List ℕ)) (st : State) (mk : Marking) (good : Marked W st mk) (o : Option Point) → point_at W.program st.top.body st.top.at ≡ o → TypedAt W st o → MarkedNext W (mark_at W st mk o) (step_at W.program names st o)
  step_marked names st mk good None is ty = tt
  step_marked names st mk good (Some pt) is ty =
      let pl : test_at W.program st.top.body st.top.at ≡ test_of pt.kind = ap test_in is in
      kind_marked names st mk good pt is pt.kind refl (checked.points st.top.body st.top.at pt good.top.env is good.top.reached) ty pl (subst (λ t. TestOk W st.heap st.top.regs t) pl good.top.test)

  module _ (st : State) (mk : Marking) (good : Marked W st mk) where
    not_null : (r : ℕ) → (qual_at good.top.env r).null ≡ false → value_at st.top.regs r ≡ Some NullRef → ⊥
    not_null r q v = true_false (qual_at good.top.env r).null (subst (λ v. Describes mk.marks mk.top.era (qual_at good.top.env r) v) v (described_at mk.marks mk.top.era good.top.env.quals st.top.regs r good.top.stands.quals)) q

    kind_sound : (k : PointKind) → Unbroken W st.top.body good.top.env k → derefs_null st.top.regs (dereferences k) → ⊥
    kind_sound (FieldRead dst r f) u h = not_null r.reg.0 u h
    kind_sound (FieldWrite r f s) u h = not_null r.reg.0 u.not_null h
    kind_sound (ElemRead dst r i) u h = not_null r.reg.0 u h
    kind_sound (ElemWrite r i s) u h = not_null r.reg.0 u.0 h
    kind_sound (ArrayLen dst r) u h = not_null r.reg.0 u h
    kind_sound (StrOp dst op of other) u h = not_null of.reg.0 u h
    kind_sound (Call dst m None direct args) u h = h
    kind_sound (Call dst m (Some r) direct args) u h = not_null r.reg.0 u.1.0 h
    kind_sound k u h = h

    point_sound : (o : Option Point) → point_at W.program st.top.body st.top.at ≡ o → fault_at st.top.regs o → ⊥
    point_sound None is h = h
    point_sound (Some pt) is h = kind_sound pt.kind (checked.points st.top.body st.top.at pt good.top.env is good.top.reached).rules h

    pub no_fault : NullFault W.program st → ⊥
    no_fault h = point_sound (point_at W.program st.top.body st.top.at) refl h

  -- the start
  text_items : (m : Marks) (words : List (List ℕ)) (i : ℕ) (v : Value) → slice_get (texts words) i ≡ Some v → Settled m (record { null = false; committed = true; free = false }) v
  text_items m [] i v h = cc
  text_items m (w ∷ ws) zero v h = let same : Text w ≡ v = cc in subst (λ v. Settled m (record { null = false; committed = true; free = false }) v) same refl
  text_items m (w ∷ ws) (suc i) v h = text_items m ws i v h

  pub start_marked : (b : ℕ) → IsMain W b → (limits : Limits) (words : List (List ℕ)) → Marked W (start_state W.program limits b words) start_marking
  start_marked b main limits words =
      let heap = Elems (Array (RefElem (record { 0 = 1 })) false) (texts words) ∷ [] in
      record {
        heap = λ o. things words o;
        top = enter_top W checked start_marking.marks heap b main.body main.there (At 0 ∷ []) start_marking.top (subst (λ y. AllDescribed start_marking.marks 0 y (At 0 ∷ [])) (sym main.given) (main.committed, tt)) main.method;
        waiting = (refl, refl);
        below = omega arith;
        eras = committed_eras (λ o. Unborn) 0 (start_marking.top ∷ []) (λ o a l h. cc);
      }
    where
      things : (words : List (List ℕ)) (o : ℕ) → ThingOk W start_marking.marks (start_marking.top ∷ []) o (start_marking.marks o) (slice_get (Elems (Array (RefElem (record { 0 = 1 })) false) (texts words) ∷ []) o)
      things words zero = (refl, text_items start_marking.marks words)
      things words (suc o) = ap (λ t. cond t Committed Unborn) (eqb-suc-zero o)
