-- Calls, returns and so every step keep the base types of a state.
use Rattle.std.proofs.Common.{◌≡◌, ℕ, zero, suc, Bool, true, false, ◌⊎◌, inl, inr, List, [], ◌∷◌, ◌++◌, length, Option, Some, None, refl, sym, ◌∙◌, subst, ◌+◌, ltb}
use Rattle.std.specs.Prelude.{slice_get, slice_set, ltb}
use Rattle.jn_points.specs.BaseRows.{is_void}
use Rattle.jn_points.specs.BaseTyping.{PointTyped, ResultTyped, ReturnTyped, given_bases, Ordered}
use Rattle.jn_base.specs.declared.number.RegNo.{RegNo}
use Rattle.jn_base.specs.declared.number.MethodNo.{MethodNo}
use Rattle.jn_points.specs.declared.point.Operand.{Operand}
use Rattle.jn_points.specs.declared.point.BaseType.{BaseType}
use Rattle.jn_points.specs.declared.point.BaseType.TheVariants.{Ref}
use Rattle.jn_points.specs.declared.point.Point.{Point}
use Rattle.jn_points.specs.declared.point.PointKind.{PointKind}
use Rattle.jn_points.specs.declared.point.PointKind.TheVariants.{Const, Move, Unary, Binary, Concat, SameRef, FieldRead, FieldWrite, StaticRead, StaticWrite, ElemRead, ElemWrite, ArrayLen, NewArray, ArrayOf, New, CtorCall, Call, StrOp, Print, Cast, TestInst, TestNull, Branch, Goto, Return}
use Rattle.jn_points.specs.declared.program.Field.{Field}
use Rattle.jn_soundness.specs.Types.{GivesTo, HasType, HeapTyped, ProgramTyped, RegsTyped, ReturnFits, ReturnFitsAt, StateTyped, ThingFits, WaitTyped}
use Rattle.jn_heap.specs.Values.{At, Object, Thing, Value, default_of, defaults}
use Rattle.jn_heap.specs.State.{Ends, Frame, Goes, Next, State, Stuck, gather, got_of, got_plain, holds_at, object_of, prim_of, value_at, value_of, int_of, truth_of, text_in, got_prim}
use Rattle.jn_heap.specs.Steps.{array_len, binary_of, cast_of, concat_of, count_of, literal_value, read_elem, read_field, same_of, str_op, unary_of}
use Rattle.jn_heap.specs.Calls.{calls, calls_on, calls_this, ctor_calls, enter, gives, gives_to, news, resumes, returns, selected, takes, takes_at}
use Rattle.jn_heap.specs.Runs.{act, run, step_at, then_step}
use Rattle.jn_soundness.specs.World.{World}
use Rattle.jn_points.specs.Lookup.{body_at, body_of, class_of, field_base_of, method_at, method_in, params_of, point_at, reg_base, regs_of, result_base_of}
use Rattle.jn_points.specs.Members.{fits, has_field}
use Rattle.jn_soundness.proofs.Fits.{fits_self, fits_trans, valued_within}
use Rattle.jn_soundness.proofs.Basics.{eqb_cases, value_other, value_same, given_static, given_this}
use Rattle.jn_soundness.proofs.Tops.{object_is}
use Rattle.jn_soundness.proofs.Writes.{cond_is}
use Rattle.jn_soundness.proofs.Grows.{append_last}
use Rattle.jn_soundness.proofs.TypedValues.{fits_type, default_has, selects_on, set_typed, got_typed, move_typed, value_typed, read_typed, concat_typed, prim_typed, binary_typed, unary_typed, same_typed, len_typed, str_typed, cast_typed, const_typed, read_elem_typed, test_null_typed, test_inst_typed, branch_typed, print_typed, static_typed}
use Rattle.jn_soundness.proofs.TypedHeaps.{HeapMore, push_more, push_heap, NextOk, AllHave, padded, all_more, regs_more, wait_more, args_have, write_typed, write_elem_typed, new_array_typed, array_of_typed}

module _ (W : World) (T : Ordered W.program) (P : ProgramTyped W) where
  module _ (st : State) (ty : StateTyped W st) where
    -- a frame that is entered
    enter_typed : (heap' : List Thing) → HeapMore W T P st.heap heap' → HeapTyped W heap' → (k : ℕ) (vs : List Value) → AllHave W T P heap' (given_bases W.program k) vs → ((b : ℕ) → body_of (method_at W.program k) ≡ Some b → ReturnFitsAt W b st.top.body (point_at W.program st.top.body st.top.at)) → (t : Bool) (x : Option ℕ) → body_of (method_at W.program k) ≡ x → NextOk W T P (enter W.program t st heap' x vs)
    enter_typed heap' more h k vs a r true x ib = tt
    enter_typed heap' more h k vs a r false None ib = tt
    enter_typed heap' more h k vs a r false (Some b) ib = record {
      heap = h;
      top = λ i v is. padded W T P heap' (reg_base W.program b) (given_bases W.program k) vs (regs_of (body_at W.program b)) i v (P.starts k b ib) a is;
      waiting = (regs_more W T P st.heap heap' more st.top.body st.top.regs ty.top, r b ib, wait_more W T P st.heap heap' more st.top.body st.waiting ty.waiting);
    }

    -- what a frame gives back fits where it was called
    return_fits : (pt : Point) → point_at W.program st.top.body st.top.at ≡ Some pt → (k : PointKind) → pt.kind ≡ k → (b : ℕ) → ReturnFits W b st.top.body k → ReturnFitsAt W b st.top.body (point_at W.program st.top.body st.top.at)
    return_fits pt is k e b h = subst (λ x. ReturnFitsAt W b st.top.body x) (sym is) (subst (λ k. ReturnFits W b st.top.body k) (sym e) h)

    gives_by : (k m b : ℕ) (dst : Option RegNo) → body_of (method_at W.program k) ≡ Some b → fits W.program (result_base_of (method_at W.program k)) (result_base_of (method_at W.program m)) ≡ true → ResultTyped W.program st.top.body m dst → GivesTo W b st.top.body dst
    gives_by k m b None ib f r = tt
    gives_by k m b (Some dst) ib f r =
        let g : fits W.program (result_base_of (method_in W.program b)) (result_base_of (method_at W.program m)) ≡ true = subst (λ y. fits W.program (result_base_of y) (result_base_of (method_at W.program m)) ≡ true) (sym (P.bodies k b ib)) f in
        (valued_within W.program (result_base_of (method_in W.program b)) (result_base_of (method_at W.program m)) g r.0, fits_trans W.program T (result_base_of (method_in W.program b)) (result_base_of (method_at W.program m)) (reg_base W.program st.top.body dst.0) g r.1)

    same_more : HeapMore W T P st.heap st.heap
    same_more o t h = h

    module _ (pt : Point) (is : point_at W.program st.top.body st.top.at ≡ Some pt) where
      -- calls
      own_result : (m b : ℕ) (dst : Option RegNo) → body_of (method_at W.program m) ≡ Some b → ResultTyped W.program st.top.body m dst → GivesTo W b st.top.body dst
      own_result m b None ib r = tt
      own_result m b (Some dst) ib r = subst (λ y. (is_void (result_base_of y) ≡ false) × (fits W.program (result_base_of y) (reg_base W.program st.top.body dst.0) ≡ true)) (sym (P.bodies m b ib)) r

      static_typed_call : (dst : Option RegNo) (m : MethodNo) (direct : Bool) (args : List Operand) → pt.kind ≡ Call dst m None direct args → PointTyped W.program st.top.body (Call dst m None direct args) → (vs : Option (List Value)) → gather st.top.regs args ≡ vs → NextOk W T P (calls W.program st m.0 None direct vs)
      static_typed_call dst m direct args e p None iv = tt
      static_typed_call dst m direct args e p (Some vs) iv =
          enter_typed st.heap same_more ty.heap m.0 vs (subst (λ ts. AllHave W T P st.heap ts vs) (sym (given_static W.program m.0 (P.receivers st.top.body st.top.at pt dst m direct args is e))) (args_have W T P st ty (params_of (method_at W.program m.0)) args vs p.2 iv))
          (λ b ib. return_fits pt is (Call dst m None direct args) e b (own_result m.0 b dst ib p.1)) (ltb st.limits.deepest (length st.waiting + 2)) (body_of (method_at W.program m.0)) refl

      on_typed : (dst : Option RegNo) (m : MethodNo) (r : Operand) (direct : Bool) (args : List Operand) → pt.kind ≡ Call dst m (Some r) direct args → PointTyped W.program st.top.body (Call dst m (Some r) direct args) → (vs : List Value) → gather st.top.regs args ≡ Some vs → (o : ℕ) → value_at st.top.regs r.reg.0 ≡ Some (At o) → (k : Option ℕ) → selected W.program st.heap o m.0 direct ≡ k → NextOk W T P (calls_on W.program st k (At o ∷ vs))
      on_typed dst m r direct args e p vs iv o io None ik = tt
      on_typed dst m r direct args e p vs iv o io (Some k) ik =
          let u = selects_on W T P st ty pt dst m r direct args is e p o k io ik in
          let rest : AllHave W T P st.heap (params_of (method_at W.program k)) vs = subst (λ ts. AllHave W T P st.heap ts vs) (sym u.0.params) (args_have W T P st ty (params_of (method_at W.program m.0)) args vs p.2 iv) in
          enter_typed st.heap same_more ty.heap k (At o ∷ vs) (subst (λ ts. AllHave W T P st.heap ts (At o ∷ vs)) (sym (given_this W.program k u.0.over.instance)) (u.1, rest))
          (λ b ib. return_fits pt is (Call dst m (Some r) direct args) e b (gives_by k m.0 b dst ib u.0.result p.1)) (ltb st.limits.deepest (length st.waiting + 2)) (body_of (method_at W.program k)) refl

      this_typed : (dst : Option RegNo) (m : MethodNo) (r : Operand) (direct : Bool) (args : List Operand) → pt.kind ≡ Call dst m (Some r) direct args → PointTyped W.program st.top.body (Call dst m (Some r) direct args) → (vs : Option (List Value)) → gather st.top.regs args ≡ vs → (o : Option ℕ) → object_of (value_at st.top.regs r.reg.0) ≡ o → NextOk W T P (calls W.program st m.0 (Some r) direct vs)
      this_typed dst m r direct args e p None iv o io = tt
      this_typed dst m r direct args e p (Some vs) iv o io = subst (λ x. NextOk W T P (calls_this W.program st x m.0 direct vs)) (sym io) (by o io)
        where
          by : (o : Option ℕ) → object_of (value_at st.top.regs r.reg.0) ≡ o → NextOk W T P (calls_this W.program st o m.0 direct vs)
          by None io = tt
          by (Some o) io = on_typed dst m r direct args e p vs iv o (object_is (value_at st.top.regs r.reg.0) o io) (selected W.program st.heap o m.0 direct) refl

      ctor_typed : (m : MethodNo) (args : List Operand) (own : Bool) → pt.kind ≡ CtorCall m args own → PointTyped W.program st.top.body (CtorCall m args own) → (v : Option Value) → value_at st.top.regs 0 ≡ v → (vs : Option (List Value)) → gather st.top.regs args ≡ vs → NextOk W T P (ctor_calls W.program st m.0 v vs)
      ctor_typed m args own e p v io None iv = tt
      ctor_typed m args own e p None io (Some vs) iv = tt
      ctor_typed m args own e p (Some v) io (Some vs) iv =
          let this : HasType W st.heap (Ref (record { 0 = class_of (method_at W.program m.0) })) v = fits_type W T P st.heap (reg_base W.program st.top.body 0) (Ref (record { 0 = class_of (method_at W.program m.0) })) v p.0 (ty.top 0 v io) in
          by (body_of (method_at W.program m.0)) refl this
        where
          by : (x : Option ℕ) → body_of (method_at W.program m.0) ≡ x → HasType W st.heap (Ref (record { 0 = class_of (method_at W.program m.0) })) v → NextOk W T P (enter W.program (ltb st.limits.deepest (length st.waiting + 2)) st st.heap (body_of (method_at W.program m.0)) (v ∷ vs))
          by None ib this = subst (λ x. NextOk W T P (enter W.program (ltb st.limits.deepest (length st.waiting + 2)) st st.heap x (v ∷ vs))) (sym ib) (stuck (ltb st.limits.deepest (length st.waiting + 2)))
            where
              stuck : (t : Bool) → NextOk W T P (enter W.program t st st.heap None (v ∷ vs))
              stuck true = tt
              stuck false = tt
          by (Some b) ib this =
              let s = P.ctor_reg m.0 b ib (P.ctors st.top.body st.top.at pt m args own is e) in
              enter_typed st.heap same_more ty.heap m.0 (v ∷ vs) (subst (λ ts. AllHave W T P st.heap ts (v ∷ vs)) (sym (given_this W.program m.0 s.1)) (this, args_have W T P st ty (params_of (method_at W.program m.0)) args vs p.1 iv))
              (λ b ib. return_fits pt is (CtorCall m args own) e b tt) (ltb st.limits.deepest (length st.waiting + 2)) (body_of (method_at W.program m.0)) refl

      -- new objects
      field_default : (heap : List Thing) (fs : List Field) (f : ℕ) (v : Value) → slice_get (defaults fs) f ≡ Some v → HasType W heap (field_base_of (slice_get fs f)) v
      field_default heap [] f v h = cc
      field_default heap (x ∷ fs) zero v h = let same : default_of x.base ≡ v = cc in subst (λ v. HasType W heap x.base v) same (default_has W T P heap x.base)
      field_default heap (x ∷ fs) (suc f) v h = field_default heap fs f v h

      new_typed : (dst : RegNo) (m : MethodNo) (args : List Operand) → pt.kind ≡ New dst m args → PointTyped W.program st.top.body (New dst m args) → (vs : Option (List Value)) → gather st.top.regs args ≡ vs → NextOk W T P (news W.program st m.0 vs)
      new_typed dst m args e p None iv = tt
      new_typed dst m args e p (Some vs) iv = by (body_of (method_at W.program m.0)) refl
        where
          c : ℕ
          c = class_of (method_at W.program m.0)

          by : (x : Option ℕ) → body_of (method_at W.program m.0) ≡ x → NextOk W T P (enter W.program (ltb st.limits.deepest (length st.waiting + 2)) st (st.heap ++ Object (class_of (method_at W.program m.0)) (defaults W.program.fields) ∷ []) (body_of (method_at W.program m.0)) (At (length st.heap) ∷ vs))
          by None ib = subst (λ x. NextOk W T P (enter W.program (ltb st.limits.deepest (length st.waiting + 2)) st (st.heap ++ Object (class_of (method_at W.program m.0)) (defaults W.program.fields) ∷ []) x (At (length st.heap) ∷ vs))) (sym ib) (stuck (ltb st.limits.deepest (length st.waiting + 2)))
            where
              stuck : (t : Bool) → NextOk W T P (enter W.program t st (st.heap ++ Object (class_of (method_at W.program m.0)) (defaults W.program.fields) ∷ []) None (At (length st.heap) ∷ vs))
              stuck true = tt
              stuck false = tt
          by (Some b) ib =
              let made : Thing = Object (class_of (method_at W.program m.0)) (defaults W.program.fields) in
              let heap' = st.heap ++ made ∷ [] in
              let more : HeapMore W T P st.heap heap' = push_more W T P st.heap made in
              let s = P.ctor_reg m.0 b ib (P.news st.top.body st.top.at pt dst m args is e).0 in
              let owner_t : BaseType = Ref (record { 0 = class_of (method_at W.program m.0) }) in
              let heap_ok : HeapTyped W heap' = push_heap W T P st.heap made ty.heap ((P.news st.top.body st.top.at pt dst m args is e).1, λ f v x. field_default heap' W.program.fields f v (cond_is (has_field W.program (class_of (method_at W.program m.0)) f) (slice_get (defaults W.program.fields) f) v x)) in
              let this : HasType W heap' owner_t (At (length st.heap)) = subst (λ z. ThingFits W z owner_t) (sym (append_last st.heap made)) (fits_self W.program owner_t) in
              enter_typed heap' more heap_ok m.0 (At (length st.heap) ∷ vs) (subst (λ ts. AllHave W T P heap' ts (At (length st.heap) ∷ vs)) (sym (given_this W.program m.0 s.1)) (this, all_more W T P st.heap heap' more (params_of (method_at W.program m.0)) vs (args_have W T P st ty (params_of (method_at W.program m.0)) args vs p.1 iv)))
              (λ b' ib'. return_fits pt is (New dst m args) e b' (subst (λ t. fits W.program t (reg_base W.program st.top.body dst.0) ≡ true) (sym (P.ctor_reg m.0 b' ib' (P.news st.top.body st.top.at pt dst m args is e).0).0) p.0)) (ltb st.limits.deepest (length st.waiting + 2)) (body_of (method_at W.program m.0)) refl

    -- returns
    resume_set : (w : Frame) (ws : List Frame) (dst : ℕ) (v : Value) → RegsTyped W st.heap w.body w.regs → WaitTyped W st.heap w.body ws → HasType W st.heap (reg_base W.program w.body dst) v → NextOk W T P (resumes st (holds_at w dst v) ws)
    resume_set w ws dst v h rest d = record { heap = ty.heap; top = λ r u x. by r u x (eqb_cases r dst); waiting = rest }
      where
        by : (r : ℕ) (u : Value) → value_at (slice_set w.regs dst (Some v)) r ≡ Some u → (r ≡ dst) ⊎ (r ≡ dst → ⊥) → HasType W st.heap (reg_base W.program w.body r) u
        by r u x (inl e) =
            let now : v ≡ u = value_same w.regs dst v u (subst (λ y. value_at (slice_set w.regs dst (Some v)) y ≡ Some u) e x) in
            subst (λ y. HasType W st.heap (reg_base W.program w.body y) u) (sym e) (subst (λ u. HasType W st.heap (reg_base W.program w.body dst) u) now d)
        by r u x (inr n) = h r u (sym (value_other w.regs dst r (Some v) n) ∙ x)

    gives_typed : (w : Frame) (ws : List Frame) (dst : ℕ) (v : Option Value) → RegsTyped W st.heap w.body w.regs → WaitTyped W st.heap w.body ws → ((u : Value) → v ≡ Some u → HasType W st.heap (reg_base W.program w.body dst) u) → NextOk W T P (gives st w ws dst v)
    gives_typed w ws dst None h rest d = tt
    gives_typed w ws dst (Some v) h rest d = resume_set w ws dst v h rest (d v refl)

    result_has : (vo : Option Operand) (v : Value) → is_void (result_base_of (method_in W.program st.top.body)) ≡ false → ReturnTyped W.program st.top.body vo → value_of st.top.regs vo ≡ Some v → HasType W st.heap (result_base_of (method_in W.program st.top.body)) v
    result_has None v n p is = cc
    result_has (Some a) v n p is = fits_type W T P st.heap (reg_base W.program st.top.body a.reg.0) (result_base_of (method_in W.program st.top.body)) v (p n) (ty.top a.reg.0 v is)

    call_gives : (w : Frame) (ws : List Frame) (vo : Option Operand) (dst : Option RegNo) → ReturnTyped W.program st.top.body vo → RegsTyped W st.heap w.body w.regs → WaitTyped W st.heap w.body ws → GivesTo W st.top.body w.body dst → NextOk W T P (gives_to st w ws dst (value_of st.top.regs vo))
    call_gives w ws vo None p h rest g = record { heap = ty.heap; top = h; waiting = rest }
    call_gives w ws vo (Some dst) p h rest g = gives_typed w ws dst.0 (value_of st.top.regs vo) h rest (λ u x. fits_type W T P st.heap (result_base_of (method_in W.program st.top.body)) (reg_base W.program w.body dst.0) u g.1 (result_has vo u g.0 p x))

    takes_typed : (w : Frame) (ws : List Frame) (vo : Option Operand) → ReturnTyped W.program st.top.body vo → RegsTyped W st.heap w.body w.regs → WaitTyped W st.heap w.body ws → (k : PointKind) → ReturnFits W st.top.body w.body k → NextOk W T P (takes st w ws (value_at st.top.regs 0) (value_of st.top.regs vo) k)
    takes_typed w ws vo p h rest (New dst m args) f = gives_typed w ws dst.0 (value_at st.top.regs 0) h rest (λ u x. fits_type W T P st.heap (reg_base W.program st.top.body 0) (reg_base W.program w.body dst.0) u f (ty.top 0 u x))
    takes_typed w ws vo p h rest (CtorCall m args own) f = record { heap = ty.heap; top = h; waiting = rest }
    takes_typed w ws vo p h rest (Call dst m r direct args) f = call_gives w ws vo dst p h rest f
    takes_typed w ws vo p h rest k f = tt

    takes_at_typed : (w : Frame) (ws : List Frame) (vo : Option Operand) → ReturnTyped W.program st.top.body vo → RegsTyped W st.heap w.body w.regs → WaitTyped W st.heap w.body ws → (o : Option Point) → ReturnFitsAt W st.top.body w.body o → NextOk W T P (takes_at st w ws (value_at st.top.regs 0) (value_of st.top.regs vo) o)
    takes_at_typed w ws vo p h rest None f = tt
    takes_at_typed w ws vo p h rest (Some pt) f = takes_typed w ws vo p h rest pt.kind f

    return_typed : (vo : Option Operand) → ReturnTyped W.program st.top.body vo → (ws : List Frame) → WaitTyped W st.heap st.top.body ws → NextOk W T P (returns W.program st ws (value_at st.top.regs 0) (value_of st.top.regs vo))
    return_typed vo p [] h = tt
    return_typed vo p (w ∷ ws) h = takes_at_typed w ws vo p h.0 h.2 (point_at W.program w.body w.at) h.1

    -- each kind of point, and each step
    pub kind_typed : (names : List (List ℕ)) (pt : Point) → point_at W.program st.top.body st.top.at ≡ Some pt → (k : PointKind) → pt.kind ≡ k → PointTyped W.program st.top.body k → NextOk W T P (act W.program names st k)
    kind_typed names pt is (Const dst l) e p = set_typed W T P st ty dst.0 (literal_value names l) (const_typed W T P st ty names dst.0 l p)
    kind_typed names pt is (Move dst from bound) e p = got_typed W T P st ty dst.0 (got_of (value_at st.top.regs from.reg.0)) (value_typed W T P st ty from.reg.0 (reg_base W.program st.top.body dst.0) p (value_at st.top.regs from.reg.0) refl)
    kind_typed names pt is (Unary dst neg of) e p = got_typed W T P st ty dst.0 (unary_of neg (prim_of (value_at st.top.regs of.reg.0))) (unary_typed W T P st ty (reg_base W.program st.top.body dst.0) neg (prim_of (value_at st.top.regs of.reg.0)) p)
    kind_typed names pt is (Binary dst op l r) e p = got_typed W T P st ty dst.0 (binary_of op (prim_of (value_at st.top.regs l.reg.0)) (prim_of (value_at st.top.regs r.reg.0))) (binary_typed W T P st ty (reg_base W.program st.top.body dst.0) op (prim_of (value_at st.top.regs l.reg.0)) (prim_of (value_at st.top.regs r.reg.0)) p)
    kind_typed names pt is (Concat dst l r) e p = got_typed W T P st ty dst.0 (concat_of st.limits.longest (text_in (value_at st.top.regs l.reg.0)) (text_in (value_at st.top.regs r.reg.0))) (concat_typed W T P st ty st.limits.longest (reg_base W.program st.top.body dst.0) (text_in (value_at st.top.regs l.reg.0)) (text_in (value_at st.top.regs r.reg.0)) p)
    kind_typed names pt is (SameRef dst eq l r) e p = got_typed W T P st ty dst.0 (same_of eq (value_at st.top.regs l.reg.0) (value_at st.top.regs r.reg.0)) (same_typed W T P st ty (reg_base W.program st.top.body dst.0) eq (value_at st.top.regs l.reg.0) (value_at st.top.regs r.reg.0) p)
    kind_typed names pt is (FieldRead dst r f) e p = got_typed W T P st ty dst.0 (read_field W.program st.heap (object_of (value_at st.top.regs r.reg.0)) f.0) (read_typed W T P st ty (object_of (value_at st.top.regs r.reg.0)) f.0 (reg_base W.program st.top.body dst.0) p)
    kind_typed names pt is (FieldWrite r f s) e p = write_typed W T P st ty s.reg.0 f.0 p (object_of (value_at st.top.regs r.reg.0)) (value_at st.top.regs s.reg.0) refl
    kind_typed names pt is (StaticRead dst f) e p = got_typed W T P st ty dst.0 (got_plain (got_prim (slice_get st.statics f.0))) (prim_typed W T P st ty (reg_base W.program st.top.body dst.0) (got_prim (slice_get st.statics f.0)) p)
    kind_typed names pt is (StaticWrite f s) e p = static_typed W T P st ty f.0 (prim_of (value_at st.top.regs s.reg.0))
    kind_typed names pt is (ElemRead dst r i) e p = got_typed W T P st ty dst.0 (read_elem st.heap (object_of (value_at st.top.regs r.reg.0)) (int_of (prim_of (value_at st.top.regs i.reg.0)))) (read_elem_typed W T P st ty r.reg.0 (reg_base W.program st.top.body dst.0) (object_of (value_at st.top.regs r.reg.0)) (int_of (prim_of (value_at st.top.regs i.reg.0))) refl p.0 p.1)
    kind_typed names pt is (ElemWrite r i s) e p = write_elem_typed W T P st ty (object_of (value_at st.top.regs r.reg.0)) (int_of (prim_of (value_at st.top.regs i.reg.0))) (value_at st.top.regs s.reg.0)
    kind_typed names pt is (ArrayLen dst r) e p = got_typed W T P st ty dst.0 (array_len st.heap (object_of (value_at st.top.regs r.reg.0))) (len_typed W T P st ty (reg_base W.program st.top.body dst.0) (object_of (value_at st.top.regs r.reg.0)) p)
    kind_typed names pt is (NewArray dst c n) e p = new_array_typed W T P st ty dst.0 c p.0 p.1 (count_of st.limits.longest (int_of (prim_of (value_at st.top.regs n.reg.0))))
    kind_typed names pt is (ArrayOf dst c xs) e p = array_of_typed W T P st ty dst.0 c xs p.0 p.1 p.2 (gather st.top.regs xs) refl
    kind_typed names pt is (New dst m args) e p = new_typed pt is dst m args e p (gather st.top.regs args) refl
    kind_typed names pt is (CtorCall m args own) e p = ctor_typed pt is m args own e p (value_at st.top.regs 0) refl (gather st.top.regs args) refl
    kind_typed names pt is (Call dst m None direct args) e p = static_typed_call pt is dst m direct args e p (gather st.top.regs args) refl
    kind_typed names pt is (Call dst m (Some r) direct args) e p = this_typed pt is dst m r direct args e p (gather st.top.regs args) refl (object_of (value_at st.top.regs r.reg.0)) refl
    kind_typed names pt is (StrOp dst op of other) e p = got_typed W T P st ty dst.0 (str_op op (value_at st.top.regs of.reg.0) (value_of st.top.regs other)) (str_typed W T P st ty (reg_base W.program st.top.body dst.0) op (value_at st.top.regs of.reg.0) (value_of st.top.regs other) p)
    kind_typed names pt is (Print of) e p = print_typed W T P st ty (text_in (value_at st.top.regs of.reg.0))
    kind_typed names pt is (Cast dst of c) e p = got_typed W T P st ty dst.0 (cast_of W.program st.heap (value_at st.top.regs of.reg.0) c.0) (cast_typed W T P st ty (reg_base W.program st.top.body dst.0) c (value_at st.top.regs of.reg.0) p)
    kind_typed names pt is (TestInst of c og yes' no') e p = test_inst_typed W T P st ty c.0 yes'.0 no'.0 (value_at st.top.regs of.reg.0)
    kind_typed names pt is (TestNull of og x y) e p = test_null_typed W T P st ty x.0 y.0 (value_at st.top.regs of.reg.0)
    kind_typed names pt is (Branch of x y) e p = branch_typed W T P st ty x.0 y.0 (truth_of (prim_of (value_at st.top.regs of.reg.0)))
    kind_typed names pt is (Goto to) e p = move_typed W T P st ty to.0
    kind_typed names pt is (Return v) e p = return_typed v p st.waiting ty.waiting

    pub step_typed : (names : List (List ℕ)) (o : Option Point) → point_at W.program st.top.body st.top.at ≡ o → NextOk W T P (step_at W.program names st o)
    step_typed names None is = tt
    step_typed names (Some pt) is = kind_typed names pt is pt.kind refl (P.points st.top.body st.top.at pt is)

  -- a run
  next_typed : (names : List (List ℕ)) (x : Next) → NextOk W T P x → NextOk W T P (then_step W.program names x)
  next_typed names (Goes st) h = step_typed st h names (point_at W.program st.top.body st.top.at) refl
  next_typed names (Ends e st) h = tt
  next_typed names Stuck h = tt

  pub run_typed : (names : List (List ℕ)) (start : Next) → NextOk W T P start → (n : ℕ) → NextOk W T P (run W.program names start n)
  run_typed names start h zero = h
  run_typed names start h (suc n) = next_typed names (run W.program names start n) (run_typed names start h n)
