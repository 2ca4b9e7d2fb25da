-- Calls, constructor calls and new say which body is entered, and a Return takes that away.
use Rattle.jn_points.specs.Regular.{RegularPoint, Regular, FrontOf}
use Rattle.std.proofs.Common.{◌≡◌, ℕ, suc, Bool, true, false, List, [], ◌∷◌, ◌++◌, length, Option, Some, None, refl, sym, ap, ◌∙◌, subst, ◌+◌, ltb}
use Rattle.jn_points.specs.BaseTyping.{PointTyped, given_bases, Ordered}
use Rattle.jn_base.specs.declared.number.RegNo.{RegNo}
use Rattle.jn_base.specs.declared.number.MethodNo.{MethodNo}
use Rattle.jn_points.specs.declared.point.Operand.{Operand}
use Rattle.jn_points.specs.declared.point.BaseType.TheVariants.{Ref}
use Rattle.jn_points.specs.declared.point.Point.{Point}
use Rattle.jn_points.specs.declared.point.PointKind.{PointKind}
use Rattle.jn_points.specs.declared.point.PointKind.TheVariants.{New, CtorCall, Call, Return}
use Rattle.jn_soundness.specs.Types.{ProgramTyped, StateTyped}
use Rattle.jn_heap.specs.Values.{At, Object, Thing, Value, defaults}
use Rattle.jn_heap.specs.Calls as spec
use Rattle.jn_heap.specs.State.{Ends, Frame, Goes, Next, State, Stuck, gather, holds_at, object_of, value_at, value_of, moves_to}
use Rattle.jn_heap.specs.Calls.{calls_this, class_in, ctor_calls, enter, gives, news, pad, resumes, returns, selected, takes, takes_at, entered, class_at, enters}
use Rattle.jn_heap.specs.Runs.{act}
use Rattle.jn_soundness.specs.World.{World}
use Rattle.jn_points.specs.Lookup.{body_at, body_of, class_of, method_at, params_of, point_at, regs_of, ctor_of, static_of}
use Rattle.jn_soundness.proofs.Basics.{given_this, value_zero}
use Rattle.jn_soundness.proofs.Tops.{object_is}
use Rattle.jn_soundness.proofs.Grows.{append_last}
use Rattle.jn_points.specs.declared.program.Body.{Body}
use Rattle.jn_points.specs.Shaped.{writes}
use Rattle.jn_soundness.proofs.TypedValues.{selects_on}
use Rattle.jn_regular_law.proofs.Bodies.{body_method, ctor_static, method_body, front_some}
use Rattle.jn_regular_law.proofs.Whole.{point_regular}
use Rattle.jn_good_law.specs.Calls.{HasThis, Entered, EnteredAt, Calls}
use Rattle.jn_good_law.proofs.Straight.{on_itself, moved_on, StaysNext, kind_stays, push_class, calls_on}
use Rattle.jn_soundness.proofs.Plains.{IsPlainKind}

module _ (W : World) (T : Ordered W.program) (Y : ProgramTyped W) (R : Regular W.program) where
  abbrev pub CallsNext : Next → Type 0
  CallsNext (Goes st) = Calls W.program st.heap st.top st.waiting
  CallsNext (Ends e st) = Unit {0}
  CallsNext Stuck = Unit {0}

  -- `this` of a frame that is entered
  first_given : (m b : ℕ) → body_of (method_at W.program m) ≡ Some b → static_of (method_at W.program m) ≡ false → (n : ℕ) × (regs_of (body_at W.program b) ≡ suc n)
  first_given m b is s =
      let t = method_body W.program R m b is in
      let x : Body = t.0 in
      let front : FrontOf (given_bases W.program m) x.regs = subst (λ z. FrontOf (given_bases W.program z) x.regs) t.2 (R.bodies b x t.1).front in
      let some = front_some (Ref (record { 0 = class_of (method_at W.program m) })) (params_of (method_at W.program m)) x.regs (subst (λ ts. FrontOf ts x.regs) (given_this W.program m s) front) in
      (some.0, ap regs_of t.1 ∙ some.1)

  this_entered : (m b : ℕ) → body_of (method_at W.program m) ≡ Some b → static_of (method_at W.program m) ≡ false → (v : Value) (vs : List Value) → HasThis W.program (entered W.program b (v ∷ vs)) v
  this_entered m b is s v vs =
      let n = first_given m b is s in
      record { instance = ap static_of (body_method W.program R m b is) ∙ s; held = subst (λ k. value_at (pad (v ∷ vs) k) 0 ≡ Some v) (sym n.1) refl }

  module _ (st : State) (typed : StateTyped W st) (calls : Calls W.program st.heap st.top st.waiting) (pt : Point) (is : point_at W.program st.top.body st.top.at ≡ Some pt) where
    entered_calls : (after : List Thing) → ((o c : ℕ) → class_at st.heap o ≡ Some c → class_at after o ≡ Some c) → (m : ℕ) (vs : List Value) → ((b : ℕ) → body_of (method_at W.program m) ≡ Some b → Entered W.program after (entered W.program b vs) st.top pt.kind) → (deep : Bool) (x : Option ℕ) → body_of (method_at W.program m) ≡ x → CallsNext (enter W.program deep st after x vs)
    entered_calls after classes m vs e true x ib = tt
    entered_calls after classes m vs e false None ib = tt
    entered_calls after classes m vs e false (Some b) ib =
        (subst (λ o. EnteredAt W.program after (entered W.program b vs) st.top o) (sym is) (e b ib), calls_on W.program st.heap after st.top st.top (on_itself W.program st.heap after st.top classes) st.waiting calls)

    enters_calls : (after : List Thing) → ((o c : ℕ) → class_at st.heap o ≡ Some c → class_at after o ≡ Some c) → (m : ℕ) (vs : List Value) → ((b : ℕ) → body_of (method_at W.program m) ≡ Some b → Entered W.program after (entered W.program b vs) st.top pt.kind) → CallsNext (enters W.program st after m vs)
    enters_calls after classes m vs e = entered_calls after classes m vs e (ltb st.limits.deepest (length st.waiting + 2)) (body_of (method_at W.program m)) refl

    same_classes : (o c : ℕ) → class_at st.heap o ≡ Some c → class_at st.heap o ≡ Some c
    same_classes o c h = h

    new_calls : (dst : RegNo) (m : MethodNo) (args : List Operand) → pt.kind ≡ New dst m args → ctor_of (method_at W.program m.0) ≡ true → (vs : Option (List Value)) → CallsNext (news W.program st m.0 vs)
    new_calls dst m args e c None = tt
    new_calls dst m args e c (Some vs) =
        let made : Thing = Object (class_of (method_at W.program m.0)) (defaults W.program.fields) in
        enters_calls (st.heap ++ made ∷ []) (push_class st.heap made) m.0 (At (length st.heap) ∷ vs)
        (λ b ib. subst (λ k. Entered W.program (st.heap ++ made ∷ []) (entered W.program b (At (length st.heap) ∷ vs)) st.top k) (sym e) (record {
          runs = ib;
          object = length st.heap;
          this = this_entered m.0 b ib (ctor_static W.program R m.0 c) (At (length st.heap)) vs;
          class = ap class_in (append_last st.heap made);
        }))

    ctor_calls_on : (m : MethodNo) (args : List Operand) (own : Bool) → pt.kind ≡ CtorCall m args own → ctor_of (method_at W.program m.0) ≡ true → (this : Option Value) → value_at st.top.regs 0 ≡ this → (vs : Option (List Value)) → CallsNext (ctor_calls W.program st m.0 this vs)
    ctor_calls_on m args own e c this it None = tt
    ctor_calls_on m args own e c None it (Some vs) = tt
    ctor_calls_on m args own e c (Some v) it (Some vs) =
        enters_calls st.heap same_classes m.0 (v ∷ vs)
        (λ b ib. subst (λ k. Entered W.program st.heap (entered W.program b (v ∷ vs)) st.top k) (sym e) (record {
          runs = ib;
          value = v;
          this = this_entered m.0 b ib (ctor_static W.program R m.0 c) v vs;
          caller = it;
        }))

    static_calls : (dst : Option RegNo) (m : MethodNo) (direct : Bool) (args : List Operand) → pt.kind ≡ Call dst m None direct args → (vs : Option (List Value)) → CallsNext (spec.calls W.program st m.0 None direct vs)
    static_calls dst m direct args e None = tt
    static_calls dst m direct args e (Some vs) = enters_calls st.heap same_classes m.0 vs (λ b ib. subst (λ k. Entered W.program st.heap (entered W.program b vs) st.top k) (sym e) ib)

    module _ (dst : Option RegNo) (m : MethodNo) (r : Operand) (direct : Bool) (args : List Operand) (e : pt.kind ≡ Call dst m (Some r) direct args) where
      on_method : (o : ℕ) → value_at st.top.regs r.reg.0 ≡ Some (At o) → (vs : List Value) (k : Option ℕ) → selected W.program st.heap o m.0 direct ≡ k → CallsNext (spec.calls_on W.program st k (At o ∷ vs))
      on_method o held vs None s = tt
      on_method o held vs (Some k) s =
          let u = (selects_on W T Y st typed pt dst m r direct args is e (subst (λ k. PointTyped W.program st.top.body k) e (Y.points st.top.body st.top.at pt is)) o k held s).0 in
          enters_calls st.heap same_classes k (At o ∷ vs)
          (λ b ib. subst (λ k. Entered W.program st.heap (entered W.program b (At o ∷ vs)) st.top k) (sym e) (record {
            object = o;
            receiver = held;
            this = this_entered k b ib u.over.instance (At o) vs;
            method = k;
            selects = s;
            runs = ib;
          }))

      on_object : (o : Option ℕ) → object_of (value_at st.top.regs r.reg.0) ≡ o → (vs : List Value) → CallsNext (calls_this W.program st o m.0 direct vs)
      on_object None io vs = tt
      on_object (Some o) io vs = on_method o (object_is (value_at st.top.regs r.reg.0) o io) vs (selected W.program st.heap o m.0 direct) refl

      this_calls : (vs : Option (List Value)) → CallsNext (spec.calls W.program st m.0 (Some r) direct vs)
      this_calls None = tt
      this_calls (Some vs) = on_object (object_of (value_at st.top.regs r.reg.0)) refl vs

    -- the frame below goes on
    module _ (w : Frame) (ws : List Frame) (q : Point) (at : point_at W.program w.body w.at ≡ Some q) (rest : Calls W.program st.heap w ws) where
      moved_calls : CallsNext (resumes st (moves_to w (w.at + 1)) ws)
      moved_calls = calls_on W.program st.heap st.heap w (moves_to w (w.at + 1)) (moved_on W.program st.heap w (w.at + 1)) ws rest

      given_calls : (dst : ℕ) → writes q.kind ≡ Some dst → (v : Option Value) → CallsNext (gives st w ws dst v)
      given_calls dst i None = tt
      given_calls dst i (Some v) =
          calls_on W.program st.heap st.heap w (holds_at w dst v)
          (record {
            body = refl;
            this = λ s. value_zero w.regs dst (Some v) (λ z. (point_regular W.program R w.body w.at q at).this_kept s (i ∙ ap (λ x. Some x) z));
            classes = same_classes;
          }) ws rest

      takes_calls : (this v : Option Value) (k : PointKind) → q.kind ≡ k → CallsNext (takes st w ws this v k)
      takes_calls this v (New dst m args) e = given_calls dst.0 (ap writes e) this
      takes_calls this v (CtorCall m args own) e = moved_calls
      takes_calls this v (Call None m r direct args) e = moved_calls
      takes_calls this v (Call (Some dst) m r direct args) e = given_calls dst.0 (ap writes e) v
      takes_calls this v k e = tt

    return_calls : (this v : Option Value) (ws : List Frame) → Calls W.program st.heap st.top ws → CallsNext (returns W.program st ws this v)
    return_calls this v [] c = tt
    return_calls this v (w ∷ ws) c = by (point_at W.program w.body w.at) refl
      where
        by : (o : Option Point) → point_at W.program w.body w.at ≡ o → CallsNext (takes_at st w ws this v o)
        by None at = tt
        by (Some q) at = takes_calls w ws q at c.1 this v q.kind refl

    stays_calls : (k : PointKind) (x : Next) → StaysNext W.program st k x → CallsNext x
    stays_calls k (Goes next) s = subst (λ ws. Calls W.program next.heap next.top ws) (sym s.waiting) (calls_on W.program st.heap next.heap st.top next.top s.on st.waiting calls)
    stays_calls k (Ends e end) s = tt
    stays_calls k Stuck s = tt

    plain_calls : (names : List (List ℕ)) (k : PointKind) → IsPlainKind k → RegularPoint W.program st.top.body st.top.at k → CallsNext (act W.program names st k)
    plain_calls names k p g = stays_calls k (act W.program names st k) (kind_stays W.program st names k p g.this_kept)

    pub kind_calls : (names : List (List ℕ)) (k : PointKind) → pt.kind ≡ k → RegularPoint W.program st.top.body st.top.at k → CallsNext (act W.program names st k)
    kind_calls names (New dst m args) e g = new_calls dst m args e g.methods.0 (gather st.top.regs args)
    kind_calls names (CtorCall m args own) e g = ctor_calls_on m args own e g.methods.0 (value_at st.top.regs 0) refl (gather st.top.regs args)
    kind_calls names (Call dst m None direct args) e g = static_calls dst m direct args e (gather st.top.regs args)
    kind_calls names (Call dst m (Some r) direct args) e g = this_calls dst m r direct args e (gather st.top.regs args)
    kind_calls names (Return v) e g = return_calls (value_at st.top.regs 0) (value_of st.top.regs v) st.waiting calls
    kind_calls names k e g = plain_calls names k tt g
