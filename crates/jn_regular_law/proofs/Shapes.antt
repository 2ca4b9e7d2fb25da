-- Regular programs have the shapes on which the flow of facts and the construction of objects rest.
use Rattle.std.proofs.Common.{◌≡◌, ◌<◌, ◌≤◌, ℕ, Bool, true, false, ◌⊎◌, inl, inr, List, length, Option, Some, None, refl, sym, ap, ◌∙◌, subst, eqb, arith}
use Rattle.std.specs.Prelude.{slice_get}
use Rattle.std.proofs.lemmas.Bool.{eqb-true, cases_lt}
use Rattle.jn_base.specs.declared.number.ClassNo.{ClassNo}
use Rattle.jn_base.specs.declared.number.MethodNo.{MethodNo}
use Rattle.jn_points.specs.declared.point.Operand.{Operand}
use Rattle.jn_points.specs.declared.point.Point.{Point}
use Rattle.jn_points.specs.declared.point.PointKind.{PointKind}
use Rattle.jn_points.specs.declared.point.PointKind.TheVariants.{New, CtorCall, Call, Return}
use Rattle.jn_points.specs.declared.program.Body.{Body}
use Rattle.jn_points.specs.declared.program.Method.{Method}
use Rattle.jn_points.specs.declared.program.Program.{Program}
use Rattle.jn_points.specs.Edges.{edges_of}
use Rattle.jn_points.specs.Lookup.{points_of, parent_of, class_info, class_of, ctor_of, static_of, private_of, params_of, slots_of, body_at, method_at, method_in, method_of_body, owner, point_at}
use Rattle.jn_points.specs.Members.{has_field}
use Rattle.jn_points.specs.Shaped.{ArgsMatch, Chains, Early, IsObjectClass, IsVirtual, LeadsTo, Names, NotCtorCall, NotEarlyReturn, Passes, RegularPoint, Shaped, StartsRegular, test_at, test_in}
use Rattle.jn_points.specs.Regular.{ArgumentsMatch, CallsCtor, CtorCallAt, IsConcrete, IsParent, NamesMethods, Regular, RegularCtorCall, UnderObject, RegularPoint as PointRegular}
use Rattle.jn_soundness.proofs.Overriding.{slots_length}
use Rattle.jn_soundness.proofs.Basics.{body_there}
use Rattle.jn_regular_law.proofs.Bodies.{ctor_static, ctor_there, ctor_this, method_body, no_object_field, own_or_parent}

same_point : (P : Program) (b p : ℕ) (x y : Point) → point_at P b p ≡ Some x → point_at P b p ≡ Some y → x ≡ y
same_point P b p x y hx hy = let same : Some x ≡ Some y = sym hx ∙ hy in cc

no_ctor_call : (k : PointKind) (m : MethodNo) (args : List Operand) (own : Bool) → k ≡ CtorCall m args own → NotCtorCall k → ⊥
no_ctor_call k m args own e n = subst NotCtorCall e n

module _ (P : Program) (R : Regular P) where
  no_test_first : (b : ℕ) → test_at P b 0 ≡ None
  no_test_first b = by (body_at P b) refl
    where
      by : (o : Option Body) → body_at P b ≡ o → test_at P b 0 ≡ None
      by None e = ap (λ o. test_in (slice_get (points_of o) 0)) e
      by (Some x) e = (R.bodies b x e).entry

  at_early : (b p : ℕ) (E : Early P b p) → CtorCallAt P b E.place E.ctor.0 E.own
  at_early b p E = record { pt = E.pt; args = E.args; there = E.point; calls = E.calls }

  call_of : (b p : ℕ) (x : Body) → body_at P b ≡ Some x → (E : Early P b p) → RegularCtorCall P R.ctor_rank b E.place E.ctor.0 E.own
  call_of b p x e E = (R.bodies b x e).ctor_calls E.place E.ctor.0 E.own (at_early b p E)

  -- constructors start before the call of another one, or their objects have no field but their class's own
  object_fields : (c : ℕ) → UnderObject P c → (f : ℕ) → has_field P c f ≡ true → owner P f ≡ c
  object_fields c (inl e) f h = absurd (no_object_field P R f (subst (λ c. has_field P c f ≡ true) e h))
  object_fields c (inr u) f h = by (own_or_parent P R c f h)
    where
      by : (owner P f ≡ c) ⊎ ((p : ClassNo) × (parent_of (class_info P c) ≡ Some p) × (has_field P p.0 f ≡ true)) → owner P f ≡ c
      by (inl e) = e
      by (inr p) =
          let same : Some (record { 0 = 0 }) ≡ Some p.0 = sym u ∙ p.1 in
          let top : 0 ≡ p.0.0 = cc in
          absurd (no_object_field P R f (subst (λ c. has_field P c f ≡ true) (sym top) p.2))

  starts_early : (b : ℕ) → StartsRegular P b
  starts_early b c = by (body_at P b) refl c
    where
      from : CallsCtor P b ⊎ UnderObject P (class_of (method_in P b)) → Early P b 0 ⊎ ((f : ℕ) → has_field P (class_of (method_in P b)) f ≡ true → owner P f ≡ class_of (method_in P b))
      from (inl k) = inl (record { place = k.0; pt = k.3.pt; ctor = record { 0 = k.1 }; args = k.3.args; own = k.2; point = k.3.there; calls = k.3.calls; before = omega arith })
      from (inr u) = inr (object_fields (class_of (method_in P b)) u)

      by : (o : Option Body) → body_at P b ≡ o → ctor_of (method_of_body P o) ≡ true → Early P b 0 ⊎ ((f : ℕ) → has_field P (class_of (method_in P b)) f ≡ true → owner P f ≡ class_of (method_in P b))
      by None e h = cc
      by (Some x) e h = from ((R.bodies b x e).calls c)

  -- what a constructor calls
  chains : (b p : ℕ) (pt : Point) → point_at P b p ≡ Some pt → (m : MethodNo) (args : List Operand) (own : Bool) → pt.kind ≡ CtorCall m args own → ctor_of (method_at P m.0) ≡ true → Chains P b m.0 own
  chains b p pt is m args own k c =
      let x = body_there P b p pt is in
      let r : RegularCtorCall P R.ctor_rank b p m.0 own = (R.bodies b x.0 x.1).ctor_calls p m.0 own (record { pt = pt; args = args; there = is; calls = k }) in
      record { ctor = c; inside = r.inside; same = r.same; fields = fields own r }
    where
      above : IsParent P (class_of (method_in P b)) (class_of (method_at P m.0)) → (f : ℕ) → (owner P f ≡ class_of (method_in P b)) ⊎ ((q : ClassNo) × (parent_of (class_info P (class_of (method_in P b))) ≡ Some q) × (has_field P q.0 f ≡ true)) → (owner P f ≡ class_of (method_in P b)) ⊎ (has_field P (class_of (method_at P m.0)) f ≡ true)
      above u f (inl e) = inl e
      above u f (inr q) =
          let both : Some (record { 0 = class_of (method_at P m.0) }) ≡ Some q.0 = sym u ∙ q.1 in
          let same : class_of (method_at P m.0) ≡ q.0.0 = cc in
          inr (subst (λ c. has_field P c f ≡ true) (sym same) q.2)

      fields : (own : Bool) → RegularCtorCall P R.ctor_rank b p m.0 own → (f : ℕ) → has_field P (class_of (method_in P b)) f ≡ true → (owner P f ≡ class_of (method_in P b)) ⊎ (has_field P (class_of (method_at P m.0)) f ≡ true)
      fields true r f h = inr (subst (λ c. has_field P c f ≡ true) (sym (r.same refl)) h)
      fields false r f h = above (r.above refl) f (own_or_parent P R (class_of (method_in P b)) f h)

  object_class : (m : ℕ) → ctor_of (method_at P m) ≡ true → IsConcrete P (class_of (method_at P m)) → IsObjectClass P (class_of (method_at P m))
  object_class m c k = record { info = k.0; there = k.1; class = k.2; no_string = by (eqb (class_of (method_at P m)) 1) refl }
    where
      by : (t : Bool) → eqb (class_of (method_at P m)) 1 ≡ t → t ≡ false
      by false e = refl
      by true e =
          let y = ctor_there P m c in
          let string : y.0.owner.0 ≡ 1 = ap class_of (sym y.1) ∙ eqb-true (class_of (method_at P m)) 1 e in
          absurd ((R.methods m y.0 y.1).of_string string)

  virtual : (m : ℕ) → ctor_of (method_at P m) ≡ false → static_of (method_at P m) ≡ false → private_of (method_at P m) ≡ false → IsVirtual P m
  virtual m c s p = by (method_at P m) refl c s p
    where
      by : (o : Option Method) → method_at P m ≡ o → ctor_of o ≡ false → static_of o ≡ false → private_of o ≡ false → IsVirtual P m
      by None e c s p = cc
      by (Some x) e c s p = record { info = x; there = e; method = c; instance = s; open_to_all = p }

  args_match : (m : ℕ) (args : List Operand) → ArgumentsMatch P m args → ArgsMatch P m args
  args_match m args h = h ∙ by (method_at P m) refl
    where
      by : (o : Option Method) → method_at P m ≡ o → length (params_of o) ≡ length (slots_of o)
      by None e = refl
      by (Some x) e = sym (slots_length x.param_slots x.params (R.methods m x e).params)

  passes : (k : PointKind) → NamesMethods P k → Passes P k
  passes (New dst m args) h = args_match m.0 args h.2
  passes (CtorCall m args own) h = args_match m.0 args h.1
  passes (Call dst m r direct args) h = (args_match m.0 args h.1, h.2)
  passes k h = tt

  module _ (b p : ℕ) (pt : Point) (is : point_at P b p ≡ Some pt) (x : Body) (there : body_at P b ≡ Some x) where
    names : (k : PointKind) → pt.kind ≡ k → NamesMethods P k → Names P b k
    names (New dst m args) e h = (h.0, object_class m.0 h.0 h.1)
    names (CtorCall m args own) e h = chains b p pt is m args own e h.0
    names (Call dst m (Some r) false args) e h = (h.0, virtual m.0 h.0 h.2 h.3)
    names (Call dst m (Some r) true args) e h = (h.0, tt)
    names (Call dst m None direct args) e h = (h.0, tt)
    names k e h = tt

    -- an edge that leads past a constructor call is the call's own
    early : (to : ℕ) → LeadsTo (edges_of pt.kind p) to → NotCtorCall pt.kind → Early P b p → Early P b to
    early to l n E = by (cases_lt E.place to)
      where
        by : (E.place < to) ⊎ (to ≤ E.place) → Early P b to
        by (inl past) =
            let at : p ≡ E.place = (call_of b p x there E).passed p to pt is E.before l past in
            let same : pt ≡ E.pt = same_point P b p pt E.pt is (subst (λ q. point_at P b q ≡ Some E.pt) (sym at) E.point) in
            absurd (no_ctor_call pt.kind E.ctor E.args E.own (ap (λ y. y.kind) same ∙ E.calls) n)
        by (inr before) = record { place = E.place; pt = E.pt; ctor = E.ctor; args = E.args; own = E.own; point = E.point; calls = E.calls; before = before }

    no_early_return : (k : PointKind) → pt.kind ≡ k → NotEarlyReturn P b p k
    no_early_return (Return v) e = λ E. (call_of b p x there E).no_return p pt v is E.before e
    no_early_return k e = tt

    point_shaped : PointRegular P b p pt.kind → RegularPoint P b p pt.kind
    point_shaped r = record {
      edges = λ to l. record { test = r.tests to l; early = early to l };
      this_kept = λ c w. r.this_kept (not_static c) w;
      names = names pt.kind refl r.methods;
      passes = passes pt.kind r.methods;
      end = λ c. no_early_return pt.kind refl;
    }
      where
        not_static : ctor_of (method_in P b) ≡ true → static_of (method_in P b) ≡ false
        not_static c =
            let its : method_in P b ≡ method_at P x.method.0 = ap (method_of_body P) there in
            ap static_of its ∙ ctor_static P R x.method.0 (ap ctor_of (sym its) ∙ c)

  ctor_body : (b : ℕ) → ctor_of (method_in P b) ≡ true → (x : Body) × (body_at P b ≡ Some x)
  ctor_body b c = by (body_at P b) refl c
    where
      by : (o : Option Body) → body_at P b ≡ o → ctor_of (method_of_body P o) ≡ true → (x : Body) × (body_at P b ≡ Some x)
      by None e c = cc
      by (Some x) e c = (x, e)

  pub regular_shaped : Shaped P
  regular_shaped = record {
    bodies = method_body P R;
    entered = λ b x e. (R.bodies b x e).some;
    entry_test = no_test_first;
    entry_early = starts_early;
    points = λ b p pt is. let x = body_there P b p pt is in point_shaped b p pt is x.0 x.1 ((R.bodies b x.0 x.1).points p pt is);
    ctor_this = ctor_static P R;
    ctor_regs = λ b c. let x = ctor_body b c in (ctor_this P R b x.0 x.1 c).1;
    fields = λ f x e. (R.fields f x e).slot;
    params = λ m x e. (R.methods m x e).params;
    mains = λ m x e h. let r = (R.methods m x e).main h in (r.0, r.1);
  }
