-- Constructors call each other along superclasses, which end on what they build.
use Rattle.std.proofs.Common.{◌≡◌, ℕ, zero, suc, Bool, true, false, ◌⊎◌, inl, inr, List, [], ◌∷◌, Some, refl, sym, ap, ◌∙◌, subst, ◌+◌, ◌<◌, arith, ◌≤◌}
use Rattle.std.specs.Prelude.{eqb}
use Rattle.jn_base.specs.declared.number.ClassNo.{ClassNo}
use Rattle.jn_base.specs.declared.number.MethodNo.{MethodNo}
use Rattle.jn_points.specs.declared.point.Operand.{Operand}
use Rattle.jn_points.specs.declared.point.Point.{Point}
use Rattle.jn_points.specs.declared.point.PointKind.TheVariants.{CtorCall}
use Rattle.jn_heap.specs.State.{Frame}
use Rattle.jn_points.specs.Lookup.{body_of, class_of, method_at, method_in, point_at, ctor_of, class_info, parent_of}
use Rattle.jn_points.specs.Shaped.{Early, LeadsTo, NotCtorCall, Shaped}
use Rattle.jn_soundness.specs.Marks.{Marks, FrameMark}
use Rattle.jn_soundness.specs.Heaps.{IsMember}
use Rattle.jn_soundness.proofs.Basics.{body_there}
use Rattle.jn_points.specs.Edges.{edges_of}
use Rattle.jn_points.specs.declared.program.Program.{Program}
use Rattle.jn_points.specs.Members.{some_of}
use Rattle.jn_points.specs.Regular.{Regular, CtorCallAt, RegularCtorCall, CallsCtor, UnderObject}
use Rattle.jn_regular_law.proofs.Bodies.{body_method, method_body}
use Rattle.std.proofs.lemmas.Bool.{cases_lt}
use Rattle.jn_good_law.specs.Construction.{HasEnded, Above, SuperclassesEnded, Chained, FrameBuilds, AllBuild}
use Rattle.jn_good_law.proofs.Marks.{After}

pub ended_more : (d e : ℕ) (ended more : List ℕ) → ((c : ℕ) → IsMember c ended → IsMember c more) → HasEnded d ended → HasEnded d more
ended_more d e ended more f (inl x) = inl x
ended_more d e ended more f (inr x) = inr (f d x)

module _ (P : Program) where
  supers_more : {X : Type 0} → (c : ℕ) (ended more : List ℕ) → ((d : ℕ) → IsMember d ended → IsMember d more) → X ⊎ SuperclassesEnded P c ended → X ⊎ SuperclassesEnded P c more
  supers_more c ended more f (inl x) = inl x
  supers_more c ended more f (inr s) = inr (λ n d a. by d (s n d a))
    where
      by : (d : ℕ) → (d ≡ c) ⊎ HasEnded d ended → (d ≡ c) ⊎ HasEnded d more
      by d (inl e) = inl e
      by d (inr h) = inr (ended_more d d ended more f h)

  pub chained_more : (b at : ℕ) (ended more : List ℕ) → ((d : ℕ) → IsMember d ended → IsMember d more) → Chained P b at ended → Chained P b at more
  chained_more b at ended more f c = record { supers = supers_more (class_of (method_in P b)) ended more f c.supers; own = λ p m x l. f (class_of (method_in P b)) (c.own p m x l) }

  same_point : (b p : ℕ) (x y : Point) → point_at P b p ≡ Some x → point_at P b p ≡ Some y → x ≡ y
  same_point b p x y hx hy = let same : Some x ≡ Some y = sym hx ∙ hy in cc

  module _ (R : Regular P) where
    -- Object stands under no class
    topmost : (q : ClassNo) → parent_of (class_info P 0) ≡ Some q → ⊥
    topmost q h =
        let C = R.classes in
        let is : C.object.parent ≡ Some q = sym (ap parent_of C.object_there) ∙ h in
        let there : some_of (λ t. eqb t.0 q.0) C.object.supers ≡ true = (C.classes 0 C.object C.object_there).parent q is in
        let bad : false ≡ true = subst (λ xs. some_of (λ t. eqb t.0 q.0) xs ≡ true) C.above_object there in
        cc

    above_object : (n d : ℕ) → Above P n 0 d → d ≡ 0
    above_object zero d a = sym a
    above_object (suc n) d a = absurd (topmost a.0 a.1)

    -- nothing but Object stands above the class of a constructor that calls no other
    under_object : (c : ℕ) → UnderObject P c → (ended : List ℕ) → SuperclassesEnded P c ended
    under_object c u ended zero d a = inl (sym a)
    under_object c (inl e) ended (suc n) d a = absurd (topmost a.0 (subst (λ x. parent_of (class_info P x) ≡ Some a.0) e a.1))
    under_object c (inr p) ended (suc n) d a =
        let same : Some (record { 0 = 0 }) ≡ Some a.0 = sym p ∙ a.1 in
        let top : 0 ≡ a.0.0 = cc in
        inr (inl (above_object n d (subst (λ x. Above P n x d) (sym top) a.2)))

    -- a constructor's first point
    pub chain_starts : (m b : ℕ) → body_of (method_at P m) ≡ Some b → ctor_of (method_at P m) ≡ true → (ended : List ℕ) → Chained P b 0 ended
    chain_starts m b is c ended =
        let t = method_body P R m b is in
        record { supers = by ((R.bodies b t.0 t.1).calls (ap ctor_of (body_method P R m b is) ∙ c)); own = λ p k x l. absurd (omega (arith, l)) }
      where
        by : CallsCtor P b ⊎ UnderObject P (class_of (method_in P b)) → Early P b 0 ⊎ SuperclassesEnded P (class_of (method_in P b)) ended
        by (inl k) = inl (record { place = k.0; pt = k.3.pt; ctor = record { 0 = k.1 }; args = k.3.args; own = k.2; point = k.3.there; calls = k.3.calls; before = omega arith })
        by (inr u) = inr (under_object (class_of (method_in P b)) u ended)

    -- along an edge of a point that is no constructor call
    pub chain_moves : Shaped P → (b p to : ℕ) (pt : Point) → point_at P b p ≡ Some pt → NotCtorCall pt.kind → LeadsTo (edges_of pt.kind p) to → (ended : List ℕ) → Chained P b p ended → Chained P b to ended
    chain_moves S b p to pt is n l ended c = record { supers = by c.supers; own = λ q k x past. own q k x past (cases_lt q p) }
      where
        by : Early P b p ⊎ SuperclassesEnded P (class_of (method_in P b)) ended → Early P b to ⊎ SuperclassesEnded P (class_of (method_in P b)) ended
        by (inl e) = inl (((S.points b p pt is).edges to l).early n e)
        by (inr s) = inr s

        own : (q k : ℕ) (x : CtorCallAt P b q k true) → q < to → (q < p) ⊎ (p ≤ q) → IsMember (class_of (method_in P b)) ended
        own q k x past (inl h) = c.own q k x h
        own q k x past (inr h) =
            let body = body_there P b p pt is in
            let at : p ≡ q = ((R.bodies b body.0 body.1).ctor_calls q k true x).passed p to pt is h l past in
            let same : pt ≡ x.pt = same_point b p pt x.pt is (subst (λ z. point_at P b z ≡ Some x.pt) (sym at) x.there) in
            absurd (subst NotCtorCall (ap (λ y. y.kind) same ∙ x.calls) n)

    -- past a constructor call, whose class has ended
    module _ (b p : ℕ) (pt : Point) (is : point_at P b p ≡ Some pt) (m : MethodNo) (args : List Operand) (own : Bool) (kind : pt.kind ≡ CtorCall m args own) where
      abbrev d : ℕ
      d = class_of (method_at P m.0)

      abbrev call : RegularCtorCall P R.ctor_rank b p m.0 own
      call = let body = body_there P b p pt is in (R.bodies b body.0 body.1).ctor_calls p m.0 own (record { pt = pt; args = args; there = is; calls = kind })

      callee : (ended : List ℕ) (x : ℕ) → (x ≡ d) ⊎ HasEnded x ended → HasEnded x (d ∷ ended)
      callee ended x (inl e) = inr (inl e)
      callee ended x (inr h) = ended_more x x ended (d ∷ ended) (λ c y. inr y) h

      supers_called : (ended : List ℕ) → SuperclassesEnded P d ended → (t : Bool) → own ≡ t → SuperclassesEnded P (class_of (method_in P b)) (d ∷ ended)
      supers_called ended s true e n x a = inr (callee ended x (s n x (subst (λ c. Above P n c x) (sym (call.same e)) a)))
      supers_called ended s false e zero x a = inl (sym a)
      supers_called ended s false e (suc n) x a =
          let both : Some (record { 0 = d }) ≡ Some a.0 = sym (call.above e) ∙ a.1 in
          let same : d ≡ a.0.0 = cc in
          inr (callee ended x (s n x (subst (λ c. Above P n c x) (sym same) a.2)))

      is_own : (k : ℕ) (x : CtorCallAt P b p k true) → own ≡ true
      is_own k x =
          let same : pt ≡ x.pt = same_point b p pt x.pt is x.there in
          let both : CtorCall m args own ≡ CtorCall (record { 0 = k }) x.args true = sym kind ∙ (ap (λ y. y.kind) same ∙ x.calls) in
          cc

      pub chain_called : (ended : List ℕ) → SuperclassesEnded P d ended → Chained P b (p + 1) (d ∷ ended)
      chain_called ended s = record {
        supers = inr (supers_called ended s own refl);
        own = λ q k x past.
            let at : q ≡ p = call.one q k true x in
            inl (sym (call.same (is_own k (subst (λ z. CtorCallAt P b z k true) at x))));
      }

  -- frames under later marks
  pub frame_after : (m n : Marks) → After m n → (f : Frame) (g : FrameMark) → FrameBuilds P m f g → FrameBuilds P n f g
  frame_after m n x f g h o is =
      let b = h o is in
      record { born = x.born o b.born; chained = λ ended e. let y = x.free o g.era ended b.born e in chained_more f.body f.at y.before ended y.more (b.chained y.before y.was) }

  pub all_after : (m n : Marks) → After m n → (fs : List Frame) (gs : List FrameMark) → AllBuild P m fs gs → AllBuild P n fs gs
  all_after m n x [] gs h = tt
  all_after m n x (f ∷ fs) [] h = tt
  all_after m n x (f ∷ fs) (g ∷ gs) h = (frame_after m n x f g h.0, all_after m n x fs gs h.1)
