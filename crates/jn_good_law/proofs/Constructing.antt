-- Each step keeps what has been constructed.
use Rattle.jn_points.specs.Regular.{RegularPoint, Regular}
use Rattle.std.proofs.Common.{◌≡◌, ℕ, Bool, true, false, ◌⊎◌, inl, inr, List, [], ◌∷◌, ◌++◌, length, Option, Some, None, refl, sym, ap, ◌∙◌, subst, ◌+◌, ltb}
use Rattle.std.specs.Prelude.{slice_get}
use Rattle.jn_base.specs.declared.number.MethodNo.{MethodNo}
use Rattle.jn_points.specs.declared.point.Operand.{Operand}
use Rattle.jn_points.specs.declared.point.Point.{Point}
use Rattle.jn_points.specs.declared.point.PointKind.{PointKind}
use Rattle.jn_points.specs.declared.point.PointKind.TheVariants.{NewArray, ArrayOf, New, CtorCall, Call, Return}
use Rattle.jn_heap.specs.Values.{At, Elems, Object, Thing, Value, defaults}
use Rattle.jn_heap.specs.Calls as spec
use Rattle.jn_heap.specs.State.{Ends, Frame, Goes, Next, State, Stuck, gather, holds_at, object_of, value_at, value_of, moves_to}
use Rattle.jn_heap.specs.Calls.{calls_this, class_in, ctor_calls, enter, gives, news, returns, selected, takes, takes_at, entered, class_at, enters}
use Rattle.jn_heap.specs.Runs.{act}
use Rattle.jn_soundness.specs.World.{World, env_at}
use Rattle.jn_points.specs.Lookup.{body_of, class_of, method_at, method_in, point_at, slots_of, ctor_of}
use Rattle.jn_soundness.proofs.Basics.{eqb_cases}
use Rattle.jn_soundness.proofs.Grows.{past_end, mark_same, mark_other}
use Rattle.jn_points.specs.Shaped.{Early, LeadsTo, NotCtorCall, Shaped, NotEarlyReturn}
use Rattle.jn_soundness.specs.Marks.{Committed, Marking, Marks, births, mark_by, FrameMark, Free, Unborn, enters_shared, enters_new, shares_era, with_mark, end_on, close_era, resumes_with}
use Rattle.jn_soundness.specs.Marked.{Marked}
use Rattle.jn_soundness.specs.Frames.{CtorOk}
use Rattle.jn_soundness.specs.Heaps.{Building, IsMember, ThingOk}
use Rattle.jn_soundness.specs.Calls.{Waiting, Waits, CtorWaits, WaitingFrame}
use Rattle.jn_points.specs.Edges.{edges_of}
use Rattle.jn_good_law.proofs.Straight.{StaysNext, kind_stays, push_class}
use Rattle.jn_soundness.proofs.Plains.{IsPlainKind}
use Rattle.jn_good_law.specs.Construction.{HasEnded, Above, ClassesEnded, SuperclassesEnded, Chained, Built, FrameBuilds, AllBuild, ObjectsBuilt, Constructs}
use Rattle.jn_good_law.proofs.Marks.{FreeBefore, After, after_itself, after_birth, left_after, left_before, left_ended}
use Rattle.jn_good_law.proofs.Chains.{ended_more, chained_more, chain_starts, chain_moves, chain_called, frame_after, all_after}
use Rattle.jn_soundness.proofs.Eras.{marked_free}

module _ (W : World) (S : Shaped W.program) (R : Regular W.program) where
  abbrev pub ConstructsNext : Marking → Next → Type 0
  ConstructsNext mk (Goes st) = Constructs W.program st mk
  ConstructsNext mk (Ends e st) = Unit {0}
  ConstructsNext mk Stuck = Unit {0}

  module _ (st : State) (mk : Marking) (good : Marked W st mk) (c : Constructs W.program st mk) (pt : Point) (is : point_at W.program st.top.body st.top.at ≡ Some pt) where
    unborn : mk.marks (length st.heap) ≡ Unborn
    unborn = subst (λ t. ThingOk W mk.marks (mk.top ∷ mk.waiting) (length st.heap) (mk.marks (length st.heap)) t) (past_end st.heap) (good.heap (length st.heap))

    -- a free object has a class
    free_class : (o a : ℕ) (ended : List ℕ) → mk.marks o ≡ Free a ended → (k : ℕ) × (class_at st.heap o ≡ Some k)
    free_class o a ended h = by (slice_get st.heap o) refl (subst (λ k. ThingOk W mk.marks (mk.top ∷ mk.waiting) o k (slice_get st.heap o)) h (good.heap o))
      where
        by : (x : Option Thing) → slice_get st.heap o ≡ x → ThingOk W mk.marks (mk.top ∷ mk.waiting) o (Free a ended) (slice_get st.heap o) → (k : ℕ) × (class_at st.heap o ≡ Some k)
        by None e t = let bad : Free a ended ≡ Unborn = subst (λ y. ThingOk W mk.marks (mk.top ∷ mk.waiting) o (Free a ended) y) e t in cc
        by (Some (Object k fs)) e t = (k, ap class_in e)
        by (Some (Elems b xs)) e t = let bad : Free a ended ≡ Committed = (subst (λ y. ThingOk W mk.marks (mk.top ∷ mk.waiting) o (Free a ended) y) e t).0 in cc

    -- objects that were free before, over a heap with the same classes
    objects_after : (n : Marks) (after : List Thing) (gs : List FrameMark) → ((o k : ℕ) → class_at st.heap o ≡ Some k → class_at after o ≡ Some k) → ((o a : ℕ) → Building (mk.top ∷ mk.waiting) o a → Building gs o a) →
        (o a k : ℕ) (ended : List ℕ) → FreeBefore mk.marks o a ended → class_at after o ≡ Some k → ClassesEnded W.program k ended ⊎ Building gs o a
    objects_after n after gs classes more o a k ended x h =
        let old = free_class o a x.before x.was in
        let both : Some old.0 ≡ Some k = sym (classes o old.0 old.1) ∙ h in
        let same : old.0 ≡ k = cc in
        by (c.objects o a k x.before x.was (old.1 ∙ ap Some same))
      where
        by : ClassesEnded W.program k x.before ⊎ Building (mk.top ∷ mk.waiting) o a → ClassesEnded W.program k ended ⊎ Building gs o a
        by (inl e) = inl (λ j d y. ended_more d d x.before ended x.more (e j d y))
        by (inr b) = inr (more o a b)

    -- the running frame goes on
    stays_constructs : (n : Marks) → After mk.marks n → ((o a : ℕ) (ended : List ℕ) → n o ≡ Free a ended → mk.marks o ≡ Free a ended) → NotCtorCall pt.kind → (x : Next) → StaysNext W.program st pt.kind x → ConstructsNext (record { marks = n; top = mk.top; waiting = mk.waiting; next = mk.next }) x
    stays_constructs n after back other (Goes next) s = record {
      objects = λ o a k ended h cl. objects_after n next.heap (mk.top ∷ mk.waiting) s.on.classes (λ o a b. b) o a k ended (record { before = ended; was = back o a ended h; more = λ d x. x }) cl;
      top = λ o b.
          let y = frame_after W.program mk.marks n after st.top mk.top c.top o b in
          record { born = y.born; chained = λ ended h. subst (λ z. Chained W.program z next.top.at ended) (sym s.on.body) (chain_moves W.program R S st.top.body st.top.at next.top.at pt is other s.leads ended (y.chained ended h)) };
      waiting = subst (λ ws. AllBuild W.program n ws mk.waiting) (sym s.waiting) (all_after W.program mk.marks n after st.waiting mk.waiting c.waiting);
    }
    stays_constructs n after back other (Ends e end) s = tt
    stays_constructs n after back other Stuck s = tt

    same_constructs : NotCtorCall pt.kind → (x : Next) → StaysNext W.program st pt.kind x → ConstructsNext mk x
    same_constructs other x s = stays_constructs mk.marks (after_itself mk.marks) (λ o a ended h. h) other x s

    array_constructs : NotCtorCall pt.kind → (x : Next) → StaysNext W.program st pt.kind x → ConstructsNext (births mk (length st.heap) Committed) x
    array_constructs other x s = stays_constructs (with_mark mk.marks (length st.heap) Committed) (after_birth mk.marks (length st.heap) Committed unborn) back other x s
      where
        back : (o a : ℕ) (ended : List ℕ) → with_mark mk.marks (length st.heap) Committed o ≡ Free a ended → mk.marks o ≡ Free a ended
        back o a ended h = by (marked_free mk.marks (length st.heap) Committed o a ended h)
          where
            by : (Committed ≡ Free a ended) ⊎ (mk.marks o ≡ Free a ended) → mk.marks o ≡ Free a ended
            by (inl e) = cc
            by (inr e) = e

    -- a frame is entered
    enter_constructs : (mk' : Marking) (after : List Thing) (m : ℕ) (vs : List Value) → ((b : ℕ) → body_of (method_at W.program m) ≡ Some b → Constructs W.program (record st { heap = after; top = entered W.program b vs; waiting = st.top ∷ st.waiting }) mk') → (deep : Bool) (x : Option ℕ) → body_of (method_at W.program m) ≡ x → ConstructsNext mk' (enter W.program deep st after x vs)
    enter_constructs mk' after m vs h true x ib = tt
    enter_constructs mk' after m vs h false None ib = tt
    enter_constructs mk' after m vs h false (Some b) ib = h b ib

    enters_constructs : (mk' : Marking) (after : List Thing) (m : ℕ) (vs : List Value) → ((b : ℕ) → body_of (method_at W.program m) ≡ Some b → Constructs W.program (record st { heap = after; top = entered W.program b vs; waiting = st.top ∷ st.waiting }) mk') → ConstructsNext mk' (enters W.program st after m vs)
    enters_constructs mk' after m vs h = enter_constructs mk' after m vs h (ltb st.limits.deepest (length st.waiting + 2)) (body_of (method_at W.program m)) refl

    -- by no new: `this` is built where a constructor is entered
    shared_constructs : (x : Option ℕ) (m : ℕ) (vs : List Value) → (x ≡ None) ⊎ ((x ≡ mk.top.built) × (ctor_of (method_at W.program m) ≡ true)) → ConstructsNext (enters_shared mk x) (enters W.program st st.heap m vs)
    shared_constructs x m vs ctor = enters_constructs (enters_shared mk x) st.heap m vs (λ b ib. record {
      objects = λ o a k ended h cl. more o a (c.objects o a k ended h cl);
      top = λ o e. top b ib o e ctor;
      waiting = (c.top, c.waiting);
    })
      where
        more : {X : Type 0} → (o a : ℕ) → X ⊎ Building (mk.top ∷ mk.waiting) o a → X ⊎ Building ((enters_shared mk x).top ∷ mk.top ∷ mk.waiting) o a
        more o a (inl e) = inl e
        more o a (inr e) = inr (inr e)

        top : (b : ℕ) → body_of (method_at W.program m) ≡ Some b → (o : ℕ) → x ≡ Some o → (x ≡ None) ⊎ ((x ≡ mk.top.built) × (ctor_of (method_at W.program m) ≡ true)) → Built W.program mk.marks (entered W.program b vs) (enters_shared mk x).top o
        top b ib o e (inl n) = let bad : Some o ≡ None = sym e ∙ n in cc
        top b ib o e (inr h) = record { born = (c.top o (sym h.0 ∙ e)).born; chained = λ ended f. chain_starts W.program R m b ib h.1 ended }

    -- by a new
    module _ (a next : ℕ) (opened : Bool) (m : ℕ) (vs : List Value) (ctor : ctor_of (method_at W.program m) ≡ true) where
      abbrev new_marks : Marks
      new_marks = with_mark mk.marks (length st.heap) (Free a [])

      abbrev new_frame : FrameMark
      new_frame = record { era = a; opened = opened; made = true; built = Some (length st.heap) }

      abbrev new_marking : Marking
      new_marking = record { marks = new_marks; top = new_frame; waiting = mk.top ∷ mk.waiting; next = next }

      abbrev thing : Thing
      thing = Object (class_of (method_at W.program m)) (defaults W.program.fields)

      abbrev after : List Thing
      after = st.heap ++ thing ∷ []

      born : After mk.marks new_marks
      born = after_birth mk.marks (length st.heap) (Free a []) unborn

      not_unborn : Free a [] ≡ Unborn → ⊥
      not_unborn h = cc

      objects_new : (o e k : ℕ) (ended : List ℕ) → class_at after o ≡ Some k → new_marks o ≡ Free e ended → (o ≡ length st.heap) ⊎ (o ≡ length st.heap → ⊥) → ClassesEnded W.program k ended ⊎ Building (new_frame ∷ mk.top ∷ mk.waiting) o e
      objects_new o e k ended cl h (inl s) =
          let now : Free a [] ≡ Free e ended = sym (ap new_marks s ∙ mark_same mk.marks (length st.heap) (Free a [])) ∙ h in
          let era : a ≡ e = cc in
          inr (inl (refl, ap Some (sym s), era))
      objects_new o e k ended cl h (inr s) = objects_after new_marks after (new_frame ∷ mk.top ∷ mk.waiting) (push_class st.heap thing) (λ o a b. inr b) o e k ended (record { before = ended; was = sym (mark_other mk.marks (length st.heap) o (Free a []) s) ∙ h; more = λ d x. x }) cl

      top_new : (b : ℕ) → body_of (method_at W.program m) ≡ Some b → (o : ℕ) → Some (length st.heap) ≡ Some o → Built W.program new_marks (entered W.program b (At (length st.heap) ∷ vs)) new_frame o
      top_new b ib o e =
          let same : length st.heap ≡ o = cc in
          record { born = λ u. not_unborn (sym (mark_same mk.marks (length st.heap) (Free a [])) ∙ (ap new_marks same ∙ u)); chained = λ ended f. chain_starts W.program R m b ib ctor ended }

      new_constructs : ConstructsNext new_marking (enters W.program st after m (At (length st.heap) ∷ vs))
      new_constructs = enters_constructs new_marking after m (At (length st.heap) ∷ vs) (λ b ib. record {
        objects = λ o e k ended h cl. objects_new o e k ended cl h (eqb_cases o (length st.heap));
        top = λ o e. top_new b ib o e;
        waiting = (frame_after W.program mk.marks new_marks born st.top mk.top c.top, all_after W.program mk.marks new_marks born st.waiting mk.waiting c.waiting);
      })

    -- a frame returns to the one below
    module _ (end : ctor_of (method_in W.program st.top.body) ≡ true → Early W.program st.top.body st.top.at → ⊥) (w : Frame) (ws : List Frame) (h : FrameMark) (hs : List FrameMark) (x : WaitingFrame W mk.marks st.heap st.top.body mk.top w h)
        (below : FrameBuilds W.program mk.marks w h) (rest : AllBuild W.program mk.marks ws hs) (objects : ObjectsBuilt W.program mk.marks st.heap (mk.top ∷ h ∷ hs)) where
      abbrev d : ℕ
      d = class_of (method_in W.program st.top.body)

      abbrev n : Marks
      n = close_era (end_on mk.marks mk.top.built d) mk.top.era mk.top.opened

      abbrev mk' : Marking
      mk' = record { marks = n; top = h; waiting = hs; next = mk.next }

      later : After mk.marks n
      later = left_after mk.marks d mk.top.era mk.top.opened mk.top.built

      -- all superclasses have ended on what the frame built
      supers : (o : ℕ) (before : List ℕ) → mk.top.built ≡ Some o → mk.marks o ≡ Free mk.top.era before → SuperclassesEnded W.program d before
      supers o before b f = by ((c.top o b).chained before f).supers
        where
          by : Early W.program st.top.body st.top.at ⊎ SuperclassesEnded W.program d before → SuperclassesEnded W.program d before
          by (inl e) = absurd (end (subst (λ y. CtorOk W mk.marks st.heap st.top mk.top y) b good.top.stands.ctor).inside e)
          by (inr s) = s

      made_class : (o : ℕ) → mk.top.built ≡ Some o → mk.top.made ≡ true → class_at st.heap o ≡ Some d
      made_class o b m = (subst (λ y. CtorOk W mk.marks st.heap st.top mk.top y) b good.top.stands.ctor).class m

      objects_left : ObjectsBuilt W.program n st.heap (h ∷ hs)
      objects_left o a k ended f cl = by (objects o a k y.before y.was cl)
        where
          y : FreeBefore mk.marks o a ended
          y = left_before mk.marks d mk.top.era mk.top.opened mk.top.built o a ended f

          by : ClassesEnded W.program k y.before ⊎ Building (mk.top ∷ h ∷ hs) o a → ClassesEnded W.program k ended ⊎ Building (h ∷ hs) o a
          by (inl e) = inl (λ j z u. ended_more z z y.before ended y.more (e j z u))
          by (inr (inr b)) = inr b
          by (inr (inl b)) = inl all
            where
              same : d ≡ k
              same = let both : Some d ≡ Some k = sym (made_class o b.1 b.0) ∙ cl in cc

              all : ClassesEnded W.program k ended
              all j z u = one (supers o y.before b.1 (y.was ∙ ap (λ e. Free e y.before) (sym b.2)) j z (subst (λ q. Above W.program j q z) (sym same) u))
                where
                  one : (z ≡ d) ⊎ HasEnded z y.before → HasEnded z ended
                  one (inl e) = inr (subst (λ q. IsMember q ended) (sym e) (left_ended mk.marks d mk.top.era mk.top.opened mk.top.built o a ended b.1 f))
                  one (inr e) = ended_more z z y.before ended y.more e

      resumed : (f : Frame) → f.body ≡ w.body → f.at ≡ w.at + 1 → ((o : ℕ) → h.built ≡ Some o → (ended : List ℕ) → n o ≡ Free h.era ended → Chained W.program w.body (w.at + 1) ended) → Constructs W.program (record st { top = f; waiting = ws }) mk'
      resumed f body at chain = record {
        objects = objects_left;
        top = λ o b. record {
          born = later.born o (below o b).born;
          chained = λ ended e. subst (λ z. Chained W.program z f.at ended) (sym body) (subst (λ z. Chained W.program w.body z ended) (sym at) (chain o b ended e));
        };
        waiting = all_after W.program mk.marks n later ws hs rest;
      }

      -- a call or a new goes on
      moves_on : (k : PointKind) → x.pt.kind ≡ k → NotCtorCall k → LeadsTo (edges_of k w.at) (w.at + 1) → (o : ℕ) → h.built ≡ Some o → (ended : List ℕ) → n o ≡ Free h.era ended → Chained W.program w.body (w.at + 1) ended
      moves_on k e other l o b ended f =
          chain_moves W.program R S w.body w.at (w.at + 1) x.pt x.point (subst NotCtorCall (sym e) other) (subst (λ k. LeadsTo (edges_of k w.at) (w.at + 1)) (sym e) l) ended
          ((frame_after W.program mk.marks n later w h below o b).chained ended f)

      -- so does a constructor call
      calls_on_this : (m : MethodNo) (args : List Operand) (own : Bool) → x.pt.kind ≡ CtorCall m args own → CtorWaits W st.top.body mk.top h (method_at W.program m.0) → (o : ℕ) → h.built ≡ Some o → (ended : List ℕ) → n o ≡ Free h.era ended → Chained W.program w.body (w.at + 1) ended
      calls_on_this m args own e i o b ended f =
          let y = left_before mk.marks d mk.top.era mk.top.opened mk.top.built o h.era ended f in
          let built : mk.top.built ≡ Some o = i.built ∙ b in
          let s = supers o y.before built (y.was ∙ ap (λ z. Free z y.before) (sym (x.era.same i.shared))) in
          chained_more W.program w.body (w.at + 1) (class_of (method_at W.program m.0) ∷ y.before) ended (λ z u. member y.before z u (left_ended mk.marks d mk.top.era mk.top.opened mk.top.built o h.era ended built f) y.more)
          (chain_called W.program R w.body w.at x.pt x.point m args own e y.before (subst (λ z. SuperclassesEnded W.program z y.before) i.class s))
        where
          member : (before : List ℕ) (z : ℕ) → (z ≡ class_of (method_at W.program m.0)) ⊎ IsMember z before → IsMember d ended → ((q : ℕ) → IsMember q before → IsMember q ended) → IsMember z ended
          member before z (inl u) here more = subst (λ q. IsMember q ended) (sym (u ∙ sym i.class)) here
          member before z (inr u) here more = more z u

      gives_constructs : (dst : ℕ) (v : Option Value) → ((o : ℕ) → h.built ≡ Some o → (ended : List ℕ) → n o ≡ Free h.era ended → Chained W.program w.body (w.at + 1) ended) → ConstructsNext mk' (gives st w ws dst v)
      gives_constructs dst None chain = tt
      gives_constructs dst (Some v) chain = resumed (holds_at w dst v) refl refl chain

      takes_constructs : (this v : Option Value) (k : PointKind) → x.pt.kind ≡ k → Waits W st.top.body mk.top h x.frame.env k → ConstructsNext mk' (takes st w ws this v k)
      takes_constructs this v (New dst m args) e i = gives_constructs dst.0 this (moves_on (New dst m args) e tt (inl refl))
      takes_constructs this v (CtorCall m args own) e i = resumed (moves_to w (w.at + 1)) refl refl (calls_on_this m args own e i)
      takes_constructs this v (Call None m r direct args) e i = resumed (moves_to w (w.at + 1)) refl refl (moves_on (Call None m r direct args) e tt (inl refl))
      takes_constructs this v (Call (Some dst) m r direct args) e i = gives_constructs dst.0 v (moves_on (Call (Some dst) m r direct args) e tt (inl refl))
      takes_constructs this v k e i = tt

      frame_constructs : (this v : Option Value) → ConstructsNext mk' (takes_at st w ws this v (point_at W.program w.body w.at))
      frame_constructs this v = subst (λ o. ConstructsNext mk' (takes_at st w ws this v o)) (sym x.point) (takes_constructs this v x.pt.kind refl x.waits)

    return_constructs : (ctor_of (method_in W.program st.top.body) ≡ true → Early W.program st.top.body st.top.at → ⊥) → (this v : Option Value) (ws : List Frame) (hs : List FrameMark) → Waiting W mk.marks st.heap st.top.body mk.top ws hs → AllBuild W.program mk.marks ws hs → ObjectsBuilt W.program mk.marks st.heap (mk.top ∷ hs) →
        ConstructsNext (resumes_with mk (close_era (end_on mk.marks mk.top.built (class_of (method_in W.program st.top.body))) mk.top.era mk.top.opened) hs) (returns W.program st ws this v)
    return_constructs end this v [] hs w b o = tt
    return_constructs end this v (f ∷ ws) [] w b o = absurd w
    return_constructs end this v (f ∷ ws) (g ∷ hs) w b o = frame_constructs end f ws g hs w.0 b.0 b.1 o this v

    new_by : (t : Bool) (m : ℕ) (vs : Option (List Value)) → ctor_of (method_at W.program m) ≡ true → ConstructsNext (enters_new mk (length st.heap) t) (news W.program st m vs)
    new_by t m None ctor = tt
    new_by true m (Some vs) ctor = new_constructs mk.top.era mk.next false m vs ctor
    new_by false m (Some vs) ctor = new_constructs mk.next (mk.next + 1) true m vs ctor

    ctor_by : (m : ℕ) (this : Option Value) (vs : Option (List Value)) → ctor_of (method_at W.program m) ≡ true → ConstructsNext (enters_shared mk mk.top.built) (ctor_calls W.program st m this vs)
    ctor_by m this None ctor = tt
    ctor_by m None (Some vs) ctor = tt
    ctor_by m (Some v) (Some vs) ctor = shared_constructs mk.top.built m (v ∷ vs) (inr (refl, ctor))

    on_by : (m : Option ℕ) (vs : List Value) → ConstructsNext (enters_shared mk None) (spec.calls_on W.program st m vs)
    on_by None vs = tt
    on_by (Some m) vs = shared_constructs None m vs (inl refl)

    this_by : (o : Option ℕ) (m : ℕ) (direct : Bool) (vs : List Value) → ConstructsNext (enters_shared mk None) (calls_this W.program st o m direct vs)
    this_by None m direct vs = tt
    this_by (Some o) m direct vs = on_by (selected W.program st.heap o m direct) (At o ∷ vs)

    call_by : (m : ℕ) (r : Option Operand) (direct : Bool) (vs : Option (List Value)) → ConstructsNext (enters_shared mk None) (spec.calls W.program st m r direct vs)
    call_by m r direct None = tt
    call_by m None direct (Some vs) = on_by (Some m) vs
    call_by m (Some r) direct (Some vs) = this_by (object_of (value_at st.top.regs r.reg.0)) m direct vs

    no_call : (k : PointKind) → IsPlainKind k → NotCtorCall k
    no_call (CtorCall m args own) p = p
    no_call k p = tt

    plain_by : (k : PointKind) → IsPlainKind k → (x : Next) → ConstructsNext mk x → ConstructsNext (births mk (length st.heap) Committed) x → ConstructsNext (mark_by W st mk k) x
    plain_by (NewArray dst b n) p x s a = a
    plain_by (ArrayOf dst b xs) p x s a = a
    plain_by (New dst m args) p x s a = absurd p
    plain_by (CtorCall m args own) p x s a = absurd p
    plain_by (Call dst m r direct args) p x s a = absurd p
    plain_by (Return v) p x s a = absurd p
    plain_by k p x s a = s

    plain_constructs : (names : List (List ℕ)) (k : PointKind) → pt.kind ≡ k → IsPlainKind k → RegularPoint W.program st.top.body st.top.at k → ConstructsNext (mark_by W st mk k) (act W.program names st k)
    plain_constructs names k e p g =
        let stays : StaysNext W.program st pt.kind (act W.program names st k) = subst (λ z. StaysNext W.program st z (act W.program names st k)) (sym e) (kind_stays W.program st names k p g.this_kept) in
        let other : NotCtorCall pt.kind = subst NotCtorCall (sym e) (no_call k p) in
        plain_by k p (act W.program names st k) (same_constructs other (act W.program names st k) stays) (array_constructs other (act W.program names st k) stays)

    pub kind_constructs : (names : List (List ℕ)) (k : PointKind) → pt.kind ≡ k → RegularPoint W.program st.top.body st.top.at k → ConstructsNext (mark_by W st mk k) (act W.program names st k)
    kind_constructs names (New dst m args) e g = new_by (shares_era (env_at W st.top.body st.top.at) (slots_of (method_at W.program m.0)) args) m.0 (gather st.top.regs args) g.methods.0
    kind_constructs names (CtorCall m args own) e g = ctor_by m.0 (value_at st.top.regs 0) (gather st.top.regs args) g.methods.0
    kind_constructs names (Call dst m r direct args) e g = call_by m.0 r direct (gather st.top.regs args)
    kind_constructs names (Return v) e g = return_constructs (λ c. subst (λ k. NotEarlyReturn W.program st.top.body st.top.at k) e ((S.points st.top.body st.top.at pt is).end c)) (value_at st.top.regs 0) (value_of st.top.regs v) st.waiting mk.waiting good.waiting c.waiting c.objects
    kind_constructs names k e g = plain_constructs names k e tt g
