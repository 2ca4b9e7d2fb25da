-- A constructor ends, and an era's objects become committed.
use Rattle.std.proofs.Common.{◌≡◌, ℕ, ◌<◌, Bool, true, false, ◌⊎◌, inl, inr, List, [], ◌∷◌, Option, Some, None, refl, sym, ap, ◌∙◌, subst, arith, cond}
use Rattle.std.specs.Prelude.{slice_get, eqb}
use Rattle.std.proofs.lemmas.Bool.{eqb-true, eq-eqb}
use Rattle.jn_quals.specs.Qualifier.{Qualifier}
use Rattle.jn_soundness.specs.Checked.{AllAssigned}
use Rattle.jn_heap.specs.Values.{At, Elems, NullRef, Object, Plain, Text, Thing, Value}
use Rattle.jn_env.specs.Environment.{Env}
use Rattle.jn_heap.specs.State.{Frame}
use Rattle.jn_heap.specs.Steps.{field_at, field_in}
use Rattle.jn_heap.specs.Calls.{class_at, class_in}
use Rattle.jn_soundness.specs.World.{World}
use Rattle.jn_points.specs.Members.{has_field}
use Rattle.jn_points.specs.Lookup.{class_of, ctor_of, method_in, owner, ref_field}
use Rattle.jn_sigs.specs.Signature.{field_qual}
use Rattle.jn_env.specs.Keys.{own_keys}
use Rattle.jn_soundness.proofs.Basics.{on_is_on, eqb_cases}
use Rattle.jn_soundness.proofs.Laters.{Freed, Later}
use Rattle.jn_soundness.proofs.Grows.{FitsMark, thing_later, mark_other, mark_same}
use Rattle.jn_soundness.specs.Heaps.{AllEnded, Building, BuiltOk, Describes, FreeField, HeapOk, IsMember, MarkFits, Settled, ThingOk, free_qual}
use Rattle.jn_soundness.specs.Frames.{AllOn, FieldSet, SupersEnded}
use Rattle.jn_soundness.specs.Marks.{Committed, FrameMark, Free, Marks, ObjMark, Unborn, with_mark, commit_mark}
use Rattle.jn_soundness.specs.Calls.{EraStep, Waiting}

cond_true : {X : Type 0} → (b : Bool) (x : Option X) (w : X) → cond b x None ≡ Some w → b ≡ true
cond_true true x w h = refl
cond_true false x w h = cc

module _ (W : World) (m : Marks) (heap : List Thing) (o e d : ℕ) (ended : List ℕ) (free : m o ≡ Free e ended) where
  -- the constructor of class d has ended on the object
  abbrev pub ended_marks : Marks
  ended_marks = with_mark m o (Free e (d ∷ ended))

  fits_by : (a p : ℕ) (q : Qualifier) → (p ≡ o) ⊎ (p ≡ o → ⊥) → MarkFits a q (m p) → MarkFits a q (ended_marks p)
  fits_by a p q (inl same) h =
      let old : MarkFits a q (Free e ended) = subst (λ k. MarkFits a q k) (ap m same ∙ free) h in
      subst (λ k. MarkFits a q k) (sym (ap ended_marks same ∙ mark_same m o (Free e (d ∷ ended)))) old
  fits_by a p q (inr n) h = subst (λ k. MarkFits a q k) (sym (mark_other m o p (Free e (d ∷ ended)) n)) h

  pub ended_fits : (a p : ℕ) (q : Qualifier) → MarkFits a q (m p) → MarkFits a q (ended_marks p)
  ended_fits a p q h = fits_by a p q (eqb_cases p o) h

  freed_by : (a p : ℕ) (l : List ℕ) → (p ≡ o) ⊎ (p ≡ o → ⊥) → m p ≡ Free a l → Freed ended_marks a p l
  freed_by a p l (inr n) h = record { now = l; is = mark_other m o p (Free e (d ∷ ended)) n ∙ h; more = λ c x. x }
  freed_by a p l (inl same) h =
      let both : Free e ended ≡ Free a l = sym free ∙ (sym (ap m same) ∙ h) in
      let era : e ≡ a = cc in
      let list : ended ≡ l = cc in
      record {
        now = d ∷ ended;
        is = (ap ended_marks same ∙ mark_same m o (Free e (d ∷ ended))) ∙ ap (λ x. Free x (d ∷ ended)) era;
        more = λ c x. inr (subst (λ y. IsMember c y) (sym list) x);
      }

  pub ended_later : (a : ℕ) → Later W a m heap ended_marks heap
  ended_later a = record {
    fits = λ p q h. ended_fits a p q h;
    free = λ p l h. freed_by a p l (eqb_cases p o) h;
    class = λ p c h. h;
    set = λ p f l h s. s;
    kept = λ p f n k z. z;
  }

  committed_by : (p : ℕ) → (p ≡ o) ⊎ (p ≡ o → ⊥) → m p ≡ Committed → ended_marks p ≡ Committed
  committed_by p (inr n) h = mark_other m o p (Free e (d ∷ ended)) n ∙ h
  committed_by p (inl same) h = let bad : Free e ended ≡ Committed = sym free ∙ (sym (ap m same) ∙ h) in cc

  ended_committed : (p : ℕ) → m p ≡ Committed → ended_marks p ≡ Committed
  ended_committed p h = committed_by p (eqb_cases p o) h

  fits_mark : (k : ObjMark) → FitsMark m ended_marks k
  fits_mark Unborn = tt
  fits_mark Committed = tt
  fits_mark (Free a l) = λ p q h. ended_fits a p q h

  free_later : (a : ℕ) (q : Qualifier) (v : Value) → Describes m a q (Some v) → Describes ended_marks a q (Some v)
  free_later a q NullRef h = h
  free_later a q (Text t) h = h
  free_later a q (Plain p) h = tt
  free_later a q (At p) h = ended_fits a p q h

  -- the frame that ends
  module _ (g : FrameMark) (gs : List FrameMark) (built : g.built ≡ Some o)
      (class : g.made ≡ true → class_at heap o ≡ Some d) (supers : SupersEnded W d ended)
      (set : (f : ℕ) → owner W.program f ≡ d → FieldSet W heap o f) where
    now_ended : (c : ℕ) → BuiltOk W (g ∷ gs) o c (Free e ended) → class_at heap o ≡ Some c → BuiltOk W gs o c (Free e (d ∷ ended))
    now_ended c (inl all) is = inl (λ f h. inr (all f h))
    now_ended c (inr (inr b)) is = inr b
    now_ended c (inr (inl b)) is = inl (λ f h. by f (supers f (subst (λ x. has_field W.program x f ≡ true) (same c is b.0) h)))
      where
        by : (f : ℕ) → (owner W.program f ≡ d) ⊎ IsMember (owner W.program f) ended → IsMember (owner W.program f) (d ∷ ended)
        by f (inl x) = inl x
        by f (inr x) = inr x

        same : (c : ℕ) → class_at heap o ≡ Some c → g.made ≡ true → c ≡ d
        same c is mk = let both : Some c ≡ Some d = sym is ∙ class mk in cc

    end_thing : (x : Option Thing) → slice_get heap o ≡ x → ThingOk W m (g ∷ gs) o (Free e ended) x → ThingOk W ended_marks gs o (Free e (d ∷ ended)) x
    end_thing None is h = cc
    end_thing (Some (Elems b xs)) is h = let bad = h.0 in cc
    end_thing (Some (Object c fs)) is h = record { fields = λ f v x. by f v x (h.fields f v x); built = now_ended c h.built (ap class_in is) }
      where
        null : (f : ℕ) (v : Value) → field_in W.program (Some (Object c fs)) f ≡ Some v → v ≡ NullRef → field_at W.program heap o f ≡ Some NullRef
        null f v x n = (ap (λ t. field_in W.program t f) is ∙ x) ∙ ap (λ y. Some y) n

        ends : (f : ℕ) (v : Value) → field_in W.program (Some (Object c fs)) f ≡ Some v → FreeField m e ended (owner W.program f) (ref_field W.program f) (field_qual W.program W.sig f) v → IsMember (owner W.program f) (d ∷ ended) → v ≡ NullRef → (field_qual W.program W.sig f).null ≡ true
        ends f v x k (inl own) n = set f own (null f v x n)
        ends f v x k (inr own) n = k.ends own n

        by : (f : ℕ) (v : Value) → field_in W.program (Some (Object c fs)) f ≡ Some v → FreeField m e ended (owner W.program f) (ref_field W.program f) (field_qual W.program W.sig f) v → FreeField ended_marks e (d ∷ ended) (owner W.program f) (ref_field W.program f) (field_qual W.program W.sig f) v
        by f v x k = record { value = free_later e (free_qual (ref_field W.program f)) v k.value; slot = k.slot; ends = λ y n. ends f v x k y n }

    other_building : (p a : ℕ) → (p ≡ o → ⊥) → Building (g ∷ gs) p a → Building gs p a
    other_building p a n (inl x) = let both : Some o ≡ Some p = sym built ∙ x.1 in absurd (n (let same : p ≡ o = cc in same))
    other_building p a n (inr x) = x

    heap_by : HeapOk W m (g ∷ gs) heap → (p : ℕ) → (p ≡ o) ⊎ (p ≡ o → ⊥) → ThingOk W ended_marks gs p (ended_marks p) (slice_get heap p)
    heap_by h p (inl same) =
        let old : ThingOk W m (g ∷ gs) o (Free e ended) (slice_get heap o) = subst (λ k. ThingOk W m (g ∷ gs) o k (slice_get heap o)) free (h o) in
        subst (λ y. ThingOk W ended_marks gs y (ended_marks y) (slice_get heap y)) (sym same)
        (subst (λ k. ThingOk W ended_marks gs o k (slice_get heap o)) (sym (mark_same m o (Free e (d ∷ ended)))) (end_thing (slice_get heap o) refl old))
    heap_by h p (inr n) =
        subst (λ k. ThingOk W ended_marks gs p k (slice_get heap p)) (sym (mark_other m o p (Free e (d ∷ ended)) n))
        (thing_later W m ended_marks ended_committed (g ∷ gs) gs p (λ a x. other_building p a n x) (m p) (slice_get heap p) (fits_mark (m p)) (h p))

    pub ended_heap : HeapOk W m (g ∷ gs) heap → HeapOk W ended_marks gs heap
    ended_heap h p = heap_by h p (eqb_cases p o)

-- an era ends
module _ (W : World) (m : Marks) (heap : List Thing) (e : ℕ) where
  abbrev pub committed_marks : Marks
  committed_marks = λ o. commit_mark e (m o)

  commit_other : (a : ℕ) (l : List ℕ) (t : Bool) → eqb a e ≡ t → (a ≡ e → ⊥) → cond t Committed (Free a l) ≡ Free a l
  commit_other a l true x n = absurd (n (eqb-true a e x))
  commit_other a l false x n = refl

  commit_same : (a : ℕ) (l : List ℕ) → a ≡ e → commit_mark e (Free a l) ≡ Committed
  commit_same a l h = ap (λ t. cond t Committed (Free a l)) (eq-eqb a e h)

  fits_kept : (a : ℕ) (q : Qualifier) (k : ObjMark) → (a ≡ e → ⊥) → MarkFits a q k → MarkFits a q (commit_mark e k)
  fits_kept a q Unborn n h = h
  fits_kept a q Committed n h = h
  fits_kept a q (Free b l) n h = subst (λ k. MarkFits a q k) (sym (commit_other b l (eqb b e) refl (λ x. n (sym h.1 ∙ x)))) h

  committed_later : (k : ObjMark) → k ≡ Committed → commit_mark e k ≡ Committed
  committed_later k h = ap (λ k. commit_mark e k) h

  pub commit_later : (a : ℕ) → (a ≡ e → ⊥) → Later W a m heap committed_marks heap
  commit_later a n = record {
    fits = λ o q h. fits_kept a q (m o) n h;
    free = λ o l h. record { now = l; is = ap (λ k. commit_mark e k) h ∙ commit_other a l (eqb a e) refl n; more = λ c x. x };
    class = λ o c h. h;
    set = λ o f l h s. s;
    kept = λ o f n k z. z;
  }

  settle_mark : (a : ℕ) (q : Qualifier) (k : ObjMark) → a ≡ e → MarkFits a q k → commit_mark e k ≡ Committed
  settle_mark a q Unborn s h = absurd h
  settle_mark a q Committed s h = refl
  settle_mark a q (Free b l) s h = commit_same b l (h.1 ∙ s)

  module _ (gs : List FrameMark) (none_builds : (o : ℕ) → Building gs o e → ⊥) where
    all_of : (o c : ℕ) (a : ℕ) (l : List ℕ) → a ≡ e → BuiltOk W gs o c (Free a l) → AllEnded W c l
    all_of o c a l s (inl h) = h
    all_of o c a l s (inr h) = absurd (none_builds o (subst (λ x. Building gs o x) s h))

    settle_field : (a : ℕ) (l : List ℕ) (own : ℕ) (is_ref : Bool) (q : Qualifier) (v : Value) → a ≡ e → IsMember own l → FreeField m a l own is_ref q v → Settled committed_marks q v
    settle_field a l own is_ref q NullRef s x h = h.ends x refl
    settle_field a l own is_ref q (Text t) s x h = h.slot tt
    settle_field a l own is_ref q (Plain p) s x h = tt
    settle_field a l own is_ref q (At o) s x h = (settle_mark a (free_qual is_ref) (m o) s h.value, h.slot tt)

    commit_free : (o a : ℕ) (l : List ℕ) (x : Option Thing) → a ≡ e → ThingOk W m gs o (Free a l) x → ThingOk W committed_marks gs o Committed x
    commit_free o a l None s h = cc
    commit_free o a l (Some (Elems b xs)) s h = let bad = h.0 in cc
    commit_free o a l (Some (Object c fs)) s h = record {
      fields = λ f v x. settle_field a l (owner W.program f) (ref_field W.program f) (field_qual W.program W.sig f) v s (all_of o c a l s h.built f (cond_true (has_field W.program c f) (slice_get fs f) v x)) (h.fields f v x);
      built = tt;
    }

    free_by : (o a : ℕ) (l : List ℕ) (x : Option Thing) → (a ≡ e) ⊎ (a ≡ e → ⊥) → ThingOk W m gs o (Free a l) x → ThingOk W committed_marks gs o (commit_mark e (Free a l)) x
    free_by o a l x (inl s) h = subst (λ k. ThingOk W committed_marks gs o k x) (sym (commit_same a l s)) (commit_free o a l x s h)
    free_by o a l x (inr n) h = subst (λ k. ThingOk W committed_marks gs o k x) (sym (commit_other a l (eqb a e) refl n))
        (thing_later W m committed_marks (λ p k. committed_later (m p) k) gs gs o (λ b y. y) (Free a l) x (λ p q y. fits_kept a q (m p) n y) h)

    commit_thing : (o : ℕ) (k : ObjMark) (x : Option Thing) → ThingOk W m gs o k x → ThingOk W committed_marks gs o (commit_mark e k) x
    commit_thing o Unborn x h = thing_later W m committed_marks (λ p k. committed_later (m p) k) gs gs o (λ b y. y) Unborn x tt h
    commit_thing o Committed x h = thing_later W m committed_marks (λ p k. committed_later (m p) k) gs gs o (λ b y. y) Committed x tt h
    commit_thing o (Free a l) x h = free_by o a l x (eqb_cases a e) h

    pub committed_heap : HeapOk W m gs heap → HeapOk W committed_marks gs heap
    committed_heap h o = commit_thing o (m o) (slice_get heap o) (h o)

-- the eras of the frames below
abbrev pub AllBelow : ℕ → List FrameMark → Type 0
AllBelow e [] = Unit {0}
AllBelow e (h ∷ hs) = (h.era < e) × AllBelow e hs

module _ (W : World) (m : Marks) (heap : List Thing) where
  era_step : (g h : FrameMark) (e : ℕ) (t : Bool) → g.opened ≡ t → EraStep g h → g.era < e → h.era < e
  era_step g h e true o s b = let x = s.opened o in omega arith
  era_step g h e false o s b = subst (λ y. y < e) (s.same o) b

  pub era_below : (g h : FrameMark) (e : ℕ) → EraStep g h → g.era < e → h.era < e
  era_below g h e s b = era_step g h e g.opened refl s b

  pub all_below : (b : ℕ) (g : FrameMark) (ws : List Frame) (hs : List FrameMark) (e : ℕ) → g.era < e → Waiting W m heap b g ws hs → AllBelow e hs
  all_below b g [] [] e x w = tt
  all_below b g [] (h ∷ hs) e x w = absurd w
  all_below b g (f ∷ ws) [] e x w = absurd w
  all_below b g (f ∷ ws) (h ∷ hs) e x w = let y = era_below g h e w.0.era x in (y, all_below f.body h ws hs e y w.1)

  pub not_building : (e : ℕ) (hs : List FrameMark) → AllBelow e hs → (o : ℕ) → Building hs o e → ⊥
  not_building e [] b o h = h
  not_building e (g ∷ gs) b o (inl h) = let x = b.0 in let y = h.2 in absurd (omega arith)
  not_building e (g ∷ gs) b o (inr h) = not_building e gs b.1 o h

-- what a constructor has assigned at its end
pub class_set : (W : World) (b : ℕ) (e : Env) (m : Marks) (gs : List FrameMark) (heap : List Thing) (o a d : ℕ) (l : List ℕ) → HeapOk W m gs heap → m o ≡ Free a l → ctor_of (method_in W.program b) ≡ true → class_of (method_in W.program b) ≡ d → AllAssigned W b e → AllOn (FieldSet W heap o) (own_keys W.program b) e.assigned → (f : ℕ) → owner W.program f ≡ d → FieldSet W heap o f
class_set W b e m gs heap o a d l h free c is all on f own z = by (field_qual W.program W.sig f).null refl
  where
    thing : (x : Option Thing) → ThingOk W m gs o (Free a l) x → field_in W.program x f ≡ Some NullRef → ref_field W.program f ≡ true
    thing None t z = cc
    thing (Some (Object k fs)) t z = (t.fields f NullRef z).value
    thing (Some (Elems k xs)) t z = cc

    is_ref : ref_field W.program f ≡ true
    is_ref = thing (slice_get heap o) (subst (λ k. ThingOk W m gs o k (slice_get heap o)) free (h o)) z

    by : (t : Bool) → (field_qual W.program W.sig f).null ≡ t → (field_qual W.program W.sig f).null ≡ true
    by true n = n
    by false n = on_is_on (FieldSet W heap o) (λ k. eqb k f) (own_keys W.program b) e.assigned on (all c f (own ∙ sym is) is_ref n) (λ k t s. subst (λ y. FieldSet W heap o y) (eqb-true k f t) s z)
