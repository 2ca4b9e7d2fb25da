-- A write of an element, and one more thing in the heap.
use Rattle.std.proofs.Common.{◌≡◌, ℕ, zero, suc, Bool, true, false, ◌⊎◌, inl, inr, List, [], ◌∷◌, ◌++◌, length, Option, Some, None, refl, sym, ap, ◌∙◌, subst, cond}
use Rattle.std.specs.Prelude.{slice_get, slice_set, eqb}
use Rattle.std.proofs.lemmas.Bool.{eqb-true, eq-eqb}
use Rattle.jn_points.specs.Shaped.{test_at}
use Rattle.jn_quals.specs.Qualifier.{Qualifier}
use Rattle.jn_points.specs.declared.point.BaseType.{BaseType}
use Rattle.jn_heap.specs.Values.{At, Elems, NullRef, Object, Plain, Text, Thing, Value, same}
use Rattle.jn_heap.specs.State.{Frame, value_at}
use Rattle.jn_heap.specs.Steps.{field_at, field_in}
use Rattle.jn_heap.specs.Calls.{class_at, class_in}
use Rattle.jn_env.specs.Keys.{Key, fact_keys}
use Rattle.jn_soundness.specs.World.{World}
use Rattle.jn_transfer.specs.Transfer.{elem_qual}
use Rattle.jn_sigs.specs.Signature.{field_qual}
use Rattle.jn_points.specs.Lookup.{owner, ref_field}
use Rattle.jn_env.specs.Order.{qual_at}
use Rattle.jn_soundness.proofs.Basics.{described_at, on_map, eqb_cases}
use Rattle.jn_soundness.proofs.Laters.{Later, fits_born, stands_later}
use Rattle.jn_soundness.proofs.Writes.{set_same, set_there, set_other}
use Rattle.jn_soundness.proofs.Tops.{no_test}
use Rattle.jn_soundness.specs.Heaps.{Building, BuiltOk, Describes, FieldOk, HeapOk, MarkFits, Settled, ThingOk, free_qual}
use Rattle.jn_soundness.specs.Marks.{Committed, FrameMark, Free, Marks, ObjMark, Unborn, with_mark}
use Rattle.jn_soundness.specs.Frames.{FactOk, GoodTop}

-- things stay good under later marks

abbrev pub FitsMark : Marks → Marks → ObjMark → Type 0
FitsMark m n Unborn = Unit {0}
FitsMark m n Committed = Unit {0}
FitsMark m n (Free a ended) = (o : ℕ) (q : Qualifier) → MarkFits a q (m o) → MarkFits a q (n o)

module _ (W : World) (m n : Marks) (keeps : (o : ℕ) → m o ≡ Committed → n o ≡ Committed) where
  pub settled_later : (q : Qualifier) (v : Value) → Settled m q v → Settled n q v
  settled_later q NullRef d = d
  settled_later q (Text t) d = d
  settled_later q (Plain p) d = tt
  settled_later q (At o) d = (keeps o d.0, d.1)

  free_later : (a : ℕ) (q : Qualifier) (v : Value) → ((o : ℕ) (q : Qualifier) → MarkFits a q (m o) → MarkFits a q (n o)) → Describes m a q (Some v) → Describes n a q (Some v)
  free_later a q NullRef h d = d
  free_later a q (Text t) h d = d
  free_later a q (Plain p) h d = tt
  free_later a q (At o) h d = h o q d

  pub field_later : (k : ObjMark) (own : ℕ) (is_ref : Bool) (q : Qualifier) (v : Value) → FitsMark m n k → FieldOk m k own is_ref q v → FieldOk n k own is_ref q v
  field_later Unborn own is_ref q v h d = d
  field_later Committed own is_ref q v h d = settled_later q v d
  field_later (Free a ended) own is_ref q v h d = record { value = free_later a (free_qual is_ref) v h d.value; slot = d.slot; ends = d.ends }

  module _ (gs hs : List FrameMark) (o : ℕ) (bld : (a : ℕ) → Building gs o a → Building hs o a) where
    built_later : (c : ℕ) (k : ObjMark) → BuiltOk W gs o c k → BuiltOk W hs o c k
    built_later c Unborn h = h
    built_later c Committed h = h
    built_later c (Free a ended) (inl h) = inl h
    built_later c (Free a ended) (inr h) = inr (bld a h)

    pub thing_later : (k : ObjMark) (t : Option Thing) → FitsMark m n k → ThingOk W m gs o k t → ThingOk W n hs o k t
    thing_later k None f h = h
    thing_later k (Some (Object c fs)) f h = record { fields = λ g v x. field_later k (owner W.program g) (ref_field W.program g) (field_qual W.program W.sig g) v f (h.fields g v x); built = built_later c k h.built }
    thing_later k (Some (Elems b xs)) f h = (h.0, λ i v x. settled_later (elem_qual b) v (h.1 i v x))

-- an element is written
module _ (W : World) (heap : List Thing) (o : ℕ) (b : BaseType) (xs : List Value) (i : ℕ) (v : Value) (is : slice_get heap o ≡ Some (Elems b xs)) where
  abbrev pub elems_after : List Thing
  elems_after = slice_set heap o (Elems b (slice_set xs i v))

  elems_there : (p : ℕ) → o ≡ p → slice_get elems_after p ≡ Some (Elems b (slice_set xs i v))
  elems_there p e = subst (λ x. slice_get elems_after x ≡ Some (Elems b (slice_set xs i v))) e (set_there heap o (Elems b xs) (Elems b (slice_set xs i v)) is)

  elems_before : (p : ℕ) → o ≡ p → slice_get heap p ≡ Some (Elems b xs)
  elems_before p e = subst (λ x. slice_get heap x ≡ Some (Elems b xs)) e is

  field_by : (p g : ℕ) → (o ≡ p) ⊎ (o ≡ p → ⊥) → field_at W.program elems_after p g ≡ field_at W.program heap p g
  field_by p g (inl e) = ap (λ t. field_in W.program t g) (elems_there p e) ∙ sym (ap (λ t. field_in W.program t g) (elems_before p e))
  field_by p g (inr n) = ap (λ t. field_in W.program t g) (set_other heap o p (Elems b (slice_set xs i v)) n)

  pub elems_field : (p g : ℕ) → field_at W.program elems_after p g ≡ field_at W.program heap p g
  elems_field p g = field_by p g (eqb_cases o p)

  class_by : (p : ℕ) → (o ≡ p) ⊎ (o ≡ p → ⊥) → class_at elems_after p ≡ class_at heap p
  class_by p (inl e) = ap class_in (elems_there p e) ∙ sym (ap class_in (elems_before p e))
  class_by p (inr n) = ap class_in (set_other heap o p (Elems b (slice_set xs i v)) n)

  pub elems_later : (m : Marks) (a : ℕ) → Later W a m heap m elems_after
  elems_later m a = record {
    fits = λ p q h. h;
    free = λ p ended h. record { now = ended; is = h; more = λ x y. y };
    class = λ p k h. class_by p (eqb_cases o p) ∙ h;
    set = λ p g ended h s z. s (sym (elems_field p g) ∙ z);
    kept = λ p g n k z. sym (elems_field p g) ∙ z;
  }

  item_by : (m : Marks) (j : ℕ) (w : Value) → ((j : ℕ) (w : Value) → slice_get xs j ≡ Some w → Settled m (elem_qual b) w) → Settled m (elem_qual b) v → (i ≡ j) ⊎ (i ≡ j → ⊥) → slice_get (slice_set xs i v) j ≡ Some w → Settled m (elem_qual b) w
  item_by m j w h s (inl e) x = subst (λ y. Settled m (elem_qual b) y) (set_same xs i v w (subst (λ y. slice_get (slice_set xs i v) y ≡ Some w) (sym e) x)) s
  item_by m j w h s (inr n) x = h j w (sym (set_other xs i j v n) ∙ x)

  heap_by : (m : Marks) (gs : List FrameMark) → HeapOk W m gs heap → Settled m (elem_qual b) v → (p : ℕ) → (o ≡ p) ⊎ (o ≡ p → ⊥) → ThingOk W m gs p (m p) (slice_get elems_after p)
  heap_by m gs h s p (inr n) = subst (λ t. ThingOk W m gs p (m p) t) (sym (set_other heap o p (Elems b (slice_set xs i v)) n)) (h p)
  heap_by m gs h s p (inl e) =
      let old : ThingOk W m gs p (m p) (Some (Elems b xs)) = subst (λ t. ThingOk W m gs p (m p) t) (elems_before p e) (h p) in
      subst (λ t. ThingOk W m gs p (m p) t) (sym (elems_there p e)) (old.0, λ j w x. item_by m j w old.1 s (eqb_cases i j) x)

  pub elems_heap : (m : Marks) (gs : List FrameMark) → HeapOk W m gs heap → Settled m (elem_qual b) v → HeapOk W m gs elems_after
  elems_heap m gs h s p = heap_by m gs h s p (eqb_cases o p)

-- one more thing
mark_by : (m : Marks) (i j : ℕ) (k : ObjMark) (t : Bool) → eqb j i ≡ t → (j ≡ i → ⊥) → cond t k (m j) ≡ m j
mark_by m i j k true e n = absurd (n (eqb-true j i e))
mark_by m i j k false e n = refl

pub mark_other : (m : Marks) (i j : ℕ) (k : ObjMark) → (j ≡ i → ⊥) → with_mark m i k j ≡ m j
mark_other m i j k n = mark_by m i j k (eqb j i) refl n

pub mark_same : (m : Marks) (i : ℕ) (k : ObjMark) → with_mark m i k i ≡ k
mark_same m i k = ap (λ t. cond t k (m i)) (eq-eqb i i refl)

pub append_other : {X : Type 0} → (xs : List X) (y : X) (j : ℕ) → (j ≡ length xs → ⊥) → slice_get (xs ++ y ∷ []) j ≡ slice_get xs j
append_other [] y zero n = absurd (n refl)
append_other [] y (suc j) n = refl
append_other (x ∷ xs) y zero n = refl
append_other (x ∷ xs) y (suc j) n = append_other xs y j (λ e. n (ap suc e))

pub append_last : {X : Type 0} → (xs : List X) (y : X) → slice_get (xs ++ y ∷ []) (length xs) ≡ Some y
append_last [] y = refl
append_last (x ∷ xs) y = append_last xs y

pub past_end : {X : Type 0} → (xs : List X) → slice_get xs (length xs) ≡ None
past_end [] = refl
past_end (x ∷ xs) = past_end xs

module _ (W : World) (m : Marks) (gs : List FrameMark) (heap : List Thing) (ok : HeapOk W m gs heap) (x : Thing) (k : ObjMark) where
  abbrev pub grown : List Thing
  grown = heap ++ x ∷ []

  abbrev pub grown_marks : Marks
  grown_marks = with_mark m (length heap) k

  unborn : m (length heap) ≡ Unborn
  unborn = subst (λ t. ThingOk W m gs (length heap) (m (length heap)) t) (past_end heap) (ok (length heap))

  pub born : (o : ℕ) → (m o ≡ Unborn → ⊥) → o ≡ length heap → ⊥
  born o n e = n (ap m e ∙ unborn)

  pub fits_grown : (a o : ℕ) (q : Qualifier) → MarkFits a q (m o) → MarkFits a q (grown_marks o)
  fits_grown a o q h = subst (λ t. MarkFits a q t) (sym (mark_other m (length heap) o k (born o (fits_born a q (m o) h)))) h

  pub same_mark : (o : ℕ) (t : ObjMark) → (t ≡ Unborn → ⊥) → m o ≡ t → grown_marks o ≡ t
  same_mark o t n e = mark_other m (length heap) o k (born o (λ u. n (sym e ∙ u))) ∙ e

  some_born : {A : Type 0} → (o : ℕ) (z : A) (f : Option Thing → Option A) → f None ≡ None → f (slice_get heap o) ≡ Some z → o ≡ length heap → ⊥
  some_born o z f n h e =
      let there : f None ≡ Some z = sym (ap f (ap (λ y. slice_get heap y) e ∙ past_end heap)) ∙ h in
      let bad : None ≡ Some z = sym n ∙ there in
      cc

  not_unborn : (a : ℕ) (ended : List ℕ) → Free a ended ≡ Unborn → ⊥
  not_unborn a ended e = cc

  pub field_grown : (o g : ℕ) → (m o ≡ Unborn → ⊥) → field_at W.program grown o g ≡ field_at W.program heap o g
  field_grown o g n = ap (λ t. field_in W.program t g) (append_other heap x o (born o n))

  pub grown_later : (a : ℕ) → Later W a m heap grown_marks grown
  grown_later a = record {
    fits = λ o q h. fits_grown a o q h;
    free = λ o ended h. record { now = ended; is = same_mark o (Free a ended) (not_unborn a ended) h; more = λ c y. y };
    class = λ o c h. ap class_in (append_other heap x o (some_born o c class_in refl h)) ∙ h;
    set = λ o g ended h s z. s (sym (field_grown o g (λ u. not_unborn a ended (sym h ∙ u))) ∙ z);
    kept = λ o g n k z. sym (field_grown o g n) ∙ z;
  }

  pub committed_grown : (o : ℕ) → m o ≡ Committed → grown_marks o ≡ Committed
  committed_grown o h = same_mark o Committed (λ e. cc) h

  fits_mark : (t : ObjMark) → FitsMark m grown_marks t
  fits_mark Unborn = tt
  fits_mark Committed = tt
  fits_mark (Free a ended) = λ o q h. fits_grown a o q h

  grown_by : (hs : List FrameMark) → ((o a : ℕ) → Building gs o a → Building hs o a) → ThingOk W grown_marks hs (length heap) k (Some x) → (o : ℕ) → (o ≡ length heap) ⊎ (o ≡ length heap → ⊥) → ThingOk W grown_marks hs o (grown_marks o) (slice_get grown o)
  grown_by hs bld new o (inl e) =
      subst (λ y. ThingOk W grown_marks hs y (grown_marks y) (slice_get grown y)) (sym e)
      (subst (λ t. ThingOk W grown_marks hs (length heap) (grown_marks (length heap)) t) (sym (append_last heap x))
      (subst (λ y. ThingOk W grown_marks hs (length heap) y (Some x)) (sym (mark_same m (length heap) k)) new))
  grown_by hs bld new o (inr n) =
      subst (λ t. ThingOk W grown_marks hs o (grown_marks o) t) (sym (append_other heap x o n))
      (subst (λ y. ThingOk W grown_marks hs o y (slice_get heap o)) (sym (mark_other m (length heap) o k n))
      (thing_later W m grown_marks committed_grown gs hs o (bld o) (m o) (slice_get heap o) (fits_mark (m o)) (ok o)))

  pub grown_heap : (hs : List FrameMark) → ((o a : ℕ) → Building gs o a → Building hs o a) → ThingOk W grown_marks hs (length heap) k (Some x) → HeapOk W grown_marks hs grown
  grown_heap hs bld new o = grown_by hs bld new o (eqb_cases o (length heap))

pub held : (W : World) (m : Marks) (heap : List Thing) (f : Frame) (g : FrameMark) → (t : GoodTop W m heap f g) (k : Key) (o : ℕ) → value_at f.regs k.reg ≡ Some (At o) → m o ≡ Unborn → ⊥
held W m heap f g t k o is = fits_born g.era (qual_at t.env k.reg) (m o) (subst (λ v. Describes m g.era (qual_at t.env k.reg) v) is (described_at m g.era t.env.quals f.regs k.reg t.stands.quals))

-- the running frame under a later state
abbrev pub top_later : (W : World) (m : Marks) (heap : List Thing) (n : Marks) (heap' : List Thing) (f : Frame) (g : FrameMark) → Later W g.era m heap n heap' → ((o h : ℕ) → (m o ≡ Unborn → ⊥) → field_at W.program heap' o h ≡ field_at W.program heap o h) → test_at W.program f.body f.at ≡ None → GoodTop W m heap f g → GoodTop W n heap' f g
top_later W m heap n heap' f g l same plain t = record {
  env = t.env;
  reached = t.reached;
  stands = stands_later W m heap n heap' f g t.env l t.stands;
  facts = on_map (FactOk W heap f.regs) (FactOk W heap' f.regs) (fact_keys W.program f.body) t.env.facts (λ k h o is z. h o is (sym (same o k.field (held W m heap f g t k o is)) ∙ z)) t.facts;
  test = no_test W n heap' f.regs (test_at W.program f.body f.at) plain;
}
