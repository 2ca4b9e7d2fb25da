-- A write of a field or an element.
use Rattle.std.proofs.Common.{◌≡◌, ℕ, zero, suc, Bool, true, false, not, ◌&&◌, ◌||◌, ◌⊎◌, inl, inr, List, [], ◌∷◌, Option, Some, None, refl, sym, ap, ◌∙◌, subst, cond}
use Rattle.std.specs.Prelude.{slice_get, slice_set, eqb, ltb}
use Rattle.std.proofs.lemmas.Bool.{eqb-true, eq-eqb, and_parts, not-true}
use Rattle.jn_quals.specs.Qualifier.{Qualifier}
use Rattle.jn_base.specs.declared.number.SlotNo.{SlotNo}
use Rattle.jn_points.specs.declared.program.Field.{Field}
use Rattle.jn_heap.specs.Values.{At, NullRef, Object, Plain, Text, Thing, Value, same}
use Rattle.jn_env.specs.Environment.{Env}
use Rattle.jn_heap.specs.State.{Frame, Regs, value_at}
use Rattle.jn_heap.specs.Steps.{field_at, field_in}
use Rattle.jn_heap.specs.Calls.{class_at, class_in}
use Rattle.jn_env.specs.Keys.{Key, also, fact_keys, has_key_field, is_key, mask, own_keys}
use Rattle.jn_soundness.specs.World.{World}
use Rattle.jn_soundness.specs.Checked.{WritePasses}
use Rattle.jn_points.specs.Lookup.{class_of, ctor_of, locals, method_in, monotonic, owner, ref_field, ref_of, has_slot}
use Rattle.jn_sigs.specs.Signature.{field_qual, field_qual_of, slot_qual}
use Rattle.jn_points.specs.Members.{has_field}
use Rattle.jn_env.specs.Order.{qual_at}
use Rattle.jn_quals.specs.Order.{settle}
use Rattle.jn_transfer.specs.Transfer.{facts_but, write_assigned, write_facts}
use Rattle.jn_soundness.proofs.Basics.{true_false, within_null, within_committed, settled_of, settled_within, on_mask, on_also, on_map, eqb_cases}
use Rattle.jn_soundness.proofs.Laters.{Later}
use Rattle.jn_soundness.specs.Frames.{AllOn, AssignedOk, CtorOk, FactOk, FieldSet, Kept}
use Rattle.jn_soundness.specs.Marks.{Committed, FrameMark, Free, Marks, ObjMark, Unborn}
use Rattle.jn_soundness.specs.Heaps.{Describes, FieldOk, HeapOk, HoldsRef, MarkFits, ObjectOk, ThingOk, free_qual}
use Rattle.jn_soundness.specs.Asked.{HoldsPlain}

pub set_same : {X : Type 0} → (xs : List X) (i : ℕ) (y w : X) → slice_get (slice_set xs i y) i ≡ Some w → y ≡ w
set_same [] i y w h = cc
set_same (x ∷ xs) zero y w h = cc
set_same (x ∷ xs) (suc i) y w h = set_same xs i y w h

pub set_there : {X : Type 0} → (xs : List X) (i : ℕ) (x y : X) → slice_get xs i ≡ Some x → slice_get (slice_set xs i y) i ≡ Some y
set_there [] i x y h = cc
set_there (z ∷ xs) zero x y h = refl
set_there (z ∷ xs) (suc i) x y h = set_there xs i x y h

pub set_other : {X : Type 0} → (xs : List X) (i j : ℕ) (y : X) → (i ≡ j → ⊥) → slice_get (slice_set xs i y) j ≡ slice_get xs j
set_other [] i j y n = refl
set_other (x ∷ xs) zero zero y n = absurd (n refl)
set_other (x ∷ xs) zero (suc j) y n = refl
set_other (x ∷ xs) (suc i) zero y n = refl
set_other (x ∷ xs) (suc i) (suc j) y n = set_other xs i j y (λ e. n (ap suc e))

cond_some : {X : Type 0} → (b : Bool) (x y : Option X) (w : X) → cond b x None ≡ Some w → (x ≡ Some w → y ≡ Some w) → cond b y None ≡ Some w
cond_some true x y w h k = k h
cond_some false x y w h k = cc

pub cond_is : {X : Type 0} → (b : Bool) (x : Option X) (w : X) → cond b x None ≡ Some w → x ≡ Some w
cond_is true x w h = h
cond_is false x w h = cc

pub null_is_ref : (W : World) (x : Option Field) → (field_qual_of W.sig x).null ≡ true → ref_of x ≡ true
null_is_ref W None h = cc
null_is_ref W (Some f) h = by_slot f.slot h
  where
    by_slot : (s : Option SlotNo) → (slot_qual W.sig s).null ≡ true → has_slot s ≡ true
    by_slot None h = cc
    by_slot (Some s) h = refl

or_left : (a b : Bool) → a ≡ true → (a || b) ≡ true
or_left true b h = refl
or_left false b h = cc

or_right : (a b : Bool) → b ≡ true → (a || b) ≡ true
or_right true b h = refl
or_right false b h = h

pub or_free : (b : Bool) → (b ≡ true → ⊥) → b ≡ false
or_free true h = absurd (h refl)
or_free false h = refl

module _ (W : World) (m : Marks) (a : ℕ) where
  -- the value written fits the field, whatever the object's mark
  pub fits_field : (e : Env) (r f s : ℕ) (v : Value) (mark : ObjMark) → ref_field W.program f ≡ true → WritePasses W e r f s → MarkFits a (qual_at e r) mark → Describes m a (qual_at e s) (Some v) → FieldOk m mark (owner W.program f) (ref_field W.program f) (field_qual W.program W.sig f) v
  fits_field e r f s v Unborn ir u h d = tt
  fits_field e r f s v Committed ir u h d =
      let q = qual_at e s in
      settled_within m q (field_qual W.program W.sig f) v (λ x. within_null (settle q) (field_qual W.program W.sig f) (u.value ir) x) (λ x. within_committed (settle q) (field_qual W.program W.sig f) (u.value ir) (or_left q.committed q.free x))
      (settled_of m a q v (or_free q.free (λ x. u.init x h)) d)
  fits_field e r f s v (Free era ended) ir u h d = record { value = here v d; slot = slot v d; ends = λ x y. within_null (settle (qual_at e s)) (field_qual W.program W.sig f) (u.value ir) (null v d y) }
    where
      null : (v : Value) → Describes m a (qual_at e s) (Some v) → v ≡ NullRef → (qual_at e s).null ≡ true
      null v d y = subst (λ v. Describes m a (qual_at e s) (Some v)) y d

      by_mark : (k : ObjMark) → MarkFits a (qual_at e s) k → MarkFits era (free_qual (ref_field W.program f)) k
      by_mark Unborn d = d
      by_mark Committed d = refl
      by_mark (Free x y) d = (refl, d.1 ∙ sym h.1)

      here : (v : Value) → Describes m a (qual_at e s) (Some v) → Describes m era (free_qual (ref_field W.program f)) (Some v)
      here NullRef d = null_is_ref W (slice_get W.program.fields f) (within_null (settle (qual_at e s)) (field_qual W.program W.sig f) (u.value ir) d)
      here (Text t) d = refl
      here (Plain p) d = tt
      here (At o) d = by_mark (m o) d

      either : (k : ObjMark) → MarkFits a (qual_at e s) k → (settle (qual_at e s)).committed ≡ true
      either Unborn d = absurd d
      either Committed d = or_left (qual_at e s).committed (qual_at e s).free d
      either (Free x y) d = or_right (qual_at e s).committed (qual_at e s).free d.0

      slot : (v : Value) → Describes m a (qual_at e s) (Some v) → HoldsRef v → (field_qual W.program W.sig f).committed ≡ true
      slot NullRef d n = absurd n
      slot (Text t) d n = within_committed (settle (qual_at e s)) (field_qual W.program W.sig f) (u.value ir) (or_left (qual_at e s).committed (qual_at e s).free d)
      slot (Plain p) d n = absurd n
      slot (At o) d n = within_committed (settle (qual_at e s)) (field_qual W.program W.sig f) (u.value ir) (either (m o) d)

  -- an int or boolean fits any field
  pub plain_field : (mark : ObjMark) (own : ℕ) (is_ref : Bool) (q : Qualifier) (v : Value) → HoldsPlain (Some v) → FieldOk m mark own is_ref q v
  plain_field mark own is_ref q NullRef h = absurd h
  plain_field mark own is_ref q (Text t) h = absurd h
  plain_field Unborn own is_ref q (Plain p) h = tt
  plain_field Committed own is_ref q (Plain p) h = tt
  plain_field (Free a ended) own is_ref q (Plain p) h = record { value = tt; slot = λ x. absurd x; ends = λ x y. cc }
  plain_field mark own is_ref q (At o) h = absurd h

module _ (W : World) (heap : List Thing) (o c : ℕ) (fs : List Value) (f : ℕ) (v : Value) (is : slice_get heap o ≡ Some (Object c fs)) where
  abbrev pub heap_after : List Thing
  heap_after = slice_set heap o (Object c (slice_set fs f v))

  abbrev pub Written : ℕ → ℕ → Value → Type 0
  Written p g w = ((o ≡ p) × (f ≡ g) × (v ≡ w)) ⊎ ((((o ≡ p) × (f ≡ g)) → ⊥) × (field_at W.program heap p g ≡ Some w))

  object_after : (p : ℕ) → o ≡ p → slice_get heap_after p ≡ Some (Object c (slice_set fs f v))
  object_after p e = subst (λ x. slice_get heap_after x ≡ Some (Object c (slice_set fs f v))) e (set_there heap o (Object c fs) (Object c (slice_set fs f v)) is)

  in_object : (p g : ℕ) (w : Value) → o ≡ p → (f ≡ g) ⊎ (f ≡ g → ⊥) → field_in W.program (Some (Object c (slice_set fs f v))) g ≡ Some w → Written p g w
  in_object p g w e (inl same) h = inl (e, same, set_same fs f v w (subst (λ x. slice_get (slice_set fs f v) x ≡ Some w) (sym same) (cond_is (has_field W.program c g) (slice_get (slice_set fs f v) g) w h)))
  in_object p g w e (inr n) h =
      let old : field_in W.program (Some (Object c fs)) g ≡ Some w = cond_some (has_field W.program c g) (slice_get (slice_set fs f v) g) (slice_get fs g) w h (λ x. sym (set_other fs f g v n) ∙ x) in
      inr (λ x. n x.1, subst (λ t. field_in W.program t g ≡ Some w) (sym (subst (λ x. slice_get heap x ≡ Some (Object c fs)) e is)) old)

  by_place : (p g : ℕ) (w : Value) → (o ≡ p) ⊎ (o ≡ p → ⊥) → field_at W.program heap_after p g ≡ Some w → Written p g w
  by_place p g w (inl e) h = in_object p g w e (eqb_cases f g) (subst (λ t. field_in W.program t g ≡ Some w) (object_after p e) h)
  by_place p g w (inr n) h = inr (λ x. n x.0, subst (λ t. field_in W.program t g ≡ Some w) (set_other heap o p (Object c (slice_set fs f v)) n) h)

  pub written_field : (p g : ℕ) (w : Value) → field_at W.program heap_after p g ≡ Some w → Written p g w
  written_field p g w h = by_place p g w (eqb_cases o p) h

  class_by : (p k : ℕ) → (o ≡ p) ⊎ (o ≡ p → ⊥) → class_at heap p ≡ Some k → class_at heap_after p ≡ Some k
  class_by p k (inl e) h = subst (λ t. class_in t ≡ Some k) (sym (object_after p e)) (subst (λ t. class_in t ≡ Some k) (subst (λ x. slice_get heap x ≡ Some (Object c fs)) e is) h)
  class_by p k (inr n) h = subst (λ t. class_in t ≡ Some k) (sym (set_other heap o p (Object c (slice_set fs f v)) n)) h

  pub set_after : (v ≡ NullRef → (field_qual W.program W.sig f).null ≡ true) → (p g : ℕ) → FieldSet W heap p g → FieldSet W heap_after p g
  set_after null p g s h = by (written_field p g NullRef h)
    where
      by : Written p g NullRef → (field_qual W.program W.sig g).null ≡ true
      by (inl x) = subst (λ y. (field_qual W.program W.sig y).null ≡ true) x.1 (null x.2)
      by (inr x) = s x.1

  pub later_after : (m : Marks) (a : ℕ) → (v ≡ NullRef → (field_qual W.program W.sig f).null ≡ true) → (v ≡ NullRef → Kept W f → ⊥) → Later W a m heap m heap_after
  later_after m a null clean = record {
    fits = λ p q h. h;
    free = λ p ended h. record { now = ended; is = h; more = λ x y. y };
    class = λ p k h. class_by p k (eqb_cases o p) h;
    set = λ p g ended h s. set_after null p g s;
    kept = λ p g n k z. still p g k (written_field p g NullRef z);
  }
    where
      still : (p g : ℕ) → Kept W g → Written p g NullRef → field_at W.program heap p g ≡ Some NullRef
      still p g k (inl x) = absurd (clean x.2 (subst (λ y. Kept W y) (sym x.1) k))
      still p g k (inr x) = x.1

  heap_by : (m : Marks) (gs : List FrameMark) → HeapOk W m gs heap → FieldOk m (m o) (owner W.program f) (ref_field W.program f) (field_qual W.program W.sig f) v → (p : ℕ) → (o ≡ p) ⊎ (o ≡ p → ⊥) → ThingOk W m gs p (m p) (slice_get heap_after p)
  heap_by m gs h ok p (inr n) = subst (λ t. ThingOk W m gs p (m p) t) (sym (set_other heap o p (Object c (slice_set fs f v)) n)) (h p)
  heap_by m gs h ok p (inl e) =
      let old : ObjectOk W m gs p (m p) c fs = subst (λ t. ThingOk W m gs p (m p) t) (subst (λ x. slice_get heap x ≡ Some (Object c fs)) e is) (h p) in
      subst (λ t. ThingOk W m gs p (m p) t) (sym (object_after p e)) (record { fields = λ g w x. by g w (in_object p g w e (eqb_cases f g) x); built = old.built })
    where
      by : (g : ℕ) (w : Value) → Written p g w → FieldOk m (m p) (owner W.program g) (ref_field W.program g) (field_qual W.program W.sig g) w
      by g w (inl x) = subst (λ y. FieldOk m (m p) (owner W.program g) (ref_field W.program g) (field_qual W.program W.sig g) y) x.2 (subst (λ y. FieldOk m (m p) (owner W.program y) (ref_field W.program y) (field_qual W.program W.sig y) v) x.1 (subst (λ y. FieldOk m (m y) (owner W.program f) (ref_field W.program f) (field_qual W.program W.sig f) v) x.0 ok))
      by g w (inr x) = (subst (λ t. ThingOk W m gs p (m p) t) (subst (λ x. slice_get heap x ≡ Some (Object c fs)) e is) (h p)).fields g w (subst (λ t. field_in W.program t g ≡ Some w) (subst (λ x. slice_get heap x ≡ Some (Object c fs)) e is) x.1)

  pub heap_ok_after : (m : Marks) (gs : List FrameMark) → HeapOk W m gs heap → FieldOk m (m o) (owner W.program f) (ref_field W.program f) (field_qual W.program W.sig f) v → HeapOk W m gs heap_after
  heap_ok_after m gs h ok p = heap_by m gs h ok p (eqb_cases o p)

  -- facts and assigned fields of the writing frame
  module _ (b : ℕ) (e : Env) (regs : Regs) (r s : ℕ) (at' : value_at regs r ≡ Some (At o)) (null : v ≡ NullRef → (qual_at e s).null ≡ true) where
    fact_dropped : (k : Key) → not (has_key_field f k) ≡ true → FactOk W heap regs k → FactOk W heap_after regs k
    fact_dropped k n h p is' z = by (written_field p k.field NullRef z)
      where
        by : Written p k.field NullRef → ⊥
        by (inl x) = true_false (eqb k.field f) (eq-eqb k.field f (sym x.1)) (not-true (eqb k.field f) n)
        by (inr x) = h p is' x.1

    fact_added : (qual_at e s).null ≡ false → (k : Key) → is_key r f k ≡ true → FactOk W heap_after regs k
    fact_added q k t p is' z = by (written_field p k.field NullRef z)
      where
        both : (eqb k.reg r ≡ true) × (eqb k.field f ≡ true)
        both = and_parts (eqb k.reg r) (eqb k.field f) t

        by : Written p k.field NullRef → ⊥
        by (inl x) = true_false (qual_at e s).null (null x.2) q
        by (inr x) =
            let same_field : f ≡ k.field = sym (eqb-true k.field f both.1) in
            let there : value_at regs r ≡ Some (At p) = subst (λ y. value_at regs y ≡ Some (At p)) (eqb-true k.reg r both.0) is' in
            let same : o ≡ p = cc in
            x.0 (same, same_field)

    -- facts where no null is written
    pub facts_same : (v ≡ NullRef → ⊥) → AllOn (FactOk W heap regs) (fact_keys W.program b) e.facts → AllOn (FactOk W heap_after regs) (fact_keys W.program b) e.facts
    facts_same n h = on_map (FactOk W heap regs) (FactOk W heap_after regs) (fact_keys W.program b) e.facts (λ k x p is' z. by k p x is' (written_field p k.field NullRef z)) h
      where
        by : (k : Key) (p : ℕ) → FactOk W heap regs k → value_at regs k.reg ≡ Some (At p) → Written p k.field NullRef → ⊥
        by k p x is' (inl y) = n y.2
        by k p x is' (inr y) = x p is' y.1

    module _ (clean : v ≡ NullRef → Kept W f → ⊥) (h : AllOn (FactOk W heap regs) (fact_keys W.program b) e.facts) where
      facts_left : (t : Bool) → monotonic W.program f ≡ t → AllOn (FactOk W heap_after regs) (fact_keys W.program b) (cond t e.facts (mask (λ k. not (has_key_field f k)) (fact_keys W.program b) e.facts))
      facts_left true t = facts_same (λ n. clean n t) h
      facts_left false t = on_mask (FactOk W heap regs) (FactOk W heap_after regs) (λ k. not (has_key_field f k)) (fact_keys W.program b) e.facts h fact_dropped

      facts_by : (t : Bool) → (ltb r (locals W.program b) && not (qual_at e s).null) ≡ t → AllOn (FactOk W heap_after regs) (fact_keys W.program b) (cond t (also (is_key r f) (fact_keys W.program b) (facts_but W.program b e f)) (facts_but W.program b e f))
      facts_by false t = facts_left (monotonic W.program f) refl
      facts_by true t =
          on_also (FactOk W heap_after regs) (FactOk W heap_after regs) (is_key r f) (fact_keys W.program b) (facts_but W.program b e f) (facts_left (monotonic W.program f) refl)
          (λ k x. x) (λ k x. fact_added (not-true (qual_at e s).null (and_parts (ltb r (locals W.program b)) (not (qual_at e s).null) t).1) k x)

      pub facts_after : AllOn (FactOk W heap_after regs) (fact_keys W.program b) (write_facts W.program b e r f s)
      facts_after = facts_by (ltb r (locals W.program b) && not (qual_at e s).null) refl

    assigned_by : (t : Bool) (p : ℕ) → (ctor_of (method_in W.program b) && eqb r 0 && eqb (owner W.program f) (class_of (method_in W.program b))) ≡ t → value_at regs 0 ≡ Some (At p) → (v ≡ NullRef → (field_qual W.program W.sig f).null ≡ true) → AllOn (FieldSet W heap p) (own_keys W.program b) e.assigned → AllOn (FieldSet W heap_after p) (own_keys W.program b) (cond t (also (λ k. eqb k f) (own_keys W.program b) e.assigned) e.assigned)
    assigned_by false p t this fq h = on_map (FieldSet W heap p) (FieldSet W heap_after p) (own_keys W.program b) e.assigned (λ k x. set_after fq p k x) h
    assigned_by true p t this fq h =
        on_also (FieldSet W heap p) (FieldSet W heap_after p) (λ k. eqb k f) (own_keys W.program b) e.assigned h (λ k x. set_after fq p k x) (λ k x z. by k x (written_field p k NullRef z))
      where
        zero_reg : (a b c : Bool) → (a && b && c) ≡ true → b ≡ true
        zero_reg true true c h = refl
        zero_reg true false c h = cc
        zero_reg false b c h = cc

        is_zero : r ≡ 0
        is_zero = eqb-true r 0 (zero_reg (ctor_of (method_in W.program b)) (eqb r 0) (eqb (owner W.program f) (class_of (method_in W.program b))) t)

        by : (k : ℕ) → eqb k f ≡ true → Written p k NullRef → (field_qual W.program W.sig k).null ≡ true
        by k x (inl y) = subst (λ z. (field_qual W.program W.sig z).null ≡ true) y.1 (fq y.2)
        by k x (inr y) =
            let there : value_at regs r ≡ Some (At p) = subst (λ z. value_at regs z ≡ Some (At p)) (sym is_zero) this in
            let same : o ≡ p = cc in
            absurd (y.0 (same, sym (eqb-true k f x)))

    pub assigned_after : (m : Marks) (f' : Frame) (g : FrameMark) (x : Option ℕ) → f'.regs ≡ regs → CtorOk W m heap f' g x → (v ≡ NullRef → (field_qual W.program W.sig f).null ≡ true) → AssignedOk W heap x b e.assigned → AssignedOk W heap_after x b (write_assigned W.program b e r f)
    assigned_after m f' g None same ok fq h = tt
    assigned_after m f' g (Some p) same ok fq h = assigned_by (ctor_of (method_in W.program b) && eqb r 0 && eqb (owner W.program f) (class_of (method_in W.program b))) p refl (subst (λ x. value_at x 0 ≡ Some (At p)) same ok.this) fq h

    pub assigned_kept : (x : Option ℕ) → (v ≡ NullRef → (field_qual W.program W.sig f).null ≡ true) → AssignedOk W heap x b e.assigned → AssignedOk W heap_after x b e.assigned
    assigned_kept None fq h = tt
    assigned_kept (Some p) fq h = on_map (FieldSet W heap p) (FieldSet W heap_after p) (own_keys W.program b) e.assigned (λ k x. set_after fq p k x) h
