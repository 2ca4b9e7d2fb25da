-- The running frame after a point that changes its registers alone.
use Rattle.std.proofs.Common.{◌≡◌, ℕ, ◌+◌, Bool, true, false, not, ◌||◌, ◌⊎◌, inl, inr, List, ◌++◌, Option, Some, None, refl, sym, ap, ◌∙◌, subst}
use Rattle.std.specs.Prelude.{slice_set, eqb}
use Rattle.std.proofs.lemmas.Bool.{eqb-true, eq-eqb, and_parts, not-true}
use Rattle.jn_points.specs.Shaped.{Early, FromRead, NotCtorCall, Test, test_at, test_by}
use Rattle.jn_quals.specs.Qualifier.{Qualifier}
use Rattle.jn_points.specs.declared.point.Origin.{Origin}
use Rattle.jn_points.specs.declared.point.PointKind.{PointKind}
use Rattle.jn_points.specs.declared.point.PointKind.TheVariants.{FieldRead}
use Rattle.jn_heap.specs.Values.{At, Fails, Gives, Got, Lacks, NullRef, Plain, Text, Thing, Value}
use Rattle.jn_env.specs.Order.{BitsAbove, EnvWithin, SlotWithin}
use Rattle.jn_soundness.specs.Checked.{Edge}
use Rattle.jn_env.specs.Environment.{Env}
use Rattle.jn_heap.specs.State.{Frame, Regs, holds_at, moves_to, object_of, value_at}
use Rattle.jn_heap.specs.Steps.{field_at}
use Rattle.jn_transfer.specs.Transfer.{IsAmong, learn, put, refine, side}
use Rattle.jn_env.specs.Keys.{Key, fact_keys, has_reg, is_key, mask, own_keys}
use Rattle.jn_soundness.specs.World.{World, env_at}
use Rattle.jn_points.specs.Lookup.{ctor_of, method_in}
use Rattle.jn_quals.specs.Order.{is_none, null_part, without_null}
use Rattle.jn_soundness.proofs.Basics.{true_false, described_within, described_set, described_refined, on_above, on_mask, on_also, value_other, value_zero}
use Rattle.jn_soundness.specs.Frames.{AllOn, AssignedOk, CtorOk, Described, FactOk, FieldSet, GoodTop, Stands, TestOk}
use Rattle.jn_soundness.specs.Marks.{Committed, FrameMark, Free, Marks, ObjMark, Unborn}
use Rattle.jn_soundness.specs.Heaps.{Describes, HoldsRef, MarkFits}

-- the value of a result, where it has one
abbrev pub GotOk : (Value → Type 0) → Got Value → Type 0
GotOk P (Gives v) = P v
GotOk P (Fails e) = Unit {0}
GotOk P Lacks = Unit {0}

abbrev pub NotRead : PointKind → Type 0
NotRead (FieldRead dst r f) = ⊥
NotRead k = Unit {0}

none_of : (k : PointKind) (t : Option Test) → NotRead k → FromRead k t → t ≡ None
none_of k None n h = refl
none_of (FieldRead dst r f) (Some t) n h = absurd n
none_of k (Some t) n h = absurd h

pub object_is : (v : Option Value) (o : ℕ) → object_of v ≡ Some o → v ≡ Some (At o)
object_is None o h = cc
object_is (Some NullRef) o h = cc
object_is (Some (Text t)) o h = cc
object_is (Some (Plain p)) o h = cc
object_is (Some (At x)) o h = let same : x ≡ o = cc in ap (λ y. Some (At y)) same

pub alive : (m : Marks) (a : ℕ) (q : Qualifier) (v : Value) → Describes m a q (Some v) → HoldsRef v → is_none (without_null q) ≡ false
alive m a q NullRef d h = absurd h
alive m a q (Text t) d h = some_left q.committed q.free d
  where
    some_left : (c f : Bool) → c ≡ true → not (false || (c || f)) ≡ false
    some_left true f h = refl
    some_left false f h = cc
alive m a q (Plain p) d h = absurd h
alive m a q (At o) d h = by_mark (m o) d
  where
    some_left : (c f : Bool) → c ≡ true → not (false || (c || f)) ≡ false
    some_left true f h = refl
    some_left false f h = cc

    some_right : (c f : Bool) → f ≡ true → not (false || (c || f)) ≡ false
    some_right true f h = refl
    some_right false true h = refl
    some_right false false h = cc

    by_mark : (k : ObjMark) → MarkFits a q k → is_none (without_null q) ≡ false
    by_mark Unborn h = absurd h
    by_mark Committed h = some_left q.committed q.free h
    by_mark (Free e ended) h = some_right q.committed q.free h.0

pub null_alive : (q : Qualifier) → q.null ≡ true → is_none (null_part q) ≡ false
null_alive q h = some_null q.null h
  where
    some_null : (n : Bool) → n ≡ true → not (n || (false || false)) ≡ false
    some_null true h = refl
    some_null false h = cc

pub without_null_describes : (m : Marks) (a : ℕ) (q : Qualifier) (v : Value) → HoldsRef v → Describes m a q (Some v) → Describes m a (without_null q) (Some v)
without_null_describes m a q NullRef n d = absurd n
without_null_describes m a q (Text t) n d = d
without_null_describes m a q (Plain p) n d = tt
without_null_describes m a q (At o) n d = by_mark (m o) d
  where
    by_mark : (k : ObjMark) → MarkFits a q k → MarkFits a (without_null q) k
    by_mark Unborn h = h
    by_mark Committed h = h
    by_mark (Free e ended) h = h

pub side_among : (b : Bool) (to : ℕ) (e : Env) (rest : List (ℕ × Env)) → b ≡ false → IsAmong (to, e) (side b to e ++ rest)
side_among true to e rest h = cc
side_among false to e rest h = inl refl

pub side_alone : (b : Bool) (to : ℕ) (e : Env) → b ≡ false → IsAmong (to, e) (side b to e)
side_alone true to e h = cc
side_alone false to e h = inl refl

module _ (W : World) where
  -- an edge whose target is no test with an origin
  pub record Step (b p : ℕ) (x : ℕ × Env) : Type 0 where
    pub within : SlotWithin (Some x.1) (env_at W b x.0)
    pub plain : test_at W.program b x.0 ≡ None
    pub early : Early W.program b p → Early W.program b x.0

  pub plain_step : (b p : ℕ) (k : PointKind) (x : ℕ × Env) → NotRead k → NotCtorCall k → Edge W b p k x → Step b p x
  plain_step b p k x n c h = record { within = h.within; plain = none_of k (test_at W.program b x.0) n h.test; early = h.early c }

  assigned_above : (heap : List Thing) (x : Option ℕ) (b : ℕ) (as' bs : List Bool) → BitsAbove as' bs → AssignedOk W heap x b as' → AssignedOk W heap x b bs
  assigned_above heap None b as' bs w h = tt
  assigned_above heap (Some o) b as' bs w h = on_above (FieldSet W heap o) (own_keys W.program b) as' bs w h

  pub stands_within : (m : Marks) (heap : List Thing) (f : Frame) (g : FrameMark) (e h : Env) → EnvWithin e h → Stands W m heap f g e → Stands W m heap f g h
  stands_within m heap f g e h w s = record {
    quals = described_within m g.era e.quals h.quals f.regs w.quals s.quals;
    assigned = assigned_above heap g.built f.body e.assigned h.assigned w.assigned s.assigned;
    ctor = s.ctor;
  }

  module _ (m : Marks) (heap : List Thing) where
    arrives_at : (f : Frame) (g : FrameMark) (e : Env) (o : Option Env) → env_at W f.body f.at ≡ o → SlotWithin (Some e) o → Stands W m heap f g e → AllOn (FactOk W heap f.regs) (fact_keys W.program f.body) e.facts → TestOk W heap f.regs (test_at W.program f.body f.at) → GoodTop W m heap f g
    arrives_at f g e None is w s fa t = absurd w
    arrives_at f g e (Some h) is w s fa t = record { env = h; reached = is; stands = stands_within m heap f g e h w s; facts = on_above (FactOk W heap f.regs) (fact_keys W.program f.body) e.facts h.facts w.facts fa; test = t }

    pub arrives : (f : Frame) (g : FrameMark) (e : Env) → SlotWithin (Some e) (env_at W f.body f.at) → Stands W m heap f g e → AllOn (FactOk W heap f.regs) (fact_keys W.program f.body) e.facts → TestOk W heap f.regs (test_at W.program f.body f.at) → GoodTop W m heap f g
    arrives f g e w s fa t = arrives_at f g e (env_at W f.body f.at) refl w s fa t

    pub no_test : (regs : Regs) (t : Option Test) → t ≡ None → TestOk W heap regs t
    no_test regs t h = subst (λ t. TestOk W heap regs t) (sym h) tt

    early_or : {X Y Z : Type 0} → (X → Y) → X ⊎ Z → Y ⊎ Z
    early_or h (inl x) = inl (h x)
    early_or h (inr z) = inr z

    -- a constructor's frame at another point, with the same this
    pub ctor_moves : (f : Frame) (g : FrameMark) (to : ℕ) (regs : Regs) (x : Option ℕ) → CtorOk W m heap f g x → (ctor_of (method_in W.program f.body) ≡ true → value_at regs 0 ≡ value_at f.regs 0) → (Early W.program f.body f.at → Early W.program f.body to) → CtorOk W m heap (record { body = f.body; at = to; regs = regs }) g x
    ctor_moves f g to regs None c z h = c
    ctor_moves f g to regs (Some o) c z h = record { inside = c.inside; this = z c.inside ∙ c.this; ended = c.ended; free = c.free; supers = early_or h c.supers; class = c.class }

    pub goes_top : (f : Frame) (g : FrameMark) (to : ℕ) (regs : Regs) (e : Env) → CtorOk W m heap f g g.built → Step f.body f.at (to, e) → Described m g.era e.quals regs → AssignedOk W heap g.built f.body e.assigned → AllOn (FactOk W heap regs) (fact_keys W.program f.body) e.facts → (ctor_of (method_in W.program f.body) ≡ true → value_at regs 0 ≡ value_at f.regs 0) → GoodTop W m heap (record { body = f.body; at = to; regs = regs }) g
    goes_top f g to regs e c s d a fa z = arrives (record { body = f.body; at = to; regs = regs }) g e s.within (record { quals = d; assigned = a; ctor = ctor_moves f g to regs g.built c z s.early }) fa (no_test regs (test_at W.program f.body to) s.plain)

    fact_other : (regs : Regs) (dst : ℕ) (v : Option Value) (k : Key) → not (has_reg dst k) ≡ true → FactOk W heap regs k → FactOk W heap (slice_set regs dst v) k
    fact_other regs dst v k n h o is z =
        h o (sym (value_other regs dst k.reg v (λ e. true_false (eqb k.reg dst) (eq-eqb k.reg dst e) (not-true (eqb k.reg dst) n))) ∙ is) z

    pub facts_set : (b : ℕ) (regs : Regs) (dst : ℕ) (v : Option Value) (bits : List Bool) → AllOn (FactOk W heap regs) (fact_keys W.program b) bits → AllOn (FactOk W heap (slice_set regs dst v)) (fact_keys W.program b) (mask (λ k. not (has_reg dst k)) (fact_keys W.program b) bits)
    facts_set b regs dst v bits h = on_mask (FactOk W heap regs) (FactOk W heap (slice_set regs dst v)) (λ k. not (has_reg dst k)) (fact_keys W.program b) bits h (λ k n x. fact_other regs dst v k n x)

    pub some_zero : (dst : ℕ) → (Some dst ≡ Some 0 → ⊥) → dst ≡ 0 → ⊥
    some_zero dst h e = h (ap (λ x. Some x) e)

    module _ (f : Frame) (g : FrameMark) (t : GoodTop W m heap f g) where
      pub set_top : (dst : ℕ) (q : Qualifier) (v : Value) → Step f.body f.at (f.at + 1, put W.program f.body t.env dst q) → (ctor_of (method_in W.program f.body) ≡ true → Some dst ≡ Some 0 → ⊥) → Describes m g.era q (Some v) → GoodTop W m heap (holds_at f dst v) g
      set_top dst q v s k d = goes_top f g (f.at + 1) (slice_set f.regs dst (Some v)) (put W.program f.body t.env dst q) t.stands.ctor s
          (described_set m g.era t.env.quals f.regs dst q v d t.stands.quals) t.stands.assigned
          (facts_set f.body f.regs dst (Some v) t.env.facts t.facts)
          (λ c. value_zero f.regs dst (Some v) (some_zero dst (k c)))

      pub move_top : (to : ℕ) → Step f.body f.at (to, t.env) → GoodTop W m heap (moves_to f to) g
      move_top to s = goes_top f g to f.regs t.env t.stands.ctor s t.stands.quals t.stands.assigned t.facts (λ c. refl)

      pub refine_top : (to r : ℕ) (q : Qualifier) → Step f.body f.at (to, refine t.env r q) → Describes m g.era q (value_at f.regs r) → GoodTop W m heap (moves_to f to) g
      refine_top to r q s d = goes_top f g to f.regs (refine t.env r q) t.stands.ctor s (described_refined m g.era t.env.quals f.regs r q d t.stands.quals) t.stands.assigned t.facts (λ c. refl)

      learned : (og : Origin) (r : ℕ) (v : Value) → TestOk W heap f.regs (test_by (Some og) r) → value_at f.regs r ≡ Some v → HoldsRef v → (k : Key) → is_key og.reg.0 og.field.0 k ≡ true → FactOk W heap f.regs k
      learned og r v h is n k e o at' z =
          let both = and_parts (eqb k.reg og.reg.0) (eqb k.field og.field.0) e in
          let same_reg : k.reg ≡ og.reg.0 = eqb-true k.reg og.reg.0 both.0 in
          let same_field : k.field ≡ og.field.0 = eqb-true k.field og.field.0 both.1 in
          let place : Some (At h.object) ≡ Some (At o) = sym h.there ∙ subst (λ x. value_at f.regs x ≡ Some (At o)) same_reg at' in
          let object : h.object ≡ o = cc in
          let held : Some h.value ≡ Some NullRef = sym h.read ∙ subst (λ x. field_at W.program heap x og.field.0 ≡ Some NullRef) (sym object) (subst (λ x. field_at W.program heap o x ≡ Some NullRef) same_field z) in
          let value : h.value ≡ NullRef = cc in
          let null : NullRef ≡ v = sym value ∙ h.same v is in
          subst (λ x. HoldsRef x) (sym null) n

      pub learn_top : (og : Option Origin) (to r : ℕ) (q : Qualifier) (v : Value) → Step f.body f.at (to, learn W.program f.body og (refine t.env r q)) → TestOk W heap f.regs (test_by og r) → value_at f.regs r ≡ Some v → HoldsRef v → Describes m g.era q (value_at f.regs r) → GoodTop W m heap (moves_to f to) g
      learn_top None to r q v s h is n d = refine_top to r q s d
      learn_top (Some og) to r q v s h is n d = goes_top f g to f.regs (learn W.program f.body (Some og) (refine t.env r q)) t.stands.ctor s
          (described_refined m g.era t.env.quals f.regs r q d t.stands.quals) t.stands.assigned
          (on_also (FactOk W heap f.regs) (FactOk W heap f.regs) (is_key og.reg.0 og.field.0) (fact_keys W.program f.body) t.env.facts t.facts (λ k x. x) (λ k e. learned og r v h is n k e))
          (λ c. refl)
