-- Frames stay good under a later heap and marking.
use Rattle.std.proofs.Common.{◌≡◌, ℕ, Bool, ◌⊎◌, inl, inr, List, [], ◌∷◌, Option, Some, None, subst}
use Rattle.jn_quals.specs.Qualifier.{Qualifier}
use Rattle.jn_heap.specs.Values.{At, NullRef, Plain, Text, Thing, Value}
use Rattle.jn_env.specs.Environment.{Env}
use Rattle.jn_heap.specs.State.{Frame, Regs, value_at}
use Rattle.jn_heap.specs.Steps.{field_at}
use Rattle.jn_heap.specs.Calls.{class_at}
use Rattle.jn_soundness.specs.World.{World}
use Rattle.jn_points.specs.Lookup.{class_of, method_in}
use Rattle.jn_env.specs.Keys.{Key, fact_keys, own_keys}
use Rattle.jn_env.specs.Order.{qual_at}
use Rattle.jn_soundness.proofs.Basics.{described_at, on_map}
use Rattle.jn_soundness.specs.Frames.{AllOn, AssignedOk, CtorOk, Described, FactOk, FieldSet, GoodFrame, GoodTop, Kept, KeptOk, Stands, SupersEnded}
use Rattle.jn_soundness.specs.Heaps.{Describes, IsMember, MarkFits}
use Rattle.jn_soundness.specs.Marks.{FrameMark, Free, Marks, ObjMark, Unborn}
use Rattle.jn_soundness.specs.Calls.{Waiting}

pub record Freed (m : ℕ → ObjMark) (a o : ℕ) (ended : List ℕ) : Type 0 where
  pub now : List ℕ
  pub is : m o ≡ Free a now
  pub more : (c : ℕ) → IsMember c ended → IsMember c now

-- what a frame of era a knows holds after it too
pub record Later (W : World) (a : ℕ) (m : ℕ → ObjMark) (heap : List Thing) (n : ℕ → ObjMark) (heap' : List Thing) : Type 0 where
  pub fits : (o : ℕ) (q : Qualifier) → MarkFits a q (m o) → MarkFits a q (n o)
  pub free : (o : ℕ) (ended : List ℕ) → m o ≡ Free a ended → Freed n a o ended
  pub class : (o c : ℕ) → class_at heap o ≡ Some c → class_at heap' o ≡ Some c
  pub set : (o f : ℕ) (ended : List ℕ) → m o ≡ Free a ended → FieldSet W heap o f → FieldSet W heap' o f
  -- null is new in no field whose facts are kept
  pub kept : (o f : ℕ) → (m o ≡ Unborn → ⊥) → Kept W f → field_at W.program heap' o f ≡ Some NullRef → field_at W.program heap o f ≡ Some NullRef

pub fits_born : (a : ℕ) (q : Qualifier) (t : ObjMark) → MarkFits a q t → t ≡ Unborn → ⊥
fits_born a q t h e = subst (λ t. MarkFits a q t) e h

module _ (W : World) (m : Marks) (heap : List Thing) (n : Marks) (heap' : List Thing) where
  pub describes_later : (a : ℕ) (l : Later W a m heap n heap') (q : Qualifier) (v : Option Value) → Describes m a q v → Describes n a q v
  describes_later a l q None d = tt
  describes_later a l q (Some NullRef) d = d
  describes_later a l q (Some (Text t)) d = d
  describes_later a l q (Some (Plain p)) d = tt
  describes_later a l q (Some (At o)) d = l.fits o q d

  pub described_later : (a : ℕ) (l : Later W a m heap n heap') (qs : List Qualifier) (vs : Regs) → Described m a qs vs → Described n a qs vs
  described_later a l [] [] d = tt
  described_later a l [] (v ∷ vs) d = d
  described_later a l (q ∷ qs) [] d = d
  described_later a l (q ∷ qs) (v ∷ vs) d = (describes_later a l q v d.0, described_later a l qs vs d.1)

  pub supers_later : {X : Type 0} (c : ℕ) (ended now : List ℕ) → ((d : ℕ) → IsMember d ended → IsMember d now) → X ⊎ SupersEnded W c ended → X ⊎ SupersEnded W c now
  supers_later c ended now h (inl x) = inl x
  supers_later c ended now h (inr s) = inr (λ f k. member (s f k))
    where
      member : {f : ℕ} → (f ≡ c) ⊎ IsMember f ended → (f ≡ c) ⊎ IsMember f now
      member (inl e) = inl e
      member {f} (inr e) = inr (h f e)

  pub ctor_later : (f : Frame) (g : FrameMark) (l : Later W g.era m heap n heap') (x : Option ℕ) → CtorOk W m heap f g x → CtorOk W n heap' f g x
  ctor_later f g l None c = c
  ctor_later f g l (Some o) c =
      let k = l.free o c.ended c.free in
      record { inside = c.inside; this = c.this; ended = k.now; free = k.is; supers = supers_later (class_of (method_in W.program f.body)) c.ended k.now k.more c.supers; class = λ e. l.class o (class_of (method_in W.program f.body)) (c.class e) }

  pub assigned_later : (f : Frame) (g : FrameMark) (l : Later W g.era m heap n heap') (x : Option ℕ) (bits : List Bool) → CtorOk W m heap f g x → AssignedOk W heap x f.body bits → AssignedOk W heap' x f.body bits
  assigned_later f g l None bits c h = tt
  assigned_later f g l (Some o) bits c h = on_map (FieldSet W heap o) (FieldSet W heap' o) (own_keys W.program f.body) bits (λ k s. l.set o k c.ended c.free s) h

  pub stands_later : (f : Frame) (g : FrameMark) (e : Env) (l : Later W g.era m heap n heap') → Stands W m heap f g e → Stands W n heap' f g e
  stands_later f g e l s = record {
    quals = described_later g.era l e.quals f.regs s.quals;
    assigned = assigned_later f g l g.built e.assigned s.ctor s.assigned;
    ctor = ctor_later f g l g.built s.ctor;
  }

  -- a register holds nothing unborn
  pub held_born : (f : Frame) (g : FrameMark) (e : Env) → Described m g.era e.quals f.regs → (k : Key) (o : ℕ) → value_at f.regs k.reg ≡ Some (At o) → m o ≡ Unborn → ⊥
  held_born f g e d k o is = fits_born g.era (qual_at e k.reg) (m o) (subst (λ v. Describes m g.era (qual_at e k.reg) v) is (described_at m g.era e.quals f.regs k.reg d))

  pub kept_later : (f : Frame) (g : FrameMark) (e : Env) (l : Later W g.era m heap n heap') → Described m g.era e.quals f.regs → AllOn (KeptOk W heap f.regs) (fact_keys W.program f.body) e.facts → AllOn (KeptOk W heap' f.regs) (fact_keys W.program f.body) e.facts
  kept_later f g e l d h = on_map (KeptOk W heap f.regs) (KeptOk W heap' f.regs) (fact_keys W.program f.body) e.facts (λ k x y o is z. x y o is (l.kept o k.field (held_born f g e d k o is) y z)) h

  abbrev pub frame_later : (f : Frame) (g : FrameMark) → Later W g.era m heap n heap' → GoodFrame W m heap f g → GoodFrame W n heap' f g
  frame_later f g l x = record { env = x.env; reached = x.reached; stands = stands_later f g x.env l x.stands; kept = kept_later f g x.env l x.stands.quals x.kept }

  -- the running frame begins to wait
  abbrev pub top_waits : (f : Frame) (g : FrameMark) → GoodTop W m heap f g → GoodFrame W m heap f g
  top_waits f g t = record { env = t.env; reached = t.reached; stands = t.stands; kept = on_map (FactOk W heap f.regs) (KeptOk W heap f.regs) (fact_keys W.program f.body) t.env.facts (λ k x y. x) t.facts }

  abbrev pub AllLater : List FrameMark → Type 0
  AllLater [] = Unit {0}
  AllLater (h ∷ hs) = Later W h.era m heap n heap' × AllLater hs

  pub all_later : ((a : ℕ) → Later W a m heap n heap') → (hs : List FrameMark) → AllLater hs
  all_later l [] = tt
  all_later l (h ∷ hs) = (l h.era, all_later l hs)

  pub waiting_later : (b : ℕ) (g : FrameMark) (ws : List Frame) (hs : List FrameMark) → AllLater hs → Waiting W m heap b g ws hs → Waiting W n heap' b g ws hs
  waiting_later b g [] [] l w = w
  waiting_later b g [] (h ∷ hs) l w = absurd w
  waiting_later b g (f ∷ ws) [] l w = absurd w
  waiting_later b g (f ∷ ws) (h ∷ hs) l w =
      let x = w.0 in (
        record {
          frame = frame_later f h l.0 x.frame;
          pt = x.pt;
          point = x.point;
          waits = x.waits;
          era = x.era;
        },
        waiting_later f.body h ws hs l.1 w.1,
      )
