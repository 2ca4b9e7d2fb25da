-- Frames as tables and marks say: registers, facts, assigned fields, and what a constructor builds.
use Rattle.std.specs.Prelude.{ℕ, ◌≡◌, true, false, [], Some, List, ◌∷◌, Option, None, Bool, ◌⊎◌}
use Rattle.jn_sigs.specs.Signature.{field_qual}
use Rattle.jn_env.specs.Environment.{Env}
use Rattle.jn_soundness.specs.World.{World, env_at}
use Rattle.jn_points.specs.Lookup.{ctor_of, method_in, class_of, monotonic, owner}
use Rattle.jn_quals.specs.Qualifier.{Qualifier}
use Rattle.jn_heap.specs.Values.{At, NullRef, Value, Thing}
use Rattle.jn_heap.specs.State.{Regs, value_at, Frame}
use Rattle.jn_heap.specs.Steps.{field_at}
use Rattle.jn_heap.specs.Calls.{class_at}
use Rattle.jn_soundness.specs.Marks.{ObjMark, FrameMark, Marks, Free}
use Rattle.jn_points.specs.Shaped.{test_at, Early, Test}
use Rattle.jn_points.specs.Members.{has_field}
use Rattle.jn_env.specs.Keys.{own_keys, Key, fact_keys}
use Rattle.jn_soundness.specs.Heaps.{Describes, IsMember}

-- a qualifier for each register
abbrev pub Described : Marks → ℕ → List Qualifier → Regs → Type 0
Described m a [] [] = Unit {0}
Described m a [] (v ∷ vs) = ⊥
Described m a (q ∷ qs) [] = ⊥
Described m a (q ∷ qs) (v ∷ vs) = Describes m a q v × Described m a qs vs

-- what holds of each key whose bit is on
abbrev pub AllOn : {K : Type 0} → (K → Type 0) → List K → List Bool → Type 0
AllOn P [] bits = Unit {0}
AllOn P (k ∷ keys) [] = Unit {0}
AllOn P (k ∷ keys) (b ∷ bits) = (b ≡ true → P k) × AllOn P keys bits

module _ (W : World) where
  -- all classes above c with a field of an object of class c have ended
  abbrev pub SupersEnded : ℕ → List ℕ → Type 0
  SupersEnded c ended = (f : ℕ) → has_field W.program c f ≡ true → (owner W.program f ≡ c) ⊎ IsMember (owner W.program f) ended

  -- null only where the slot has it
  abbrev pub FieldSet : List Thing → ℕ → ℕ → Type 0
  FieldSet heap o f = field_at W.program heap o f ≡ Some NullRef → (field_qual W.program W.sig f).null ≡ true

  -- the field that a fact names isn't null
  abbrev pub FactOk : List Thing → Regs → Key → Type 0
  FactOk heap regs k = (o : ℕ) → value_at regs k.reg ≡ Some (At o) → field_at W.program heap o k.field ≡ Some NullRef → ⊥

  -- facts on the field survive calls: it takes no null
  abbrev pub Kept : ℕ → Type 0
  Kept f = monotonic W.program f ≡ true

  -- the same, of a fact that survives calls
  abbrev pub KeptOk : List Thing → Regs → Key → Type 0
  KeptOk heap regs k = Kept k.field → FactOk heap regs k

  -- the assigned fields of the object that a constructor builds are null only where their slots have it
  abbrev pub AssignedOk : List Thing → Option ℕ → ℕ → List Bool → Type 0
  AssignedOk heap None b bits = Unit {0}
  AssignedOk heap (Some o) b bits = AllOn (FieldSet heap o) (own_keys W.program b) bits

  -- a constructor's frame: its `this` is free in its era, and past its CtorCall all superclasses have ended on it
  pub record Ctor (m : ℕ → ObjMark) (heap : List Thing) (f : Frame) (g : FrameMark) (o : ℕ) : Type 0 where
    pub inside : ctor_of (method_in W.program f.body) ≡ true
    pub this : value_at f.regs 0 ≡ Some (At o)
    pub ended : List ℕ
    pub free : m o ≡ Free g.era ended
    pub supers : Early W.program f.body f.at ⊎ SupersEnded (class_of (method_in W.program f.body)) ended
    pub class : g.made ≡ true → class_at heap o ≡ Some (class_of (method_in W.program f.body))

  -- exactly constructors build an object
  abbrev pub CtorOk : Marks → List Thing → Frame → FrameMark → Option ℕ → Type 0
  CtorOk m heap f g None = ctor_of (method_in W.program f.body) ≡ false
  CtorOk m heap f g (Some o) = Ctor m heap f g o

  -- a frame under an environment, but for facts
  pub record Stands (m : ℕ → ObjMark) (heap : List Thing) (f : Frame) (g : FrameMark) (e : Env) : Type 0 where
    pub quals : Described m g.era e.quals f.regs
    pub assigned : AssignedOk heap g.built f.body e.assigned
    pub ctor : CtorOk m heap f g g.built

  -- a frame that waits at a point that its table reaches
  pub record GoodFrame (m : ℕ → ObjMark) (heap : List Thing) (f : Frame) (g : FrameMark) : Type 0 where
    pub env : Env
    pub reached : env_at W f.body f.at ≡ Some env
    pub stands : Stands m heap f g env
    pub kept : AllOn (KeptOk heap f.regs) (fact_keys W.program f.body) env.facts

  -- the register holds an object, and the tested one what its field holds
  pub record Tested (heap : List Thing) (regs : Regs) (t : Test) : Type 0 where
    pub object : ℕ
    pub there : value_at regs t.reg ≡ Some (At object)
    pub value : Value
    pub read : field_at W.program heap object t.field ≡ Some value
    pub same : (u : Value) → value_at regs t.tested ≡ Some u → value ≡ u

  -- at a test with an origin
  abbrev pub TestOk : List Thing → Regs → Option Test → Type 0
  TestOk heap regs None = Unit {0}
  TestOk heap regs (Some t) = Tested heap regs t

  -- the running frame
  pub record GoodTop (m : ℕ → ObjMark) (heap : List Thing) (f : Frame) (g : FrameMark) : Type 0 where
    pub env : Env
    pub reached : env_at W f.body f.at ≡ Some env
    pub stands : Stands m heap f g env
    pub facts : AllOn (FactOk heap f.regs) (fact_keys W.program f.body) env.facts
    pub test : TestOk heap f.regs (test_at W.program f.body f.at)
