-- Calls of methods and constructors from outside, and the states in which they begin (JLS 8, 15.12, 15.9, 12.5).
use Rattle.std.specs.Prelude.{ℕ, ◌≡◌, ◌⊎◌, true, false, List, [], ◌∷◌, ◌++◌, length, Some}
use Rattle.jn_quals.specs.Qualifier.{Qualifier}
use Rattle.jn_points.specs.declared.point.BaseType.{BaseType}
use Rattle.jn_points.specs.declared.point.BaseType.TheVariants.{Ref}
use Rattle.jn_points.specs.declared.program.Program.{Program}
use Rattle.jn_points.specs.Lookup.{body_of, class_of, ctor_of, method_at, params_of, private_of, slots_of, static_of}
use Rattle.jn_points.specs.Regular.{IsConcrete}
use Rattle.jn_sigs.specs.Signature.{receiver_of, slot_quals}
use Rattle.jn_heap.specs.Values.{Prim, Value, At, Thing, Object, Limits, defaults}
use Rattle.jn_heap.specs.State.{State}
use Rattle.jn_heap.specs.Calls.{class_at, dispatched, entered}
use Rattle.jn_caller_law.specs.Whole.{Takes}

-- a call of a method by number, with its arguments and the body that runs: of a static method; on the object at a place, by the
-- method that it selects; or of a constructor, on a new object
pub data Call : Type 0 where
  StaticCall : (method body : ℕ) (args : List Value) → Call
  InstanceCall : (method object selected body : ℕ) (args : List Value) → Call
  ConstructorCall : (method body : ℕ) (args : List Value) → Call

-- the method that the caller names
abbrev pub named : Call → ℕ
named (StaticCall m b args) = m
named (InstanceCall m o k b args) = m
named (ConstructorCall m b args) = m

-- the body that runs for the call
abbrev pub body_run : Call → ℕ
body_run (StaticCall m b args) = b
body_run (InstanceCall m o k b args) = b
body_run (ConstructorCall m b args) = b

-- what the body is given: `this` first, where there is one
abbrev pub given_values : List Thing → Call → List Value
given_values heap (StaticCall m b args) = args
given_values heap (InstanceCall m o k b args) = At o ∷ args
given_values heap (ConstructorCall m b args) = At (length heap) ∷ args

module _ (P : Program) where
  -- the heap as the body finds it: a constructor's new object is its last thing, with the default value in each field (JLS 8, 15.9.4, 12.5, 4.12.5)
  abbrev pub heap_with : List Thing → Call → List Thing
  heap_with heap (StaticCall m b args) = heap
  heap_with heap (InstanceCall m o k b args) = heap
  heap_with heap (ConstructorCall m b args) = heap ++ Object (class_of (method_at P m)) (defaults P.fields) ∷ []

  -- one frame of the body that runs, which no frame waits for (JLS 8, 15.12.4.5)
  abbrev pub begin : Limits → List Prim → List ℕ → List Thing → Call → State
  begin limits statics out heap c = record {
    limits = limits;
    heap = heap_with heap c;
    statics = statics;
    out = out;
    top = entered P (body_run c) (given_values heap c);
    waiting = [];
  }

  -- the method named itself, as by super or where it is private, or what the object's class has for it (JLS 8, 15.12.4.4)
  abbrev pub Selects : List Thing → ℕ → ℕ → ℕ → Type 0
  Selects heap o m k = (k ≡ m) ⊎ ((private_of (method_at P m) ≡ false) × (dispatched P (class_at heap o) m ≡ Some k))

  -- a value for each type and qualifier, which takes it
  abbrev pub AllTaken : List Thing → List BaseType → List Qualifier → List Value → Type 0
  AllTaken heap [] [] [] = Unit {0}
  AllTaken heap [] [] (v ∷ vs) = ⊥
  AllTaken heap [] (q ∷ qs) vs = ⊥
  AllTaken heap (t ∷ ts) [] vs = ⊥
  AllTaken heap (t ∷ ts) (q ∷ qs) [] = ⊥
  AllTaken heap (t ∷ ts) (q ∷ qs) (v ∷ vs) = Takes P heap t q v × AllTaken heap ts qs vs

  module _ (s : List Qualifier) where
    -- the parameters' types and slots take the arguments
    abbrev pub TakesArgs : List Thing → ℕ → List Value → Type 0
    TakesArgs heap m args = AllTaken heap (params_of (method_at P m)) (slot_quals s (slots_of (method_at P m))) args

    -- what callers see to: a method with a body; a receiver of its class that the receiver's slot takes, or a class that isn't
    -- abstract; and arguments that the parameters take (JLS 8, 15.12.2, 15.12.4.4, 15.9.1)
    abbrev pub Allowed : List Thing → Call → Type 0
    Allowed heap (StaticCall m b args) = (static_of (method_at P m) ≡ true) × (body_of (method_at P m) ≡ Some b) × TakesArgs heap m args
    Allowed heap (InstanceCall m o k b args) = (static_of (method_at P m) ≡ false) × (ctor_of (method_at P m) ≡ false) × Takes P heap (Ref (record { 0 = class_of (method_at P m) })) (receiver_of s (method_at P m)) (At o) × Selects heap o m k × (body_of (method_at P k) ≡ Some b) × TakesArgs heap m args
    Allowed heap (ConstructorCall m b args) = (ctor_of (method_at P m) ≡ true) × IsConcrete P (class_of (method_at P m)) × (body_of (method_at P m) ≡ Some b) × TakesArgs heap m args
