-- A heap as its marks say: what fields and elements of committed and of free objects hold.
use Rattle.std.specs.Prelude.{ℕ, ◌≡◌, true, [], Some, slice_get, List, ◌∷◌, Option, None, Bool, ◌⊎◌}
use Rattle.jn_points.specs.Lookup.{ref_field, owner}
use Rattle.jn_sigs.specs.Signature.{field_qual}
use Rattle.jn_soundness.specs.World.{World}
use Rattle.jn_quals.specs.Qualifier.{Qualifier}
use Rattle.jn_transfer.specs.Transfer.{elem_qual}
use Rattle.jn_heap.specs.Values.{At, Elems, NullRef, Plain, Text, Value, Thing, Object}
use Rattle.jn_soundness.specs.Marks.{ObjMark, FrameMark, Marks, Free, Unborn, Committed}
use Rattle.jn_points.specs.Members.{has_field}
use Rattle.jn_heap.specs.Steps.{field_in}

-- a qualifier allows a mark in a frame of era a
abbrev pub MarkFits : ℕ → Qualifier → ObjMark → Type 0
MarkFits a q Unborn = ⊥
MarkFits a q Committed = q.committed ≡ true
MarkFits a q (Free era ended) = (q.free ≡ true) × (era ≡ a)

-- a qualifier allows what a register of a frame of era a holds
abbrev pub Describes : Marks → ℕ → Qualifier → Option Value → Type 0
Describes m a q None = Unit {0}
Describes m a q (Some NullRef) = q.null ≡ true
Describes m a q (Some (Text t)) = q.committed ≡ true
Describes m a q (Some (Plain p)) = Unit {0}
Describes m a q (Some (At o)) = MarkFits a q (m o)

-- what a committed place holds
abbrev pub Settled : Marks → Qualifier → Value → Type 0
Settled m q NullRef = q.null ≡ true
Settled m q (Text t) = q.committed ≡ true
Settled m q (Plain p) = Unit {0}
Settled m q (At o) = (m o ≡ Committed) × (q.committed ≡ true)

-- c is in the list
abbrev pub IsMember : ℕ → List ℕ → Type 0
IsMember c [] = ⊥
IsMember c (d ∷ ds) = (c ≡ d) ⊎ IsMember c ds

-- a reference that isn't null
abbrev pub HoldsRef : Value → Type 0
HoldsRef NullRef = ⊥
HoldsRef (Text t) = Unit {0}
HoldsRef (Plain p) = ⊥
HoldsRef (At o) = Unit {0}

-- what a free object's field may hold
abbrev pub free_qual : Bool → Qualifier
free_qual b = record { null = b; committed = true; free = true }

-- a field of a free object of era a: null, or committed, or free in the same era; and null only where the slot has it,
-- once its class has ended
pub record FreeField (m : ℕ → ObjMark) (a : ℕ) (ended : List ℕ) (own : ℕ) (is_ref : Bool) (q : Qualifier) (v : Value) : Type 0 where
  pub value : Describes m a (free_qual is_ref) (Some v)
  pub slot : HoldsRef v → q.committed ≡ true
  pub ends : IsMember own ended → v ≡ NullRef → q.null ≡ true

-- a field of an object with that mark
abbrev pub FieldOk : Marks → ObjMark → ℕ → Bool → Qualifier → Value → Type 0
FieldOk m Unborn own is_ref q v = Unit {0}
FieldOk m Committed own is_ref q v = Settled m q v
FieldOk m (Free a ended) own is_ref q v = FreeField m a ended own is_ref q v

-- the frame of the object's new is there
abbrev pub Building : List FrameMark → ℕ → ℕ → Type 0
Building [] o a = ⊥
Building (g ∷ gs) o a = ((g.made ≡ true) × (g.built ≡ Some o) × (g.era ≡ a)) ⊎ Building gs o a

-- the era is that of some frame
abbrev pub IsEra : ℕ → List FrameMark → Type 0
IsEra a [] = ⊥
IsEra a (g ∷ gs) = (a ≡ g.era) ⊎ IsEra a gs

module _ (W : World) where
  -- all classes with a field of an object of class c have ended
  abbrev pub AllEnded : ℕ → List ℕ → Type 0
  AllEnded c ended = (f : ℕ) → has_field W.program c f ≡ true → IsMember (owner W.program f) ended

  -- all constructors of a free object have ended, or the frame of its new is there
  abbrev pub BuiltOk : List FrameMark → ℕ → ℕ → ObjMark → Type 0
  BuiltOk gs o c Unborn = ⊥
  BuiltOk gs o c Committed = Unit {0}
  BuiltOk gs o c (Free a ended) = AllEnded c ended ⊎ Building gs o a

  -- an object of class c: its fields, and that it is built or being built
  pub record ObjectOk (m : ℕ → ObjMark) (gs : List FrameMark) (o : ℕ) (mark : ObjMark) (c : ℕ) (fs : List Value) : Type 0 where
    pub fields : (f : ℕ) (v : Value) → field_in W.program (Some (Object c fs)) f ≡ Some v → FieldOk m mark (owner W.program f) (ref_field W.program f) (field_qual W.program W.sig f) v
    pub built : BuiltOk gs o c mark

  -- what stands at a place, with its mark; arrays are committed
  abbrev pub ThingOk : Marks → List FrameMark → ℕ → ObjMark → Option Thing → Type 0
  ThingOk m gs o mark None = mark ≡ Unborn
  ThingOk m gs o mark (Some (Object c fs)) = ObjectOk m gs o mark c fs
  ThingOk m gs o mark (Some (Elems b xs)) = (mark ≡ Committed) × ((i : ℕ) (v : Value) → slice_get xs i ≡ Some v → Settled m (elem_qual b) v)

  -- each thing is as its mark says
  abbrev pub HeapOk : Marks → List FrameMark → List Thing → Type 0
  HeapOk m gs heap = (o : ℕ) → ThingOk m gs o (m o) (slice_get heap o)
