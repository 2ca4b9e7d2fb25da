-- What it means that the code gives what is meant.
use Rattle.std.specs.Prelude.{ℕ, ⊤, ◌≡◌, List, Option, Result as Answer, Ok, Err, slice_set}
use Rattle.jn_base.specs.declared.place.Span.{Span}
use Rattle.jn_heap.specs.Values as heap
use Rattle.jn_machine.specs.declared.prim.Got.{Got as Gotten}
use Rattle.jn_machine.specs.declared.prim.Got.TheVariants.{Gives as IsGiven, Fails as HasFailed, Lacks as HasNone}
use Rattle.jn_machine.specs.Ends.{end_of}
use Rattle.jn_meaning.specs.Worlds as spec
use Rattle.jn_meaning.specs.Worlds.{Result, Has, Stops, World}
use Rattle.jn_tree_world.specs.declared.halt.Halt.{Halt}
use Rattle.jn_tree_world.specs.declared.halt.Halt.TheVariants.{Faulted, NullAt, FuelOut, TooDeep, Senseless, OutOfMemory}

-- the evaluation stops so, with this text printed; of want of memory nothing is said
abbrev pub IsStop : {A : Type 0} → Halt → Result A → List ℕ → Type 0
IsStop (Faulted e span) r out = r ≡ Stops (spec.Faulted (end_of e) span) out
IsStop (NullAt span) r out = r ≡ Stops (spec.NullAt span) out
IsStop FuelOut r out = r ≡ Stops spec.FuelOut out
IsStop TooDeep r out = r ≡ Stops spec.TooDeep out
IsStop Senseless r out = r ≡ Stops spec.Senseless out
IsStop OutOfMemory r out = Unit {0}

-- what is meant is what was given, seen so, and the world after it; or the stop
abbrev pub MeansAs : {A B : Type 0} → (A → B) → Result B → Answer A Halt → World → Type 0
MeansAs view r (Ok x) w = r ≡ Has (view x) w
MeansAs view r (Err h) w = IsStop h r w.out

abbrev pub Means : {A : Type 0} → Result A → Answer A Halt → World → Type 0
Means r answer w = MeansAs (λ x. x) r answer w

-- going on gives nothing but a world
abbrev pub Goes : {A : Type 0} → Result ⊤ → Answer A Halt → World → Type 0
Goes r answer w = MeansAs (λ u. tt) r answer w

-- a unit of fuel is spent
abbrev pub spends : World → Result ⊤
spends w = spec.spent w (λ v. Has tt v)

-- unless a null is dereferenced
abbrev pub passes : Option heap.Value → Span → World → Result ⊤
passes x at w = spec.derefs x at w (Has tt w)

-- a thing of the heap was changed as given
abbrev pub Puts : {A : Type 0} → heap.Got heap.Thing → Gotten A → ℕ → List heap.Thing → List heap.Thing → Type 0
Puts got (IsGiven u) o old new = (x : heap.Thing) × (got ≡ heap.Gives x) × (new ≡ slice_set old o x)
Puts got (HasFailed e) o old new = got ≡ heap.Fails (end_of e)
Puts got HasNone o old new = got ≡ heap.Lacks

-- what was found meets this, unless memory was wanting
abbrev pub Found : {A : Type 0} → (A → Type 0) → Answer A Halt → Type 0
Found meets (Ok x) = meets x
Found meets (Err h) = h ≡ OutOfMemory
