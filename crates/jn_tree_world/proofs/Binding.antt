-- One evaluation after another, in what the code gives.
use Rattle.std.proofs.Common.{◌≡◌, ℕ, zero, suc, List, Option, Some, None, Ok, Err, refl, sym, subst}
use Rattle.std.specs.Prelude.{⊤, Result as Answer, IsErrAnd}
use Rattle.jn_base.specs.declared.place.Span.{Span}
use Rattle.jn_heap.specs.Values.{Value, NullRef, Text, Plain, At}
use Rattle.jn_meaning.specs.Worlds.{World, Result, Has, Stops, then_do, derefs, spent, spent_from}
use Rattle.jn_tree_world.specs.declared.halt.Halt.{Halt}
use Rattle.jn_tree_world.specs.declared.halt.Halt.TheVariants.{Faulted, NullAt, FuelOut, TooDeep, Senseless, OutOfMemory}
use Rattle.jn_tree_world.specs.Outcomes.{IsStop, MeansAs, passes, spends}

-- what an evaluation was, after which another one comes
pub bound : {A B D : Type 0} → (view : D → B) (r : Result A) (go : A → World → Result B) (x : A) (mid : World) (result : Answer D Halt) (w : World) → r ≡ Has x mid → MeansAs view (go x mid) result w → MeansAs view (then_do r go) result w
bound view r go x mid result w is means = subst (λ q. MeansAs view (then_do q go) result w) (sym is) means

-- a stop is one of all that it stands in
pub stop_then : {A B : Type 0} → (h : Halt) (r : Result A) (go : A → World → Result B) (out : List ℕ) → IsStop h r out → IsStop h (then_do r go) out
stop_then (Faulted e span) r go out is = rw is refl
stop_then (NullAt span) r go out is = rw is refl
stop_then FuelOut r go out is = rw is refl
stop_then TooDeep r go out is = rw is refl
stop_then Senseless r go out is = rw is refl
stop_then OutOfMemory r go out is = is

-- want of memory is no stop
pub memory : {A : Type 0} → (h : Halt) (r : Result A) (out : List ℕ) → h ≡ OutOfMemory → IsStop h r out
memory h r out is = subst (λ q. IsStop q r out) (sym is) tt

-- a stop that is handed on
pub stops : {B D : Type 0} → (view : D → B) (r : Result B) (h : Halt) (back : Answer D Halt) (w : World) → IsErrAnd back (λ e. e ≡ h) → IsStop h r w.out → MeansAs view r back w
stops view r h (Ok x) w handed is = absurd handed
stops view r h (Err e) w handed is = subst (λ q. IsStop q r w.out) (sym handed) is

-- a dereference, and a unit of fuel, before what comes after
pub deref_first : {A : Type 0} → (x : Option Value) (at : Span) (w : World) (go : Result A) → derefs x at w go ≡ then_do (passes x at w) (λ u v. go)
deref_first None at w go = refl
deref_first (Some NullRef) at w go = refl
deref_first (Some (Text t)) at w go = refl
deref_first (Some (Plain p)) at w go = refl
deref_first (Some (At o)) at w go = refl

abbrev spends_from : ℕ → World → Result ⊤
spends_from n w = spent_from n w (λ v. Has tt v)

spent_first_from : {A : Type 0} → (n : ℕ) (w : World) (go : World → Result A) → spent_from n w go ≡ then_do (spends_from n w) (λ u v. go v)
spent_first_from zero w go = refl
spent_first_from (suc n) w go = refl

pub spent_first : {A : Type 0} → (w : World) (go : World → Result A) → spent w go ≡ then_do (spends w) (λ u v. go v)
spent_first w go = spent_first_from w.fuel w go

-- grouped otherwise
pub then_grouped : {A B C : Type 0} → (r : Result A) (f : A → World → Result B) (g : B → World → Result C) → then_do (then_do r f) g ≡ then_do r (λ x w. then_do (f x w) g)
then_grouped (Has x w) f g = refl
then_grouped (Stops s out) f g = refl
