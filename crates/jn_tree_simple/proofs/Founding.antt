-- One evaluation after another, and declared locals.
use Rattle.std.proofs.Common.{◌≡◌, ℕ, List, ap, sym, subst}
use Rattle.std.specs.Prelude.{⊤, Bool, Option, Result as Answer}
use Rattle.jn_base.specs.declared.place.Row.{Row}
use Rattle.jn_quals.specs.Qualifier.{Qualifier}
use Rattle.jn_points.specs.declared.point.BaseType.{BaseType}
use Rattle.jn_places.specs.Placed.{PlacedDeclarator}
use Rattle.jn_heap.specs.Values.{usual_limits}
use Rattle.jn_meaning.specs.Expressions.{Caller}
use Rattle.jn_meaning.specs.Statements.{Standing, declarators}
use Rattle.jn_points.specs.declared.program.Program.{Program}
use Rattle.jn_meaning.specs.Worlds.{World, Result, Has, Stops, then_do}
use Rattle.jn_tree_world.specs.declared.halt.Halt.{Halt}
use Rattle.jn_tree_world.specs.Outcomes.{IsStop, MeansAs}
use Rattle.jn_tree_simple.specs.Standings.{onward_of}

-- a stop after what was had, and what is had after it
pub stop_behind : {A B : Type 0} → (h : Halt) (r : Result A) (go : A → World → Result B) (x : A) (mid : World) (out : List ℕ) → r ≡ Has x mid → IsStop h (go x mid) out → IsStop h (then_do r go) out
stop_behind h r go x mid out is stop = subst (λ q. IsStop h (then_do q go) out) (sym is) stop

pub has_behind : {A B : Type 0} → (r : Result A) (go : A → World → Result B) (x : A) (mid : World) (s : Result B) → r ≡ Has x mid → go x mid ≡ s → then_do r go ≡ s
has_behind r go x mid s is next = subst (λ q. then_do q go ≡ s) (sym is) next

abbrev had : {A : Type 0} → A → Result A → A
had x (Has y w) = y
had x (Stops stop out) = x

pub has_is : {A : Type 0} → (x y : A) (w v : World) → Has x w ≡ Has y v → x ≡ y
has_is x y w v is = ap (had x) is

-- declared locals, of what was worked out of their type
pub declared_so : (P : Program) (names : List (List ℕ)) (m : Caller) (turns c : ℕ) (base0 base : BaseType) (bound0 bound : Option Qualifier) (final0 final : Bool) (rows0 rows : List Row) (st : Standing) (ds : List PlacedDeclarator) (w : World) (result : Answer ⊤ Halt) (v : World) → base0 ≡ base → bound0 ≡ bound → final0 ≡ final → rows0 ≡ rows → MeansAs onward_of (declarators P names usual_limits.longest m turns c base0 bound0 final0 rows0 st ds w) result v → MeansAs onward_of (declarators P names usual_limits.longest m turns c base bound final rows st ds w) result v
declared_so P names m turns c base0 base bound0 bound final0 final rows0 rows st ds w result v ba bo fi ro is =
    subst (λ (r : List Row). MeansAs onward_of (declarators P names usual_limits.longest m turns c base bound final r st ds w) result v) ro
    (subst (λ (f : Bool). MeansAs onward_of (declarators P names usual_limits.longest m turns c base bound f rows0 st ds w) result v) fi
    (subst (λ (b : Option Qualifier). MeansAs onward_of (declarators P names usual_limits.longest m turns c base b final0 rows0 st ds w) result v) bo
    (subst (λ (b : BaseType). MeansAs onward_of (declarators P names usual_limits.longest m turns c b bound0 final0 rows0 st ds w) result v) ba is)))
