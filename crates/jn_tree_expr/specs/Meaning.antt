-- What expressions mean where they stand, and what it is to call as is meant.
use Rattle.std.specs.Prelude.{ℕ, Bool, true, false, List, Option, Some, None, Result as Answer, Vec}
use Rattle.std.specs.Borrow.{MutBor}
use Rattle.std.specs.declared.alloc.Global.{Global}
use Rattle.jn_base.specs.declared.number.MethodNo.{MethodNo}
use Rattle.jn_base.specs.declared.place.Span.{Span}
use Rattle.jn_lowering.specs.Expressions.{span_of}
use Rattle.jn_lowering.specs.Scopes.{Access, ClassField, ObjectField, ArrayLength, NoField, Callee, Println, OfText, ClassMethod, ObjectMethod, NoMethod}
use Rattle.jn_meaning.specs.Operations.{read_place, Place, StaticPlace, FieldPlace, LengthPlace, NoPlace}
use Rattle.jn_places.specs.Placed.{PlacedTree, PlacedTrees}
use Rattle.jn_heap.specs.Steps.{str_op}
use Rattle.jn_heap.specs.Values.{Value, usual_limits}
use Rattle.jn_points.specs.Lookup.{method_at, private_of}
use Rattle.jn_points.specs.declared.program.Program.{Program}
use Rattle.jn_scopes.specs.Views.{scope_in}
use Rattle.jn_scopes.specs.declared.context.Context.{Context}
use Rattle.jn_meaning.specs.Worlds as spec
use Rattle.jn_meaning.specs.Worlds.{Result}
use Rattle.jn_meaning.specs.Expressions.{Caller, Meant, called_on, evaluated, first_value, meant}
use Rattle.jn_tree_world.specs.declared.halt.Halt.{Halt}
use Rattle.jn_tree_world.specs.declared.world.World.{World}
use Rattle.jn_tree_world.specs.Outcomes.{Means}
use Rattle.jn_tree_world.specs.Worlds.{world_of}

-- an expression in each of its uses, with these texts of strings and these calls; arrays and texts have the interpreter's lengths
abbrev pub meant_in : Context → List (List ℕ) → Caller → PlacedTree → Meant
meant_in c names m e = meant c.program.now names usual_limits.longest m c.class.0 (scope_in c) e

-- operands from left to right
abbrev pub all_in : Context → List (List ℕ) → Caller → PlacedTrees → spec.World → Result (List (Option Value))
all_in c names m es = evaluated c.program.now names usual_limits.longest m c.class.0 (scope_in c) es

-- what the closure may do, by its results, is what a call means
abbrev pub Calls : {F : Type 0} → (F → ℕ → Vec Value Global → MutBor World → Answer (Option Value) Halt → MutBor World → Type 0) → F → Caller → Type 0
Calls post f m = (method : ℕ) (values : Vec Value Global) (w : MutBor World) (r : Answer (Option Value) Halt) (v : MutBor World) → post f method values w r v → Means (m method values.items (world_of w.now)) r (world_of v.now)

-- where a field after a dot stands, of an object or array that has this value
abbrev pub object_place : Access → Span → Option Value → Place
object_place (ClassField f) at x = StaticPlace f
object_place (ObjectField f) at x = FieldPlace x at f
object_place ArrayLength at x = LengthPlace x at
object_place NoField at x = NoPlace

-- the method of a number, where there is one
abbrev pub number_of : Option MethodNo → Option ℕ
number_of None = None
number_of (Some m) = Some m.0

-- what stands at the place that the expression names
abbrev pub read_at : Context → List (List ℕ) → Caller → PlacedTree → spec.World → Result (Option Value)
read_at c names m e w = spec.then_do ((meant_in c names m e).place w) (λ q w. read_place c.program.now q (span_of e) w)

-- a call with a dot after its receiver and arguments, where it has both
abbrev pub called_behind : Program → List (List ℕ) → Caller → Callee → Span → Span → Option Value → List (Option Value) → spec.World → Result (Option Value)
called_behind P names m (OfText op) span at x xs w = spec.derefs x at w (spec.got span (str_op op x (first_value P names usual_limits.longest m xs)) w)
called_behind P names m (ObjectMethod k) span at x xs w = called_on P names usual_limits.longest m span k (private_of (method_at P k)) x at xs w
called_behind P names m callee span at x xs w = spec.Has None w

-- println and a class's method have no receiver
abbrev pub has_receiver : Callee → Bool
has_receiver Println = false
has_receiver (ClassMethod k) = false
has_receiver callee = true
