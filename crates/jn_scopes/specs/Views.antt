-- What lies in memory, as the definitions see it.
use Rattle.std.specs.Prelude.{ℕ, ◌≡◌, ◌<◌, ◌^◌, ◌-◌, List, [], ◌∷◌, ◌++◌, length, take, drop, Option, Some, None}
use Rattle.jn_base.specs.declared.place.Row.{Row}
use Rattle.jn_points.specs.declared.point.BaseType.{BaseType}
use Rattle.jn_points.specs.declared.program.Method.{Method}
use Rattle.jn_points.specs.declared.program.Program.{Program}
use Rattle.jn_points.specs.Lookup.{method_at}
use Rattle.jn_places.specs.Placed.{PlacedTree}
use Rattle.jn_lowering.specs.Scopes.{Local, Scope, Meaning, LocalMeant, FieldMeant, ClassMeant, SystemMeant, NothingMeant, Access, ClassField, ObjectField, ArrayLength, NoField, Callee, Println, OfText, ClassMethod, ObjectMethod, NoMethod}
use Rattle.jn_lowering.specs.Bases.{type_of}
use Rattle.jn_quals.specs.Qualifier.{Qualifier}
use Rattle.jn_scopes.specs.declared.context.Bound.{Bound}
use Rattle.jn_scopes.specs.declared.context.Faults.{Faults}
use Rattle.jn_scopes.specs.declared.context.Variable.{Variable}
use Rattle.jn_scopes.specs.declared.context.Context.{Context}
use Rattle.jn_scopes.specs.declared.context.Meaning as meant
use Rattle.jn_scopes.specs.declared.context.Meaning.TheVariants.{Local as LocalCode, Field as FieldCode, Class as ClassCode, System as SystemCode, Nothing as NothingCode}
use Rattle.jn_scopes.specs.declared.context.Callee as calls
use Rattle.jn_scopes.specs.declared.context.Callee.TheVariants.{Println as PrintlnCallee, Text as TextCallee, Class as ClassCallee, Object as ObjectCallee, Nothing as NoCallee}
use Rattle.jn_scopes.specs.declared.context.Access as accessed
use Rattle.jn_scopes.specs.declared.context.Access.TheVariants.{Class as ClassAccess, Object as ObjectAccess, Length as LengthAccess, Nothing as NoAccess}

abbrev pub bound_of : Option Bound → Option Qualifier
bound_of None = None
bound_of (Some b) = Some (record { null = b.null; committed = b.committed; free = b.free })

abbrev pub faults_of : List Row → Faults → List Row
faults_of rows f = take (f.to - f.from) (drop f.from rows)

abbrev pub local_of : List Row → Variable → Local
local_of rows v = record { name = v.name.0; reg = v.reg.0; base = v.base; bound = bound_of v.bound; fixed = v.fixed; faults = faults_of rows v.faults }

-- the last declared one first
abbrev pub scope_of : List Row → List Variable → Scope
scope_of rows [] = []
scope_of rows (v ∷ vs) = scope_of rows vs ++ local_of rows v ∷ []

abbrev pub meaning_of : List Row → meant.Meaning → Meaning
meaning_of rows (LocalCode v) = LocalMeant (local_of rows v)
meaning_of rows (FieldCode f) = FieldMeant f.0
meaning_of rows (ClassCode c) = ClassMeant c.0
meaning_of rows SystemCode = SystemMeant
meaning_of rows NothingCode = NothingMeant

abbrev pub access_of : accessed.Access → Access
access_of (ClassAccess f) = ClassField f.0
access_of (ObjectAccess f) = ObjectField f.0
access_of LengthAccess = ArrayLength
access_of NoAccess = NoField

abbrev pub callee_of : calls.Callee → Callee
callee_of PrintlnCallee = Println
callee_of (TextCallee op) = OfText op
callee_of (ClassCallee m) = ClassMethod m.0
callee_of (ObjectCallee m) = ObjectMethod m.0
callee_of NoCallee = NoMethod

-- the locals in scope where an expression stands
abbrev pub scope_in : Context → Scope
scope_in c = scope_of c.faults.now c.scope.now

abbrev pub type_in : Context → PlacedTree → BaseType
type_in c e = type_of c.program.now c.class.0 (scope_in c) e
