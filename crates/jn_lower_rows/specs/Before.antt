-- What stands before a dot, as one pass sees it: a class or System has neither rows nor a type.
use Rattle.std.specs.Prelude.{ℕ, ◌≡◌, ◌++◌, Bool, true, false, cond, not, ◌&&◌, eqb, List, [], ◌∷◌}
use Rattle.jn_base.specs.declared.code.Code.TheVariants.{J5}
use Rattle.jn_base.specs.declared.place.Row.{Row}
use Rattle.jn_base.specs.declared.place.Span.{Span}
use Rattle.jn_trees.specs.declared.expression.Identifier.{Identifier}
use Rattle.jn_points.specs.declared.point.BaseType.{BaseType}
use Rattle.jn_points.specs.declared.point.BaseType.TheVariants.{Void}
use Rattle.jn_points.specs.declared.program.Program.{Program}
use Rattle.jn_points.specs.Members.{field_of, method_of}
use Rattle.jn_places.specs.Placed.{PlacedTree, PlacedCall}
use Rattle.jn_known.specs.Known.{equals_name, is_object_member, println_name}
use Rattle.jn_lowering.specs.Scopes.{Access, Meaning, ClassMeant, SystemMeant, access, before_dot, is_output}
use Rattle.jn_lowering.specs.Annotations.{row}
use Rattle.jn_lowering.specs.ExpressionRows as spec
use Rattle.jn_scopes.specs.declared.context.Context.{Context}
use Rattle.jn_scopes.specs.Views.{meaning_of, scope_in, type_in}
use Rattle.jn_lower_rows.specs.declared.receivers.Before as receivers
use Rattle.jn_lower_rows.specs.declared.setting.Setting.{Setting}
use Rattle.jn_lower_rows.specs.Views.{all_in, rows_in}

-- no rows
abbrev pub is_clean : List Row → Bool
is_clean [] = true
is_clean (r ∷ rs) = false

-- what stands before the dot means
abbrev pub before_in : Context → PlacedTree → Meaning
before_in c e = before_dot c.program.now c.class.0 (scope_in c) e

-- its rows
abbrev pub rows_before : Meaning → List Row → List Row
rows_before (ClassMeant k) rows = []
rows_before SystemMeant rows = []
rows_before m rows = rows

-- its type
abbrev pub base_before : Meaning → BaseType → BaseType
base_before (ClassMeant k) base = Void
base_before SystemMeant base = Void
base_before m base = base

-- the rows of a field after the dot
abbrev pub field_behind : Program → ℕ → Meaning → BaseType → Bool → ℕ → Span → List Row
field_behind P c (ClassMeant k) base clean n span = cond (eqb k 1) (row J5 span) (spec.class_field_rows P c (field_of P k n) span)
field_behind P c SystemMeant base clean n span = row J5 span
field_behind P c m base clean n span = cond clean (spec.value_field_rows P c base n span) []

-- the rows of a method after the dot
abbrev pub method_behind : Program → ℕ → Meaning → BaseType → Bool → ℕ → ℕ → Span → List Row
method_behind P c (ClassMeant k) base clean n arity span = cond (eqb k 1) (spec.string_method_rows P n arity span) (cond (is_object_member n) (row J5 span) (spec.class_method_rows P c (method_of P k n arity) span))
method_behind P c SystemMeant base clean n arity span = row J5 span
method_behind P c m base clean n arity span = cond (is_object_member n && not (eqb n equals_name)) (row J5 span) (cond clean (spec.value_method_rows P c base n arity span) [])

-- a field after a dot, and all its rows

abbrev pub access_in : Context → PlacedTree → Identifier → Access
access_in c e n = access c.program.now c.class.0 (scope_in c) e (type_in c e) n.name.0

abbrev pub accessed_rows : Context → Setting → PlacedTree → Identifier → List Row
accessed_rows c at e n = spec.access_rows c.program.now c.class.0 (before_in c e) (type_in c e) (rows_in c at e) n.name.0 n.span

-- the arguments of a call with a dot
abbrev pub argument_rows : Context → Setting → PlacedTree → List Row
argument_rows c at (PlacedCall e n es span) = all_in c at es
argument_rows c at e = []

-- `System.out.println` of one value
abbrev pub prints_in : Context → PlacedTree → Identifier → ℕ → Bool
prints_in c e n arity = is_output c.program.now c.class.0 (scope_in c) e && eqb n.name.0 println_name && eqb arity 1

-- what stands before a dot, and the rows that it adds
pub record IsBefore (c : Context) (at : Setting) (prints : Bool) (e : PlacedTree) (b : receivers.Before) (old new : List Row) : Type 0 where
  pub is_print : b.prints ≡ prints
  pub means : meaning_of c.faults.now b.meaning ≡ before_in c e
  pub has_base : b.base ≡ cond prints Void (base_before (before_in c e) (type_in c e))
  pub has_none : b.clean ≡ cond prints true (is_clean (rows_before (before_in c e) (rows_in c at e)))
  pub adds : new ≡ old ++ cond prints [] (rows_before (before_in c e) (rows_in c at e))
