-- What the code's values say in the terms of the definitions.
use Rattle.std.specs.Prelude.{ℕ, Bool, List, Option, Some, None}
use Rattle.std.specs.Borrow.{Bor}
use Rattle.jn_trees.specs.declared.declaration.QualifiedName.{QualifiedName}
use Rattle.jn_base.specs.declared.place.Row.{Row}
use Rattle.jn_places.specs.Placed.{PlacedDotted, PlacedTree, PlacedTrees}
use Rattle.jn_places.specs.PlacedView.{placed_dotted}
use Rattle.jn_lowering.specs.Annotations.{Allowed, is_initialization, is_monotonic, is_nullity, is_of_nullity}
use Rattle.jn_lowering.specs.ExpressionRows.{Setting, assigned_rows, rows_of, rows_of_all}
use Rattle.jn_scopes.specs.declared.context.Context.{Context}
use Rattle.jn_scopes.specs.Views.{scope_in}
use Rattle.jn_lower_rows.specs.declared.setting.Setting as settings
use Rattle.jn_lower_rows.specs.declared.annotations.Allowed as places
use Rattle.jn_lower_rows.specs.declared.annotations.Kind.{Kind}
use Rattle.jn_lower_rows.specs.declared.annotations.Kind.TheVariants.{Nullity, Initialization, Monotonic, AnyNullity}

-- the annotations of a kind
abbrev pub kind_of : Kind → ℕ → Bool
kind_of Nullity n = is_nullity n
kind_of Initialization n = is_initialization n
kind_of Monotonic n = is_monotonic n
kind_of AnyNullity n = is_of_nullity n

abbrev pub allowed_of : places.Allowed → Allowed
allowed_of a = record { nullity = a.nullity; initialization = a.initialization; monotonic = a.monotonic }

-- the package that is written first
abbrev pub first_package : Option (Bor QualifiedName) → Option PlacedDotted
first_package None = None
first_package (Some p) = Some (placed_dotted p.now)

abbrev pub setting_of : settings.Setting → Setting
setting_of at = record { this_stands = at.this_stands; own_fields = at.own_fields }

-- the rows of an expression where it stands
abbrev pub rows_in : Context → settings.Setting → PlacedTree → List Row
rows_in c at e = rows_of c.program.now c.class.0 (setting_of at) (scope_in c) e

-- of what is assigned
abbrev pub assigned_in : Context → settings.Setting → PlacedTree → List Row
assigned_in c at e = assigned_rows c.program.now c.class.0 (setting_of at) (scope_in c) e

-- of several
abbrev pub all_in : Context → settings.Setting → PlacedTrees → List Row
all_in c at es = rows_of_all c.program.now c.class.0 (setting_of at) (scope_in c) es
