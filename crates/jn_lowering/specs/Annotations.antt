-- Rows of types: unknown classes (J1), and annotations that are not in the subset (J5): unknown ones, those on a primitive, two of one kind, and those of a kind that has no meaning where they stand.
use Rattle.std.specs.Prelude.{ℕ, Bool, true, false, cond, not, ◌&&◌, ◌||◌, eqb, List, [], ◌∷◌, ◌++◌, Option, Some, None}
use Rattle.jn_base.specs.declared.code.Code.{Code}
use Rattle.jn_base.specs.declared.code.Code.TheVariants.{J1, J5}
use Rattle.jn_base.specs.declared.place.Row.{Row}
use Rattle.jn_base.specs.declared.place.Span.{Span}
use Rattle.jn_trees.specs.declared.expression.Annotation.{Annotation}
use Rattle.jn_trees.specs.declared.expression.Base.{Base}
use Rattle.jn_trees.specs.declared.expression.Base.TheVariants.{Class as ClassUse}
use Rattle.jn_points.specs.declared.program.Program.{Program}
use Rattle.jn_places.specs.Placed.{PlacedTypeUse}
use Rattle.jn_known.specs.Known.{non_null_name, nullable_name, initialized_name, under_name, unknown_name, monotonic_name, is_object_member}
use Rattle.jn_lowering.specs.Scopes.{class_named}
use Rattle.jn_lowering.specs.Bases.{is_class_use}

-- A row J5 has the span of what is not taken: an annotation, a name, an import, a package line or an equality. For a field's declaration as a whole it is that of its first token, where an annotation counts as one. So what isn't taken for two reasons has one row: rows equal in span and code stand once.

-- one row
abbrev pub row : Code → Span → List Row
row code span = record { span = span; code = code } ∷ []

-- rows, where a condition holds
abbrev pub when : Bool → List Row → List Row
when true rows = rows
when false rows = []

-- what depends on rows has none where there are some
abbrev pub unless : List Row → List Row → List Row
unless [] rows = rows
unless (r ∷ rs) rows = []

-- `@NonNull` and `@Nullable` (Checker Framework manual, 3)
abbrev pub is_nullity : ℕ → Bool
is_nullity n = eqb n non_null_name || eqb n nullable_name

-- `@Initialized`, `@UnderInitialization` and `@UnknownInitialization` (Checker Framework manual, 3.8)
abbrev pub is_initialization : ℕ → Bool
is_initialization n = eqb n initialized_name || (eqb n under_name || eqb n unknown_name)

-- `@MonotonicNonNull` (Checker Framework manual, 3.2.1), which is of the nullity kind too
abbrev pub is_monotonic : ℕ → Bool
is_monotonic n = eqb n monotonic_name

-- an annotation that says whether null may be there; one place takes at most one of them
abbrev pub is_of_nullity : ℕ → Bool
is_of_nullity n = is_nullity n || is_monotonic n

-- what may stand at a place
pub record Allowed : Type 0 where
  pub nullity : Bool
  pub initialization : Bool
  pub monotonic : Bool

-- at a parameter, a result and a local
abbrev pub both_kinds : Allowed
both_kinds = record { nullity = true; initialization = true; monotonic = false }

-- at an array's elements, which are always initialized
abbrev pub nullity_alone : Allowed
nullity_alone = record { nullity = true; initialization = false; monotonic = false }

-- at a field, which is always initialized too
abbrev pub of_field : Allowed
of_field = record { nullity = true; initialization = false; monotonic = true }

-- an annotation that has a meaning there, on a reference type
abbrev pub is_allowed : Allowed → Bool → ℕ → Bool
is_allowed allowed reference n = reference && ((is_nullity n && allowed.nullity) || ((is_initialization n && allowed.initialization) || (is_monotonic n && allowed.monotonic)))

-- one of the annotations is of the kind
abbrev pub some_named : (ℕ → Bool) → List Annotation → Bool
some_named kind [] = false
some_named kind (a ∷ as') = kind a.name.0 || some_named kind as'

-- at the first of two of one kind
abbrev pub doubled : (ℕ → Bool) → List Annotation → List Row
doubled kind [] = []
doubled kind (a ∷ as') = cond (kind a.name.0) (when (some_named kind as') (row J5 a.span)) (doubled kind as')

-- at each annotation that has no meaning where it stands (JLS 8, 9.7.4)
abbrev pub not_allowed : Allowed → Bool → List Annotation → List Row
not_allowed allowed reference [] = []
not_allowed allowed reference (a ∷ as') = when (not (is_allowed allowed reference a.name.0)) (row J5 a.span) ++ not_allowed allowed reference as'

-- the rows of a place's annotations
abbrev pub annotation_rows : Allowed → Bool → List Annotation → List Row
annotation_rows allowed reference annotations = not_allowed allowed reference annotations ++ (doubled is_of_nullity annotations ++ doubled is_initialization annotations)

-- those before an array's type are its elements', those before its brackets are its own (JLS 8, 9.7.4)
abbrev pub typed_rows : Base → Option (List Annotation) → Allowed → List Annotation → List Row
typed_rows base None allowed leading = annotation_rows allowed (is_class_use base) leading
typed_rows base (Some brackets) allowed leading = annotation_rows nullity_alone (is_class_use base) leading ++ annotation_rows allowed true brackets

-- the annotations of a use of a type and of what stands before it: those before an array's type are its elements'
abbrev pub type_rows : PlacedTypeUse → Allowed → List Annotation → List Row
type_rows u allowed leading = typed_rows u.base u.array allowed leading

-- a member of Object is no name of what is declared or called
abbrev pub name_row : ℕ → Span → List Row
name_row n span = when (is_object_member n) (row J5 span)

module _ (P : Program) where
  -- a name that must be a class's (JLS 8, 6.5.5)
  abbrev pub known_class : Option ℕ → Span → List Row
  known_class None span = row J1 span
  known_class (Some k) span = []

  -- J1: a type's name that no class has
  abbrev pub base_rows : Base → List Row
  base_rows (ClassUse n) = known_class (class_named P n.name.0) n.span
  base_rows base = []
