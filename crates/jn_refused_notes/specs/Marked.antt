-- Annotations that aren't of the subset where they stand, each with its cause.
use Rattle.std.specs.Prelude.{ℕ, Bool, true, cond, not, ◌||◌, List, [], ◌∷◌, ◌++◌, find, flat_map, Option, Some, None}
use Rattle.jn_base.specs.declared.place.Span.{Span}
use Rattle.jn_trees.specs.declared.expression.Annotation.{Annotation}
use Rattle.jn_trees.specs.declared.expression.Base.{Base}
use Rattle.jn_places.specs.Placed.{PlacedTypeUse}
use Rattle.jn_lowering.specs.Annotations.{Allowed, is_allowed, is_initialization, is_monotonic, is_of_nullity, nullity_alone}
use Rattle.jn_lowering.specs.Bases.{is_class_use}
use Rattle.jn_refused_notes.specs.declared.causes.Cause.{Cause}
use Rattle.jn_refused_notes.specs.declared.causes.Cause.TheVariants.{OtherAnnotation, OnPrimitive, OfInitialization, OfField, OfNullness, Doubled}
use Rattle.jn_refused_notes.specs.declared.causes.Refusal.{Refusal}

-- what isn't taken, of which no other place is told
abbrev pub refusal : Cause → Span → Refusal
refusal cause span = record { cause = cause; span = span; told = span }

-- why an annotation has no meaning where it stands (Checker Framework manual, 3)
abbrev pub misplaced : Bool → ℕ → Cause
misplaced reference n =
    cond (not (is_of_nullity n || is_initialization n)) OtherAnnotation
    (cond (not reference) OnPrimitive
    (cond (is_initialization n) OfInitialization
    (cond (is_monotonic n) OfField OfNullness)))

-- an annotation, where it has no meaning
abbrev pub refused_annotation : Allowed → Bool → Annotation → List Refusal
refused_annotation allowed reference a = cond (is_allowed allowed reference a.name.0) [] (refusal (misplaced reference a.name.0) a.span ∷ [])

-- it is of the kind
abbrev pub is_named : (ℕ → Bool) → Annotation → Bool
is_named kind a = kind a.name.0

-- an annotation, where another one of its kind stands after it; that one's place is told
abbrev pub first_of_two : Annotation → Option Annotation → List Refusal
first_of_two a None = []
first_of_two a (Some b) = record { cause = Doubled; span = a.span; told = b.span } ∷ []

-- the first of two of one kind
abbrev pub doubles : (ℕ → Bool) → List Annotation → List Refusal
doubles kind [] = []
doubles kind (a ∷ as') = cond (kind a.name.0) (first_of_two a (find (is_named kind) as')) (doubles kind as')

-- those of a place
abbrev pub annotation_refusals : Allowed → Bool → List Annotation → List Refusal
annotation_refusals allowed reference annotations = flat_map (refused_annotation allowed reference) annotations ++ (doubles is_of_nullity annotations ++ doubles is_initialization annotations)

-- those before an array's type are its elements', those before its brackets are its own (JLS 8, 9.7.4)
abbrev pub typed_refusals : Base → Option (List Annotation) → Allowed → List Annotation → List Refusal
typed_refusals base None allowed leading = annotation_refusals allowed (is_class_use base) leading
typed_refusals base (Some brackets) allowed leading = annotation_refusals nullity_alone (is_class_use base) leading ++ annotation_refusals allowed true brackets

-- those of a use of a type and of what stands before it
abbrev pub use_refusals : PlacedTypeUse → Allowed → List Annotation → List Refusal
use_refusals u allowed leading = typed_refusals u.base u.array allowed leading
