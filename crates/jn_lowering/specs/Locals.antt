-- Declarations of locals and parameters (JLS 8, 8.4.1 and 14.4).
use Rattle.std.specs.Prelude.{ℕ, ◌+◌, Bool, true, false, cond, ◌&&◌, ◌||◌, eqb, List, [], ◌∷◌, ◌++◌, length, Option, Some, None}
use Rattle.jn_base.specs.declared.place.Row.{Row}
use Rattle.jn_quals.specs.Qualifier.{Qualifier}
use Rattle.jn_trees.specs.declared.expression.Annotation.{Annotation}
use Rattle.jn_trees.specs.declared.statement.LocalModifier.{LocalModifier}
use Rattle.jn_trees.specs.declared.statement.LocalModifier.TheVariants.{Annotation as NoteOf, Final}
use Rattle.jn_points.specs.declared.point.BaseType.{BaseType}
use Rattle.jn_places.specs.Placed.{PlacedTree, PlacedDeclarator, PlacedLocal, PlacedParameter, PlacedInit, PlacedExpressions, PlacedDeclaration, PlacedStatement, PlacedStatements, PlacedBlock, PlacedEmpty, PlacedExpression, PlacedBreak, PlacedContinue, PlacedReturn, PlacedLocalStatement, PlacedIf, PlacedIfElse, PlacedWhile, PlacedDo, PlacedFor, PlacedForEach, PlacedThisCall, PlacedSuperCallStatement, NoPlacedStatements, MorePlacedStatements}
use Rattle.jn_known.specs.Known.{non_null_name, nullable_name, initialized_name, under_name, unknown_name}
use Rattle.jn_lowering.specs.Temporaries.{Temporaries}
use Rattle.jn_lowering.specs.Scopes.{Local, Scope, local_in}

-- what statements are lowered in: the names in scope, the types of all registers below the temporaries so far, and the temporaries
pub record State : Type 0 where
  pub scope : Scope
  pub locals : List BaseType
  pub temporaries : Temporaries

-- the annotations among the modifiers
abbrev pub annotations_of : List LocalModifier → List Annotation
annotations_of [] = []
annotations_of (NoteOf a ∷ ms) = a ∷ annotations_of ms
annotations_of (Final span ∷ ms) = annotations_of ms

-- `final` is among the modifiers (JLS 8, 4.12.4)
abbrev pub has_final : List LocalModifier → Bool
has_final [] = false
has_final (NoteOf a ∷ ms) = has_final ms
has_final (Final span ∷ ms) = true

-- the annotations of the local itself: those in front of an array's brackets, where it is one
abbrev pub own_annotations : Option (List Annotation) → List Annotation → List Annotation
own_annotations None annotations = annotations
own_annotations (Some brackets) annotations = brackets

-- what an annotation leaves open of a local's qualifier
abbrev pub bound_named : ℕ → Option Qualifier
bound_named n =
    cond (eqb n non_null_name) (Some (record { null = false; committed = true; free = true }))
    (cond (eqb n nullable_name || eqb n unknown_name) (Some (record { null = true; committed = true; free = true }))
    (cond (eqb n initialized_name) (Some (record { null = true; committed = true; free = false }))
    (cond (eqb n under_name) (Some (record { null = true; committed = false; free = true })) None)))

-- the bits that both have
abbrev pub common : Option Qualifier → Option Qualifier → Option Qualifier
common None b = b
common (Some a) None = Some a
common (Some a) (Some b) = Some (record { null = a.null && b.null; committed = a.committed && b.committed; free = a.free && b.free })

-- the bound of a local: the common bits of its annotations, where it has one
abbrev pub bound_of : List Annotation → Option Qualifier
bound_of [] = None
bound_of (a ∷ as') = common (bound_named a.name.0) (bound_of as')

-- a local was found
abbrev pub is_some : Option Local → Bool
is_some None = false
is_some (Some l) = true

-- a declarator with an initializer
abbrev pub has_value : PlacedDeclarator → Bool
has_value d = is_value d.value
  where
    is_value : Option PlacedTree → Bool
    is_value None = false
    is_value (Some e) = true

-- a local that is in scope already stays
abbrev pub with_local : Scope → Local → Scope
with_local s l = cond (is_some (local_in s l.name)) s (l ∷ s)

-- the next register is a local's
abbrev pub declares : State → ℕ → BaseType → Option Qualifier → Bool → List Row → State
declares st name base bound fixed faults = record {
  scope = with_local st.scope (record { name = name; reg = length st.locals; base = base; bound = bound; fixed = fixed; faults = faults });
  locals = st.locals ++ base ∷ [];
  temporaries = st.temporaries;
}

-- a register without a name
abbrev pub reserves : State → BaseType → State
reserves st base = record { scope = st.scope; locals = st.locals ++ base ∷ []; temporaries = st.temporaries }

-- the same with other temporaries
abbrev pub with_temporaries : State → Temporaries → State
with_temporaries st t = record { scope = st.scope; locals = st.locals; temporaries = t }

-- parameters from a register on
abbrev pub parameters_from : ℕ → List PlacedParameter → List BaseType → Scope
parameters_from r [] bases = []
parameters_from r (p ∷ ps) [] = []
parameters_from r (p ∷ ps) (b ∷ bases) = record { name = p.name.name.0; reg = r; base = b; bound = None; fixed = has_final p.marks; faults = [] } ∷ parameters_from (r + 1) ps bases

-- how many registers the locals of a statement take

-- a declaration's
abbrev pub declared_by : PlacedLocal → ℕ
declared_by l = 1 + length l.more

-- those that a `for` declares
abbrev pub declared_first : PlacedInit → ℕ
declared_first (PlacedExpressions es) = 0
declared_first (PlacedDeclaration l) = declared_by l

abbrev mutual
  -- a statement's
  pub declared : PlacedStatement → ℕ
  declared (PlacedBlock body span) = all_declared body
  declared (PlacedEmpty span) = 0
  declared (PlacedExpression e span) = 0
  declared (PlacedBreak span) = 0
  declared (PlacedContinue span) = 0
  declared (PlacedReturn value span) = 0
  declared (PlacedLocalStatement l span) = declared_by l
  declared (PlacedIf q body span) = declared body
  declared (PlacedIfElse q body other span) = declared body + declared other
  declared (PlacedWhile q body span) = declared body
  declared (PlacedDo body q span) = declared body
  declared (PlacedFor init q update body span) = declared_first init + declared body
  declared (PlacedForEach marks u name array body span) = 3 + declared body
  declared (PlacedThisCall es span) = 0
  declared (PlacedSuperCallStatement es span) = 0

  -- those of several
  pub all_declared : PlacedStatements → ℕ
  all_declared NoPlacedStatements = 0
  all_declared (MorePlacedStatements x xs) = declared x + all_declared xs
