-- Names that are declared where a local or a parameter of the name is in scope, each with the one that stands (JLS 8, 6.4).
use Rattle.std.specs.Prelude.{ℕ, Bool, eqb, List, [], ◌∷◌, ◌++◌, find, flat_map, map, Option, Some, None}
use Rattle.jn_trees.specs.declared.expression.Identifier.{Identifier}
use Rattle.jn_places.specs.Placed.{PlacedDeclarator, PlacedLocal, PlacedInit, PlacedExpressions, PlacedDeclaration, PlacedStatement, PlacedStatements, PlacedBlock, PlacedEmpty, PlacedExpression, PlacedBreak, PlacedContinue, PlacedReturn, PlacedLocalStatement, PlacedIf, PlacedIfElse, PlacedWhile, PlacedDo, PlacedFor, PlacedForEach, PlacedThisCall, PlacedSuperCallStatement, NoPlacedStatements, MorePlacedStatements, PlacedParameter, PlacedMember, PlacedFieldMember, PlacedMethod, PlacedConstructor, PlacedType, PlacedClass, PlacedInterface, PlacedFile}
use Rattle.jn_phase_notes.specs.declared.repeated.Second.{Second}

-- the name of that number
abbrev pub has_name : ℕ → Identifier → Bool
has_name n x = eqb n x.name.0

-- of those in scope, the one of the name
abbrev pub standing : List Identifier → ℕ → Option Identifier
standing scope n = find (has_name n) scope

-- a name comes into scope where none of its number stands
abbrev pub added : List Identifier → Identifier → Option Identifier → List Identifier
added scope x None = scope ++ x ∷ []
added scope x (Some y) = scope

-- those in scope after a name is declared
abbrev pub with_name : List Identifier → Identifier → List Identifier
with_name scope x = added scope x (standing scope x.name.0)

-- a second declaration, where one stands
abbrev pub second : Identifier → Option Identifier → List Second
second x None = []
second x (Some y) = record { span = x.span; first = y } ∷ []

-- names declared one after the other, and those in scope after them
abbrev pub with_names : List Identifier → List Identifier → List Identifier
with_names scope [] = scope
with_names scope (x ∷ xs) = with_names (with_name scope x) xs

-- the second declarations among them
abbrev pub seconds_among : List Identifier → List Identifier → List Second
seconds_among scope [] = []
seconds_among scope (x ∷ xs) = second x (standing scope x.name.0) ++ seconds_among (with_name scope x) xs

-- a declared name
abbrev pub declared_name : PlacedDeclarator → Identifier
declared_name d = d.name

-- the names that a declaration declares
abbrev pub local_names : PlacedLocal → List Identifier
local_names l = l.first.name ∷ map declared_name l.more

-- those that a `for` begins with
abbrev pub init_names : PlacedInit → List Identifier
init_names (PlacedExpressions es) = []
init_names (PlacedDeclaration l) = local_names l

-- those that stay in scope after a statement
abbrev pub names_behind : PlacedStatement → List Identifier
names_behind (PlacedLocalStatement l span) = local_names l
names_behind (PlacedEmpty span) = []
names_behind x = []

abbrev mutual
  -- the second declarations in a statement
  pub seconds : List Identifier → PlacedStatement → List Second
  seconds scope (PlacedBlock body span) = all_seconds scope body
  seconds scope (PlacedEmpty span) = []
  seconds scope (PlacedExpression e span) = []
  seconds scope (PlacedBreak span) = []
  seconds scope (PlacedContinue span) = []
  seconds scope (PlacedReturn value span) = []
  seconds scope (PlacedLocalStatement l span) = seconds_among scope (local_names l)
  seconds scope (PlacedIf q body span) = seconds scope body
  seconds scope (PlacedIfElse q body other span) = seconds scope body ++ seconds scope other
  seconds scope (PlacedWhile q body span) = seconds scope body
  seconds scope (PlacedDo body q span) = seconds scope body
  seconds scope (PlacedFor start q update body span) = seconds_among scope (init_names start) ++ seconds (with_names scope (init_names start)) body
  seconds scope (PlacedForEach marks u name array body span) = seconds_among scope (name ∷ []) ++ seconds (with_names scope (name ∷ [])) body
  seconds scope (PlacedThisCall es span) = []
  seconds scope (PlacedSuperCallStatement es span) = []

  -- in statements one after the other
  pub all_seconds : List Identifier → PlacedStatements → List Second
  all_seconds scope NoPlacedStatements = []
  all_seconds scope (MorePlacedStatements x xs) = seconds scope x ++ all_seconds (with_names scope (names_behind x)) xs

-- a parameter's name
abbrev pub parameter_name : PlacedParameter → Identifier
parameter_name p = p.name

-- in a body, with its parameters in scope
abbrev pub body_seconds : List PlacedParameter → Option PlacedStatements → List Second
body_seconds ps None = []
body_seconds ps (Some body) = all_seconds (with_names [] (map parameter_name ps)) body

-- in a member
abbrev pub member_seconds : PlacedMember → List Second
member_seconds (PlacedFieldMember marks u d ds span) = []
member_seconds (PlacedMethod marks result name receiver parameters body span) = body_seconds parameters body
member_seconds (PlacedConstructor marks name parameters body span) = body_seconds parameters (Some body)

-- in a class or an interface
abbrev pub type_seconds : PlacedType → List Second
type_seconds (PlacedClass marks name parent interfaces members span) = flat_map member_seconds members
type_seconds (PlacedInterface marks name parents members span) = flat_map member_seconds members

-- in files
abbrev pub files_seconds : List PlacedFile → List Second
files_seconds files = flat_map (λ (f : PlacedFile). flat_map type_seconds f.types) files
