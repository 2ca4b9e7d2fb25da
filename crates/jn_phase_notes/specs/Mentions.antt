-- Where members are named: calls and constructions with the number of their arguments, and fields after a dot.
use Rattle.std.specs.Prelude.{ℕ, List, [], ◌∷◌, ◌++◌, flat_map, Option, Some, None}
use Rattle.jn_base.specs.declared.place.Span.{Span}
use Rattle.jn_trees.specs.declared.expression.Identifier.{Identifier}
use Rattle.jn_places.specs.Placed.{PlacedTree, PlacedTrees, NoPlacedTrees, MorePlacedTrees, PlacedLiteral, PlacedName, PlacedThis, PlacedParen, PlacedField, PlacedCall, PlacedOwnCall, PlacedSuperCall, PlacedIndex, PlacedNew, PlacedNewArray, PlacedArrayOf, PlacedPostfix, PlacedPrefix, PlacedUnary, PlacedCast, PlacedBinary, PlacedInstanceOf, PlacedConditional, PlacedAssign, PlacedDeclarator, PlacedLocal, PlacedInit, PlacedExpressions, PlacedDeclaration, PlacedStatement, PlacedStatements, PlacedBlock, PlacedEmpty, PlacedExpression, PlacedBreak, PlacedContinue, PlacedReturn, PlacedLocalStatement, PlacedIf, PlacedIfElse, PlacedWhile, PlacedDo, PlacedFor, PlacedForEach, PlacedThisCall, PlacedSuperCallStatement, NoPlacedStatements, MorePlacedStatements, PlacedMember, PlacedFieldMember, PlacedMethod, PlacedConstructor, PlacedType, PlacedClass, PlacedInterface, PlacedFile}
use Rattle.jn_lowering.specs.Scopes.{count}
use Rattle.jn_phase_notes.specs.declared.mentioning.Kind.{Kind}
use Rattle.jn_phase_notes.specs.declared.mentioning.Kind.TheVariants.{Calls, Makes, Builds, Reads}
use Rattle.jn_phase_notes.specs.declared.mentioning.Mention.{Mention}

-- a member by its name, named at this place, with so many arguments
abbrev pub mention : Kind → Identifier → Span → ℕ → Mention
mention kind n span arguments = record { kind = kind; name = n.name; span = span; arguments = arguments }

abbrev mutual
  -- those of an expression: its own, then those of its parts
  pub mentions : PlacedTree → List Mention
  mentions (PlacedLiteral l span) = []
  mentions (PlacedName n) = []
  mentions (PlacedThis span) = []
  mentions (PlacedParen e span) = mentions e
  mentions (PlacedField e n span) = mention Reads n n.span 0 ∷ mentions e
  mentions (PlacedCall e n es span) = mention Calls n n.span (count es) ∷ (mentions e ++ mentions_of_all es)
  mentions (PlacedOwnCall n es span) = mention Calls n n.span (count es) ∷ mentions_of_all es
  mentions (PlacedSuperCall n es span) = mention Calls n n.span (count es) ∷ mentions_of_all es
  mentions (PlacedIndex a i span) = mentions a ++ mentions i
  mentions (PlacedNew n es span) = mention Makes n n.span (count es) ∷ mentions_of_all es
  mentions (PlacedNewArray annotations base size span) = mentions size
  mentions (PlacedArrayOf annotations base es span) = mentions_of_all es
  mentions (PlacedPostfix e step span) = mentions e
  mentions (PlacedPrefix step e span) = mentions e
  mentions (PlacedUnary o e span) = mentions e
  mentions (PlacedCast n e span) = mentions e
  mentions (PlacedBinary a o b span) = mentions a ++ mentions b
  mentions (PlacedInstanceOf e n span) = mentions e
  mentions (PlacedConditional q a b span) = mentions q ++ (mentions a ++ mentions b)
  mentions (PlacedAssign target o e span) = mentions target ++ mentions e

  -- those of several, one after the other
  pub mentions_of_all : PlacedTrees → List Mention
  mentions_of_all NoPlacedTrees = []
  mentions_of_all (MorePlacedTrees e es) = mentions e ++ mentions_of_all es

-- of one that may be absent
abbrev pub optional_mentions : Option PlacedTree → List Mention
optional_mentions None = []
optional_mentions (Some e) = mentions e

-- of what a declared name begins with
abbrev pub declarator_mentions : PlacedDeclarator → List Mention
declarator_mentions d = optional_mentions d.value

-- of a declaration of locals
abbrev pub local_mentions : PlacedLocal → List Mention
local_mentions l = declarator_mentions l.first ++ flat_map declarator_mentions l.more

-- of what a `for` begins with
abbrev pub init_mentions : PlacedInit → List Mention
init_mentions (PlacedExpressions es) = mentions_of_all es
init_mentions (PlacedDeclaration l) = local_mentions l

-- a construction by the constructor of the class that is extended, where one is named (JLS 8, 8.8.7)
abbrev pub super_mention : Option Identifier → Span → ℕ → List Mention
super_mention None span arguments = []
super_mention (Some parent) span arguments = mention Builds parent span arguments ∷ []

-- in a class of this name that extends that one
module _ (own : Identifier) (parent : Option Identifier) where
  abbrev mutual
    -- of a statement; `this(..)` and `super(..)` name a constructor at their own place
    pub statement_mentions : PlacedStatement → List Mention
    statement_mentions (PlacedBlock body span) = statements_mentions body
    statement_mentions (PlacedEmpty span) = []
    statement_mentions (PlacedExpression e span) = mentions e
    statement_mentions (PlacedBreak span) = []
    statement_mentions (PlacedContinue span) = []
    statement_mentions (PlacedReturn value span) = optional_mentions value
    statement_mentions (PlacedLocalStatement l span) = local_mentions l
    statement_mentions (PlacedIf q body span) = mentions q ++ statement_mentions body
    statement_mentions (PlacedIfElse q body other span) = mentions q ++ (statement_mentions body ++ statement_mentions other)
    statement_mentions (PlacedWhile q body span) = mentions q ++ statement_mentions body
    statement_mentions (PlacedDo body q span) = statement_mentions body ++ mentions q
    statement_mentions (PlacedFor start q update body span) = init_mentions start ++ (optional_mentions q ++ (mentions_of_all update ++ statement_mentions body))
    statement_mentions (PlacedForEach marks u name array body span) = mentions array ++ statement_mentions body
    statement_mentions (PlacedThisCall es span) = mention Builds own span (count es) ∷ mentions_of_all es
    statement_mentions (PlacedSuperCallStatement es span) = super_mention parent span (count es) ++ mentions_of_all es

    -- of statements one after the other
    pub statements_mentions : PlacedStatements → List Mention
    statements_mentions NoPlacedStatements = []
    statements_mentions (MorePlacedStatements x xs) = statement_mentions x ++ statements_mentions xs

  -- of a body that may be absent
  abbrev pub body_mentions : Option PlacedStatements → List Mention
  body_mentions None = []
  body_mentions (Some body) = statements_mentions body

  -- of a member; a `super()` that isn't written stands at the constructor's name (JLS 8, 8.8.7)
  abbrev pub member_mentions : PlacedMember → List Mention
  member_mentions (PlacedFieldMember marks u d ds span) = declarator_mentions d ++ flat_map declarator_mentions ds
  member_mentions (PlacedMethod marks result name receiver parameters body span) = body_mentions body
  member_mentions (PlacedConstructor marks name parameters body span) = super_mention parent name.span 0 ++ statements_mentions body

-- of a class or an interface; the `super()` of a constructor that isn't written stands at the class's name (JLS 8, 8.8.9)
abbrev pub type_mentions : PlacedType → List Mention
type_mentions (PlacedClass marks name parent interfaces members span) = super_mention parent name.span 0 ++ flat_map (member_mentions name parent) members
type_mentions (PlacedInterface marks name parents members span) = flat_map (member_mentions name None) members

-- of files
abbrev pub files_mentions : List PlacedFile → List Mention
files_mentions files = flat_map (λ (f : PlacedFile). flat_map type_mentions f.types) files
