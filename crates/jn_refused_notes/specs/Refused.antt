-- What of files may not be of the subset, each with the cause that it has there: where a row J5 stands, the first of them at its place is what it speaks of.
use Rattle.std.specs.Prelude.{ℕ, Bool, true, false, cond, eqb, List, [], ◌∷◌, ◌++◌, flat_map, map, Option, Some, None}
use Rattle.jn_base.specs.declared.place.Span.{Span}
use Rattle.jn_trees.specs.declared.declaration.Modifier.{Modifier}
use Rattle.jn_trees.specs.declared.expression.Annotation.{Annotation}
use Rattle.jn_trees.specs.declared.expression.Base.{Base}
use Rattle.jn_trees.specs.declared.expression.BinaryOperator.{BinaryOperator}
use Rattle.jn_trees.specs.declared.expression.Identifier.{Identifier}
use Rattle.jn_trees.specs.declared.statement.LocalModifier.{LocalModifier}
use Rattle.jn_places.specs.Placed.{PlacedTree, PlacedTrees, NoPlacedTrees, MorePlacedTrees, PlacedLiteral, PlacedName, PlacedThis, PlacedParen, PlacedField, PlacedCall, PlacedOwnCall, PlacedSuperCall, PlacedIndex, PlacedNew, PlacedNewArray, PlacedArrayOf, PlacedPostfix, PlacedPrefix, PlacedUnary, PlacedCast, PlacedBinary, PlacedInstanceOf, PlacedConditional, PlacedAssign, PlacedTypeUse, PlacedDeclarator, PlacedLocal, PlacedInit, PlacedExpressions, PlacedDeclaration, PlacedStatement, PlacedStatements, PlacedBlock, PlacedEmpty, PlacedExpression, PlacedBreak, PlacedContinue, PlacedReturn, PlacedLocalStatement, PlacedIf, PlacedIfElse, PlacedWhile, PlacedDo, PlacedFor, PlacedForEach, PlacedThisCall, PlacedSuperCallStatement, NoPlacedStatements, MorePlacedStatements, PlacedParameter, PlacedReceiver, PlacedResult, PlacedVoid, PlacedValue, PlacedMember, PlacedFieldMember, PlacedMethod, PlacedConstructor, PlacedType, PlacedClass, PlacedInterface, PlacedDotted, PlacedPackage, PlacedImport, PlacedFile}
use Rattle.jn_known.specs.Known.{equals_name, is_object_member}
use Rattle.jn_lowering.specs.Annotations.{both_kinds, nullity_alone, of_field}
use Rattle.jn_lowering.specs.Bases.{is_class_use, is_equality}
use Rattle.jn_lowering.specs.FileRows.{first_mark, has_static, initialization_alone, notes_of, package_behind, without_override}
use Rattle.jn_lowering.specs.Locals.{annotations_of}
use Rattle.jn_refused_notes.specs.declared.causes.Cause.{Cause}
use Rattle.jn_refused_notes.specs.declared.causes.Cause.TheVariants.{InterfaceField, StaticField, ObjectMember, OtherEquals, OtherMember, OfReferences, OtherImport, OtherPackage}
use Rattle.jn_refused_notes.specs.declared.causes.Refusal.{Refusal}
use Rattle.jn_refused_notes.specs.Marked.{annotation_refusals, refusal, use_refusals}

-- the name of a member of Object that is declared (JLS 8, 4.3.2)
abbrev pub name_refusals : Identifier → List Refusal
name_refusals n = cond (is_object_member n.name.0) (refusal ObjectMember n.span ∷ []) []

-- why a method of the name isn't called: it is Object's `equals`, another member of Object, or one of String or System
abbrev pub call_cause : ℕ → Cause
call_cause n = cond (eqb n equals_name) OtherEquals (cond (is_object_member n) ObjectMember OtherMember)

-- `==` and `!=` (JLS 8, 15.21.3)
abbrev pub equality_refusals : BinaryOperator → Span → List Refusal
equality_refusals o span = cond (is_equality o) (refusal OfReferences span ∷ []) []

-- the annotations of the type of an array's elements, where the array is made (JLS 8, 15.10.1)
abbrev pub element_refusals : List Annotation → Base → List Refusal
element_refusals annotations base = annotation_refusals nullity_alone (is_class_use base) annotations

abbrev mutual
  -- in an expression: its own, then those of its parts
  pub refusals : PlacedTree → List Refusal
  refusals (PlacedLiteral l span) = []
  refusals (PlacedName n) = []
  refusals (PlacedThis span) = []
  refusals (PlacedParen e span) = refusals e
  refusals (PlacedField e n span) = refusal OtherMember n.span ∷ refusals e
  refusals (PlacedCall e n es span) = refusal (call_cause n.name.0) n.span ∷ (refusals e ++ refusals_of_all es)
  refusals (PlacedOwnCall n es span) = refusal (call_cause n.name.0) n.span ∷ refusals_of_all es
  refusals (PlacedSuperCall n es span) = refusal (call_cause n.name.0) n.span ∷ refusals_of_all es
  refusals (PlacedIndex a i span) = refusals a ++ refusals i
  refusals (PlacedNew n es span) = refusals_of_all es
  refusals (PlacedNewArray annotations base size span) = element_refusals annotations base ++ refusals size
  refusals (PlacedArrayOf annotations base es span) = element_refusals annotations base ++ refusals_of_all es
  refusals (PlacedPostfix e step span) = refusals e
  refusals (PlacedPrefix step e span) = refusals e
  refusals (PlacedUnary o e span) = refusals e
  refusals (PlacedCast n e span) = refusals e
  refusals (PlacedBinary a o b span) = equality_refusals o span ++ (refusals a ++ refusals b)
  refusals (PlacedInstanceOf e n span) = refusals e
  refusals (PlacedConditional q a b span) = refusals q ++ (refusals a ++ refusals b)
  refusals (PlacedAssign target o e span) = refusals target ++ refusals e

  -- in several, one after the other
  pub refusals_of_all : PlacedTrees → List Refusal
  refusals_of_all NoPlacedTrees = []
  refusals_of_all (MorePlacedTrees e es) = refusals e ++ refusals_of_all es

-- in one that may be absent
abbrev pub optional_refusals : Option PlacedTree → List Refusal
optional_refusals None = []
optional_refusals (Some e) = refusals e

-- a declared name, and what it begins with
abbrev pub declarator_refusals : PlacedDeclarator → List Refusal
declarator_refusals d = name_refusals d.name ++ optional_refusals d.value

-- the type of a local or a parameter
abbrev pub declared_refusals : List LocalModifier → PlacedTypeUse → List Refusal
declared_refusals marks u = use_refusals u both_kinds (annotations_of marks)

-- in a declaration of locals
abbrev pub local_refusals : PlacedLocal → List Refusal
local_refusals l = declared_refusals l.marks l.type_use ++ (declarator_refusals l.first ++ flat_map declarator_refusals l.more)

-- in what a `for` begins with
abbrev pub init_refusals : PlacedInit → List Refusal
init_refusals (PlacedExpressions es) = refusals_of_all es
init_refusals (PlacedDeclaration l) = local_refusals l

abbrev mutual
  -- in a statement
  pub statement_refusals : PlacedStatement → List Refusal
  statement_refusals (PlacedBlock body span) = statements_refusals body
  statement_refusals (PlacedEmpty span) = []
  statement_refusals (PlacedExpression e span) = refusals e
  statement_refusals (PlacedBreak span) = []
  statement_refusals (PlacedContinue span) = []
  statement_refusals (PlacedReturn value span) = optional_refusals value
  statement_refusals (PlacedLocalStatement l span) = local_refusals l
  statement_refusals (PlacedIf q body span) = refusals q ++ statement_refusals body
  statement_refusals (PlacedIfElse q body other span) = refusals q ++ (statement_refusals body ++ statement_refusals other)
  statement_refusals (PlacedWhile q body span) = refusals q ++ statement_refusals body
  statement_refusals (PlacedDo body q span) = statement_refusals body ++ refusals q
  statement_refusals (PlacedFor start q update body span) = init_refusals start ++ (optional_refusals q ++ (refusals_of_all update ++ statement_refusals body))
  statement_refusals (PlacedForEach marks u name array body span) = declared_refusals marks u ++ (name_refusals name ++ (refusals array ++ statement_refusals body))
  statement_refusals (PlacedThisCall es span) = refusals_of_all es
  statement_refusals (PlacedSuperCallStatement es span) = refusals_of_all es

  -- in statements one after the other
  pub statements_refusals : PlacedStatements → List Refusal
  statements_refusals NoPlacedStatements = []
  statements_refusals (MorePlacedStatements x xs) = statement_refusals x ++ statements_refusals xs

-- in a body that may be absent
abbrev pub body_refusals : Option PlacedStatements → List Refusal
body_refusals None = []
body_refusals (Some body) = statements_refusals body

-- a parameter
abbrev pub parameter_refusals : PlacedParameter → List Refusal
parameter_refusals p = declared_refusals p.marks p.type_use ++ name_refusals p.name

-- the annotations of a method's result
abbrev pub result_refusals : PlacedResult → List Modifier → List Refusal
result_refusals (PlacedVoid span) marks = annotation_refusals both_kinds true (without_override (notes_of marks))
result_refusals (PlacedValue u) marks = use_refusals u both_kinds (without_override (notes_of marks))

-- the annotations of a receiver (JLS 8, 8.4.1)
abbrev pub receiver_refusals : Option PlacedReceiver → List Refusal
receiver_refusals None = []
receiver_refusals (Some r) = annotation_refusals initialization_alone true r.annotations

-- a field of an interface, or a static one of a class, at the first token
abbrev pub field_refusals : Bool → List Modifier → PlacedTypeUse → List Refusal
field_refusals interface marks u =
    cond interface (refusal InterfaceField (first_mark marks u) ∷ [])
    (cond (has_static marks) (refusal StaticField (first_mark marks u) ∷ []) [])

-- in a member of an interface, or of a class
abbrev pub member_refusals : Bool → PlacedMember → List Refusal
member_refusals interface (PlacedFieldMember marks u d ds span) = use_refusals u of_field (notes_of marks) ++ (field_refusals interface marks u ++ (declarator_refusals d ++ flat_map declarator_refusals ds))
member_refusals interface (PlacedMethod marks result name receiver parameters body span) = name_refusals name ++ (result_refusals result marks ++ (receiver_refusals receiver ++ (flat_map parameter_refusals parameters ++ body_refusals body)))
member_refusals interface (PlacedConstructor marks name parameters body span) = annotation_refusals both_kinds true (notes_of marks) ++ (flat_map parameter_refusals parameters ++ statements_refusals body)

-- in a class or an interface
abbrev pub type_refusals : PlacedType → List Refusal
type_refusals (PlacedClass marks name parent interfaces members span) = annotation_refusals both_kinds true (notes_of marks) ++ (name_refusals name ++ flat_map (member_refusals false) members)
type_refusals (PlacedInterface marks name parents members span) = annotation_refusals both_kinds true (notes_of marks) ++ (name_refusals name ++ flat_map (member_refusals true) members)

-- an import
abbrev pub import_refusal : PlacedImport → Refusal
import_refusal i = refusal OtherImport i.span

-- a package line after the first one, whose name's place is told
abbrev pub package_refusals : Option PlacedDotted → Option PlacedPackage → List Refusal
package_refusals first None = []
package_refusals None (Some p) = []
package_refusals (Some first) (Some p) = record { cause = OtherPackage; span = p.span; told = first.first.span } ∷ []

-- in one file after the other, by the package that is written first
abbrev pub refusals_behind : Option PlacedDotted → List PlacedFile → List Refusal
refusals_behind first [] = []
refusals_behind first (f ∷ fs) = (package_refusals first f.package_line ++ (map import_refusal f.imports ++ flat_map type_refusals f.types)) ++ refusals_behind (package_behind first f.package_line) fs

-- in files
abbrev pub files_refusals : List PlacedFile → List Refusal
files_refusals files = refusals_behind None files
