-- A tree with places whose names have other numbers: each by its entry in a list of numbers. Places stay.
use Rattle.std.specs.Prelude.{List, map, Option, Some, None}
use Rattle.jn_base.specs.declared.number.NameNo.{NameNo}
use Rattle.jn_trees.specs.declared.expression.Annotation.{Annotation}
use Rattle.jn_trees.specs.declared.expression.Identifier.{Identifier}
use Rattle.jn_trees.specs.declared.expression.Base.{Base}
use Rattle.jn_trees.specs.declared.expression.Base.TheVariants.{Class as ClassUse, Int as IntUse, Boolean as BooleanUse}
use Rattle.jn_trees.specs.declared.statement.LocalModifier.{LocalModifier}
use Rattle.jn_trees.specs.declared.statement.LocalModifier.TheVariants.{Annotation as LocalAnnotation, Final as LocalFinal}
use Rattle.jn_trees.specs.declared.declaration.Modifier.{Modifier}
use Rattle.jn_trees.specs.declared.declaration.Modifier.TheVariants.{Annotation as NoteOf, Public, Protected, Private, Static, Final, Abstract}
use Rattle.jn_places.specs.Placed.{PlacedTree, PlacedTrees, PlacedLiteral, PlacedName, PlacedThis, PlacedParen, PlacedField, PlacedCall, PlacedOwnCall, PlacedSuperCall, PlacedIndex, PlacedNew, PlacedNewArray, PlacedArrayOf, PlacedPostfix, PlacedPrefix, PlacedUnary, PlacedCast, PlacedBinary, PlacedInstanceOf, PlacedConditional, PlacedAssign, NoPlacedTrees, MorePlacedTrees, PlacedTypeUse, PlacedDeclarator, PlacedLocal, PlacedInit, PlacedExpressions, PlacedDeclaration, PlacedStatement, PlacedStatements, PlacedBlock, PlacedEmpty, PlacedExpression, PlacedBreak, PlacedContinue, PlacedReturn, PlacedLocalStatement, PlacedIf, PlacedIfElse, PlacedWhile, PlacedDo, PlacedFor, PlacedForEach, PlacedThisCall, PlacedSuperCallStatement, NoPlacedStatements, MorePlacedStatements, PlacedParameter, PlacedReceiver, PlacedResult, PlacedVoid, PlacedValue, PlacedMember, PlacedFieldMember, PlacedMethod, PlacedConstructor, PlacedType, PlacedClass, PlacedInterface, PlacedDotted, PlacedPackage, PlacedImport, PlacedFile}
use Rattle.jn_renumber.specs.Names.{entry, renumbered_literal}

abbrev pub renumbered_name : List NameNo → Identifier → Identifier
renumbered_name ns n = record { name = entry ns n.name; span = n.span }

abbrev pub renumbered_names : List NameNo → List Identifier → List Identifier
renumbered_names ns names = map (renumbered_name ns) names

abbrev pub renumbered_annotation : List NameNo → Annotation → Annotation
renumbered_annotation ns a = record { name = entry ns a.name; span = a.span }

abbrev pub renumbered_annotations : List NameNo → List Annotation → List Annotation
renumbered_annotations ns notes = map (renumbered_annotation ns) notes

abbrev pub renumbered_base : List NameNo → Base → Base
renumbered_base ns (ClassUse n) = ClassUse (renumbered_name ns n)
renumbered_base ns (IntUse s) = IntUse s
renumbered_base ns (BooleanUse s) = BooleanUse s

-- an expression
abbrev mutual
  pub renumbered : List NameNo → PlacedTree → PlacedTree
  renumbered ns (PlacedLiteral l s) = PlacedLiteral (renumbered_literal ns l) s
  renumbered ns (PlacedName n) = PlacedName (renumbered_name ns n)
  renumbered ns (PlacedThis s) = PlacedThis s
  renumbered ns (PlacedParen e s) = PlacedParen (renumbered ns e) s
  renumbered ns (PlacedField e n s) = PlacedField (renumbered ns e) (renumbered_name ns n) s
  renumbered ns (PlacedCall e n es s) = PlacedCall (renumbered ns e) (renumbered_name ns n) (renumbered_list ns es) s
  renumbered ns (PlacedOwnCall n es s) = PlacedOwnCall (renumbered_name ns n) (renumbered_list ns es) s
  renumbered ns (PlacedSuperCall n es s) = PlacedSuperCall (renumbered_name ns n) (renumbered_list ns es) s
  renumbered ns (PlacedIndex a b s) = PlacedIndex (renumbered ns a) (renumbered ns b) s
  renumbered ns (PlacedNew n es s) = PlacedNew (renumbered_name ns n) (renumbered_list ns es) s
  renumbered ns (PlacedNewArray notes b e s) = PlacedNewArray (renumbered_annotations ns notes) (renumbered_base ns b) (renumbered ns e) s
  renumbered ns (PlacedArrayOf notes b es s) = PlacedArrayOf (renumbered_annotations ns notes) (renumbered_base ns b) (renumbered_list ns es) s
  renumbered ns (PlacedPostfix e step s) = PlacedPostfix (renumbered ns e) step s
  renumbered ns (PlacedPrefix step e s) = PlacedPrefix step (renumbered ns e) s
  renumbered ns (PlacedUnary o e s) = PlacedUnary o (renumbered ns e) s
  renumbered ns (PlacedCast n e s) = PlacedCast (renumbered_name ns n) (renumbered ns e) s
  renumbered ns (PlacedBinary a o b s) = PlacedBinary (renumbered ns a) o (renumbered ns b) s
  renumbered ns (PlacedInstanceOf e n s) = PlacedInstanceOf (renumbered ns e) (renumbered_name ns n) s
  renumbered ns (PlacedConditional a b c s) = PlacedConditional (renumbered ns a) (renumbered ns b) (renumbered ns c) s
  renumbered ns (PlacedAssign a o b s) = PlacedAssign (renumbered ns a) o (renumbered ns b) s

  pub renumbered_list : List NameNo → PlacedTrees → PlacedTrees
  renumbered_list ns NoPlacedTrees = NoPlacedTrees
  renumbered_list ns (MorePlacedTrees e rest) = MorePlacedTrees (renumbered ns e) (renumbered_list ns rest)

abbrev pub renumbered_optional : List NameNo → Option PlacedTree → Option PlacedTree
renumbered_optional ns None = None
renumbered_optional ns (Some e) = Some (renumbered ns e)

abbrev pub renumbered_local_mark : List NameNo → LocalModifier → LocalModifier
renumbered_local_mark ns (LocalAnnotation a) = LocalAnnotation (renumbered_annotation ns a)
renumbered_local_mark ns (LocalFinal s) = LocalFinal s

abbrev pub renumbered_local_marks : List NameNo → List LocalModifier → List LocalModifier
renumbered_local_marks ns marks = map (renumbered_local_mark ns) marks

abbrev pub renumbered_brackets : List NameNo → Option (List Annotation) → Option (List Annotation)
renumbered_brackets ns None = None
renumbered_brackets ns (Some notes) = Some (renumbered_annotations ns notes)

abbrev pub renumbered_type_use : List NameNo → PlacedTypeUse → PlacedTypeUse
renumbered_type_use ns u = record { base = renumbered_base ns u.base; array = renumbered_brackets ns u.array; span = u.span }

abbrev pub renumbered_declarator : List NameNo → PlacedDeclarator → PlacedDeclarator
renumbered_declarator ns d = record { name = renumbered_name ns d.name; value = renumbered_optional ns d.value }

abbrev pub renumbered_declarators : List NameNo → List PlacedDeclarator → List PlacedDeclarator
renumbered_declarators ns ds = map (renumbered_declarator ns) ds

abbrev pub renumbered_local : List NameNo → PlacedLocal → PlacedLocal
renumbered_local ns l = record { marks = renumbered_local_marks ns l.marks; type_use = renumbered_type_use ns l.type_use; first = renumbered_declarator ns l.first; more = renumbered_declarators ns l.more }

abbrev pub renumbered_init : List NameNo → PlacedInit → PlacedInit
renumbered_init ns (PlacedExpressions es) = PlacedExpressions (renumbered_list ns es)
renumbered_init ns (PlacedDeclaration l) = PlacedDeclaration (renumbered_local ns l)

-- a statement
abbrev mutual
  pub renumbered_statement : List NameNo → PlacedStatement → PlacedStatement
  renumbered_statement ns (PlacedBlock ss s) = PlacedBlock (renumbered_statements ns ss) s
  renumbered_statement ns (PlacedEmpty s) = PlacedEmpty s
  renumbered_statement ns (PlacedExpression e s) = PlacedExpression (renumbered ns e) s
  renumbered_statement ns (PlacedBreak s) = PlacedBreak s
  renumbered_statement ns (PlacedContinue s) = PlacedContinue s
  renumbered_statement ns (PlacedReturn e s) = PlacedReturn (renumbered_optional ns e) s
  renumbered_statement ns (PlacedLocalStatement l s) = PlacedLocalStatement (renumbered_local ns l) s
  renumbered_statement ns (PlacedIf c b s) = PlacedIf (renumbered ns c) (renumbered_statement ns b) s
  renumbered_statement ns (PlacedIfElse c b o s) = PlacedIfElse (renumbered ns c) (renumbered_statement ns b) (renumbered_statement ns o) s
  renumbered_statement ns (PlacedWhile c b s) = PlacedWhile (renumbered ns c) (renumbered_statement ns b) s
  renumbered_statement ns (PlacedDo b c s) = PlacedDo (renumbered_statement ns b) (renumbered ns c) s
  renumbered_statement ns (PlacedFor i c us b s) = PlacedFor (renumbered_init ns i) (renumbered_optional ns c) (renumbered_list ns us) (renumbered_statement ns b) s
  renumbered_statement ns (PlacedForEach ms u n e b s) = PlacedForEach (renumbered_local_marks ns ms) (renumbered_type_use ns u) (renumbered_name ns n) (renumbered ns e) (renumbered_statement ns b) s
  renumbered_statement ns (PlacedThisCall es s) = PlacedThisCall (renumbered_list ns es) s
  renumbered_statement ns (PlacedSuperCallStatement es s) = PlacedSuperCallStatement (renumbered_list ns es) s

  pub renumbered_statements : List NameNo → PlacedStatements → PlacedStatements
  renumbered_statements ns NoPlacedStatements = NoPlacedStatements
  renumbered_statements ns (MorePlacedStatements s rest) = MorePlacedStatements (renumbered_statement ns s) (renumbered_statements ns rest)

abbrev pub renumbered_mark : List NameNo → Modifier → Modifier
renumbered_mark ns (NoteOf a) = NoteOf (renumbered_annotation ns a)
renumbered_mark ns (Public s) = Public s
renumbered_mark ns (Protected s) = Protected s
renumbered_mark ns (Private s) = Private s
renumbered_mark ns (Static s) = Static s
renumbered_mark ns (Final s) = Final s
renumbered_mark ns (Abstract s) = Abstract s

abbrev pub renumbered_marks : List NameNo → List Modifier → List Modifier
renumbered_marks ns marks = map (renumbered_mark ns) marks

abbrev pub renumbered_parameter : List NameNo → PlacedParameter → PlacedParameter
renumbered_parameter ns p = record { marks = renumbered_local_marks ns p.marks; type_use = renumbered_type_use ns p.type_use; name = renumbered_name ns p.name }

abbrev pub renumbered_parameters : List NameNo → List PlacedParameter → List PlacedParameter
renumbered_parameters ns ps = map (renumbered_parameter ns) ps

abbrev pub renumbered_receiver : List NameNo → Option PlacedReceiver → Option PlacedReceiver
renumbered_receiver ns None = None
renumbered_receiver ns (Some r) = Some (record { annotations = renumbered_annotations ns r.annotations; class = renumbered_name ns r.class })

abbrev pub renumbered_result : List NameNo → PlacedResult → PlacedResult
renumbered_result ns (PlacedVoid s) = PlacedVoid s
renumbered_result ns (PlacedValue u) = PlacedValue (renumbered_type_use ns u)

abbrev pub renumbered_body : List NameNo → Option PlacedStatements → Option PlacedStatements
renumbered_body ns None = None
renumbered_body ns (Some ss) = Some (renumbered_statements ns ss)

abbrev pub renumbered_member : List NameNo → PlacedMember → PlacedMember
renumbered_member ns (PlacedFieldMember ms u d ds s) = PlacedFieldMember (renumbered_marks ns ms) (renumbered_type_use ns u) (renumbered_declarator ns d) (renumbered_declarators ns ds) s
renumbered_member ns (PlacedMethod ms u n r ps body s) = PlacedMethod (renumbered_marks ns ms) (renumbered_result ns u) (renumbered_name ns n) (renumbered_receiver ns r) (renumbered_parameters ns ps) (renumbered_body ns body) s
renumbered_member ns (PlacedConstructor ms n ps body s) = PlacedConstructor (renumbered_marks ns ms) (renumbered_name ns n) (renumbered_parameters ns ps) (renumbered_statements ns body) s

abbrev pub renumbered_members : List NameNo → List PlacedMember → List PlacedMember
renumbered_members ns ms = map (renumbered_member ns) ms

abbrev pub renumbered_parent : List NameNo → Option Identifier → Option Identifier
renumbered_parent ns None = None
renumbered_parent ns (Some n) = Some (renumbered_name ns n)

abbrev pub renumbered_type : List NameNo → PlacedType → PlacedType
renumbered_type ns (PlacedClass ms n parent interfaces members s) = PlacedClass (renumbered_marks ns ms) (renumbered_name ns n) (renumbered_parent ns parent) (renumbered_names ns interfaces) (renumbered_members ns members) s
renumbered_type ns (PlacedInterface ms n parents members s) = PlacedInterface (renumbered_marks ns ms) (renumbered_name ns n) (renumbered_names ns parents) (renumbered_members ns members) s

abbrev pub renumbered_dotted : List NameNo → PlacedDotted → PlacedDotted
renumbered_dotted ns q = record { first = renumbered_name ns q.first; more = renumbered_names ns q.more }

abbrev pub renumbered_package : List NameNo → Option PlacedPackage → Option PlacedPackage
renumbered_package ns None = None
renumbered_package ns (Some p) = Some (record { name = renumbered_dotted ns p.name; span = p.span })

abbrev pub renumbered_import : List NameNo → PlacedImport → PlacedImport
renumbered_import ns i = record { name = renumbered_dotted ns i.name; all = i.all; span = i.span }

-- a file
abbrev pub renumbered_file : List NameNo → PlacedFile → PlacedFile
renumbered_file ns f = record { package_line = renumbered_package ns f.package_line; imports = map (renumbered_import ns) f.imports; types = map (renumbered_type ns) f.types }
