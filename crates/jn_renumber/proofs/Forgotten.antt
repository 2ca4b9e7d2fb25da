-- A tree with places that is renumbered and then forgotten is the renumbered tree without places.
use Rattle.std.proofs.Common.{◌≡◌, List, [], ◌∷◌, Option, Some, None, map, refl, ap, sym, ◌∙◌}
use Rattle.jn_base.specs.declared.number.NameNo.{NameNo}
use Rattle.jn_trees.specs.declared.expression.Annotation.{Annotation}
use Rattle.jn_trees.specs.declared.expression.Identifier.{Identifier}
use Rattle.jn_trees.specs.declared.expression.Base.{Base}
use Rattle.jn_trees.specs.declared.expression.Base.TheVariants.{Class as ClassUse, Int as IntUse, Boolean as BooleanUse}
use Rattle.jn_trees.specs.declared.statement.LocalModifier.{LocalModifier}
use Rattle.jn_trees.specs.declared.statement.LocalModifier.TheVariants.{Annotation as LocalAnnotation, Final as LocalFinal}
use Rattle.jn_trees.specs.declared.declaration.Modifier.{Modifier}
use Rattle.jn_trees.specs.declared.declaration.Modifier.TheVariants.{Annotation as NoteOf, Public, Protected, Private, Static, Final, Abstract}
use Rattle.jn_trees.specs.declared.declaration.FileTree.{FileTree}
use Rattle.jn_trees.specs.View.{base_view, local_mark, mark, file_view}
use Rattle.jn_places.specs.PlacedView.{placed_file}
use Rattle.jn_places.proofs.ViewForgotten.{file_seen}
use Rattle.jn_places.specs.Placed.{PlacedTree, PlacedTrees, PlacedLiteral, PlacedName, PlacedThis, PlacedParen, PlacedField, PlacedCall, PlacedOwnCall, PlacedSuperCall, PlacedIndex, PlacedNew, PlacedNewArray, PlacedArrayOf, PlacedPostfix, PlacedPrefix, PlacedUnary, PlacedCast, PlacedBinary, PlacedInstanceOf, PlacedConditional, PlacedAssign, NoPlacedTrees, MorePlacedTrees, PlacedTypeUse, PlacedDeclarator, PlacedLocal, PlacedInit, PlacedExpressions, PlacedDeclaration, PlacedStatement, PlacedStatements, PlacedBlock, PlacedEmpty, PlacedExpression, PlacedBreak, PlacedContinue, PlacedReturn, PlacedLocalStatement, PlacedIf, PlacedIfElse, PlacedWhile, PlacedDo, PlacedFor, PlacedForEach, PlacedThisCall, PlacedSuperCallStatement, NoPlacedStatements, MorePlacedStatements, PlacedParameter, PlacedReceiver, PlacedResult, PlacedVoid, PlacedValue, PlacedMember, PlacedFieldMember, PlacedMethod, PlacedConstructor, PlacedType, PlacedClass, PlacedInterface, PlacedDotted, PlacedPackage, PlacedImport, PlacedFile}
use Rattle.jn_places.specs.Forget.{names_of, annotation_names_of, forget, forget_list, forget_optional, forget_brackets, forget_type_use, forget_declarator, forget_local, forget_init, forget_statement, forget_statements, forget_parameter, forget_receiver, forget_result, forget_body, forget_member, forget_parent, forget_type, forget_dotted, forget_package, forget_import, forget_file}
use Rattle.jn_renumber.specs.Renumbered.{renumbered_names, renumbered_annotations, renumbered_base, renumbered, renumbered_list, renumbered_optional, renumbered_local_mark, renumbered_brackets, renumbered_type_use, renumbered_declarator, renumbered_local, renumbered_init, renumbered_statement, renumbered_statements, renumbered_mark, renumbered_parameter, renumbered_receiver, renumbered_result, renumbered_body, renumbered_member, renumbered_parent, renumbered_type, renumbered_dotted, renumbered_package, renumbered_import, renumbered_file}
use Rattle.jn_renumber.specs.ByNumbers.{entries, base_by, tree_by, trees_by, optional_by, local_mark_by, brackets_by, type_use_by, declarator_by, local_by, init_by, statement_by, statements_by, mark_by, parameter_by, receiver_by, result_by, body_by, member_by, parent_by, type_by, dotted_by, package_by, import_by, file_by}

-- of each item of a list, if it holds of each one
each : {A B : Type 0} (seen : A → B) (one : A → A) (other : B → B) → ((x : A) → seen (one x) ≡ other (seen x)) → (xs : List A) → map seen (map one xs) ≡ map other (map seen xs)
each seen one other same [] = refl
each seen one other same (x ∷ xs) = cc (same x, each seen one other same xs)

module _ (ns : List NameNo) where
  names_kept : (names : List Identifier) → names_of (renumbered_names ns names) ≡ entries ns (names_of names)
  names_kept [] = refl
  names_kept (n ∷ names) = cc (names_kept names)

  notes_kept : (notes : List Annotation) → annotation_names_of (renumbered_annotations ns notes) ≡ entries ns (annotation_names_of notes)
  notes_kept [] = refl
  notes_kept (n ∷ notes) = cc (notes_kept notes)

  base_kept : (b : Base) → base_view (renumbered_base ns b) ≡ base_by ns (base_view b)
  base_kept (ClassUse n) = refl
  base_kept (IntUse s) = refl
  base_kept (BooleanUse s) = refl

  local_mark_kept : (m : LocalModifier) → local_mark (renumbered_local_mark ns m) ≡ local_mark_by ns (local_mark m)
  local_mark_kept (LocalAnnotation a) = refl
  local_mark_kept (LocalFinal s) = refl

  local_marks_kept : (ms : List LocalModifier) → map local_mark (map (renumbered_local_mark ns) ms) ≡ map (local_mark_by ns) (map local_mark ms)
  local_marks_kept ms = each local_mark (renumbered_local_mark ns) (local_mark_by ns) local_mark_kept ms

  mark_kept : (m : Modifier) → mark (renumbered_mark ns m) ≡ mark_by ns (mark m)
  mark_kept (NoteOf a) = refl
  mark_kept (Public s) = refl
  mark_kept (Protected s) = refl
  mark_kept (Private s) = refl
  mark_kept (Static s) = refl
  mark_kept (Final s) = refl
  mark_kept (Abstract s) = refl

  marks_kept : (ms : List Modifier) → map mark (map (renumbered_mark ns) ms) ≡ map (mark_by ns) (map mark ms)
  marks_kept ms = each mark (renumbered_mark ns) (mark_by ns) mark_kept ms

  mutual
    kept : (e : PlacedTree) → forget (renumbered ns e) ≡ tree_by ns (forget e)
    kept (PlacedLiteral l s) = refl
    kept (PlacedName n) = refl
    kept (PlacedThis s) = refl
    kept (PlacedParen e s) = cc (kept e)
    kept (PlacedField e n s) = cc (kept e)
    kept (PlacedCall e n es s) = cc (kept e, list_kept es)
    kept (PlacedOwnCall n es s) = cc (list_kept es)
    kept (PlacedSuperCall n es s) = cc (list_kept es)
    kept (PlacedIndex a b s) = cc (kept a, kept b)
    kept (PlacedNew n es s) = cc (list_kept es)
    kept (PlacedNewArray notes b e s) = cc (notes_kept notes, base_kept b, kept e)
    kept (PlacedArrayOf notes b es s) = cc (notes_kept notes, base_kept b, list_kept es)
    kept (PlacedPostfix e step s) = cc (kept e)
    kept (PlacedPrefix step e s) = cc (kept e)
    kept (PlacedUnary o e s) = cc (kept e)
    kept (PlacedCast n e s) = cc (kept e)
    kept (PlacedBinary a o b s) = cc (kept a, kept b)
    kept (PlacedInstanceOf e n s) = cc (kept e)
    kept (PlacedConditional a b c s) = cc (kept a, kept b, kept c)
    kept (PlacedAssign a o b s) = cc (kept a, kept b)

    list_kept : (es : PlacedTrees) → forget_list (renumbered_list ns es) ≡ trees_by ns (forget_list es)
    list_kept NoPlacedTrees = refl
    list_kept (MorePlacedTrees e rest) = cc (kept e, list_kept rest)

  optional_kept : (e : Option PlacedTree) → forget_optional (renumbered_optional ns e) ≡ optional_by ns (forget_optional e)
  optional_kept None = refl
  optional_kept (Some e) = ap Some (kept e)

  brackets_kept : (b : Option (List Annotation)) → forget_brackets (renumbered_brackets ns b) ≡ brackets_by ns (forget_brackets b)
  brackets_kept None = refl
  brackets_kept (Some notes) = ap Some (notes_kept notes)

  type_use_kept : (u : PlacedTypeUse) → forget_type_use (renumbered_type_use ns u) ≡ type_use_by ns (forget_type_use u)
  type_use_kept u = cc (base_kept u.base, brackets_kept u.array)

  declarator_kept : (d : PlacedDeclarator) → forget_declarator (renumbered_declarator ns d) ≡ declarator_by ns (forget_declarator d)
  declarator_kept d = cc (optional_kept d.value)

  declarators_kept : (ds : List PlacedDeclarator) → map forget_declarator (map (renumbered_declarator ns) ds) ≡ map (declarator_by ns) (map forget_declarator ds)
  declarators_kept ds = each forget_declarator (renumbered_declarator ns) (declarator_by ns) declarator_kept ds

  local_kept : (l : PlacedLocal) → forget_local (renumbered_local ns l) ≡ local_by ns (forget_local l)
  local_kept l = cc (local_marks_kept l.marks, type_use_kept l.type_use, declarator_kept l.first, declarators_kept l.more)

  init_kept : (i : PlacedInit) → forget_init (renumbered_init ns i) ≡ init_by ns (forget_init i)
  init_kept (PlacedExpressions es) = cc (list_kept es)
  init_kept (PlacedDeclaration l) = cc (local_kept l)

  mutual
    statement_kept : (s : PlacedStatement) → forget_statement (renumbered_statement ns s) ≡ statement_by ns (forget_statement s)
    statement_kept (PlacedBlock ss s) = cc (statements_kept ss)
    statement_kept (PlacedEmpty s) = refl
    statement_kept (PlacedExpression e s) = cc (kept e)
    statement_kept (PlacedBreak s) = refl
    statement_kept (PlacedContinue s) = refl
    statement_kept (PlacedReturn e s) = cc (optional_kept e)
    statement_kept (PlacedLocalStatement l s) = cc (local_kept l)
    statement_kept (PlacedIf c b s) = cc (kept c, statement_kept b)
    statement_kept (PlacedIfElse c b o s) = cc (kept c, statement_kept b, statement_kept o)
    statement_kept (PlacedWhile c b s) = cc (kept c, statement_kept b)
    statement_kept (PlacedDo b c s) = cc (statement_kept b, kept c)
    statement_kept (PlacedFor i c us b s) = cc (init_kept i, optional_kept c, list_kept us, statement_kept b)
    statement_kept (PlacedForEach ms u n e b s) = cc (local_marks_kept ms, type_use_kept u, kept e, statement_kept b)
    statement_kept (PlacedThisCall es s) = cc (list_kept es)
    statement_kept (PlacedSuperCallStatement es s) = cc (list_kept es)

    statements_kept : (ss : PlacedStatements) → forget_statements (renumbered_statements ns ss) ≡ statements_by ns (forget_statements ss)
    statements_kept NoPlacedStatements = refl
    statements_kept (MorePlacedStatements s rest) = cc (statement_kept s, statements_kept rest)

  parameter_kept : (p : PlacedParameter) → forget_parameter (renumbered_parameter ns p) ≡ parameter_by ns (forget_parameter p)
  parameter_kept p = cc (local_marks_kept p.marks, type_use_kept p.type_use)

  parameters_kept : (ps : List PlacedParameter) → map forget_parameter (map (renumbered_parameter ns) ps) ≡ map (parameter_by ns) (map forget_parameter ps)
  parameters_kept ps = each forget_parameter (renumbered_parameter ns) (parameter_by ns) parameter_kept ps

  receiver_kept : (r : Option PlacedReceiver) → forget_receiver (renumbered_receiver ns r) ≡ receiver_by ns (forget_receiver r)
  receiver_kept None = refl
  receiver_kept (Some r) = cc (notes_kept r.annotations)

  result_kept : (r : PlacedResult) → forget_result (renumbered_result ns r) ≡ result_by ns (forget_result r)
  result_kept (PlacedVoid s) = refl
  result_kept (PlacedValue u) = ap Some (type_use_kept u)

  body_kept : (b : Option PlacedStatements) → forget_body (renumbered_body ns b) ≡ body_by ns (forget_body b)
  body_kept None = refl
  body_kept (Some ss) = ap Some (statements_kept ss)

  member_kept : (m : PlacedMember) → forget_member (renumbered_member ns m) ≡ member_by ns (forget_member m)
  member_kept (PlacedFieldMember ms u d ds s) = cc (marks_kept ms, type_use_kept u, declarator_kept d, declarators_kept ds)
  member_kept (PlacedMethod ms u n r ps body s) = cc (marks_kept ms, result_kept u, receiver_kept r, parameters_kept ps, body_kept body)
  member_kept (PlacedConstructor ms n ps body s) = cc (marks_kept ms, parameters_kept ps, statements_kept body)

  members_kept : (ms : List PlacedMember) → map forget_member (map (renumbered_member ns) ms) ≡ map (member_by ns) (map forget_member ms)
  members_kept ms = each forget_member (renumbered_member ns) (member_by ns) member_kept ms

  parent_kept : (p : Option Identifier) → forget_parent (renumbered_parent ns p) ≡ parent_by ns (forget_parent p)
  parent_kept None = refl
  parent_kept (Some n) = refl

  type_kept : (t : PlacedType) → forget_type (renumbered_type ns t) ≡ type_by ns (forget_type t)
  type_kept (PlacedClass ms n parent interfaces members s) = cc (marks_kept ms, parent_kept parent, names_kept interfaces, members_kept members)
  type_kept (PlacedInterface ms n parents members s) = cc (marks_kept ms, names_kept parents, members_kept members)

  dotted_kept : (q : PlacedDotted) → forget_dotted (renumbered_dotted ns q) ≡ dotted_by ns (forget_dotted q)
  dotted_kept q = cc (names_kept q.more)

  package_kept : (p : Option PlacedPackage) → forget_package (renumbered_package ns p) ≡ package_by ns (forget_package p)
  package_kept None = refl
  package_kept (Some p) = ap Some (dotted_kept p.name)

  import_kept : (i : PlacedImport) → forget_import (renumbered_import ns i) ≡ import_by ns (forget_import i)
  import_kept i = cc (dotted_kept i.name)

  pub file_kept : (f : PlacedFile) → forget_file (renumbered_file ns f) ≡ file_by ns (forget_file f)
  file_kept f = cc (package_kept f.package_line, each forget_import (renumbered_import ns) (import_by ns) import_kept f.imports, each forget_type (renumbered_type ns) (type_by ns) type_kept f.types)

  -- the view without places is the renumbered one, too
  pub view_kept : (old new : FileTree) → placed_file new ≡ renumbered_file ns (placed_file old) → file_view new ≡ file_by ns (file_view old)
  view_kept old new e = sym (file_seen new) ∙ ap forget_file e ∙ file_kept (placed_file old) ∙ ap (file_by ns) (file_seen old)
