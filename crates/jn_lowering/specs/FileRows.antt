-- Rows J5 outside bodies: packages, imports, annotations, names of Object's members, static and interface fields.
use Rattle.std.specs.Prelude.{Bool, true, false, cond, not, ◌&&◌, ◌||◌, eqb, List, [], ◌∷◌, ◌++◌, Option, Some, None}
use Rattle.jn_base.specs.declared.code.Code.TheVariants.{J5}
use Rattle.jn_base.specs.declared.place.Row.{Row}
use Rattle.jn_base.specs.declared.place.Span.{Span}
use Rattle.jn_trees.specs.declared.declaration.Modifier.{Modifier}
use Rattle.jn_trees.specs.declared.declaration.Modifier.TheVariants.{Annotation as NoteOf, Public, Protected, Private, Static, Final, Abstract}
use Rattle.jn_trees.specs.declared.expression.Annotation.{Annotation}
use Rattle.jn_trees.specs.declared.expression.Base.{Base}
use Rattle.jn_trees.specs.declared.expression.Base.TheVariants.{Class as ClassUse, Int as IntUse, Boolean as BooleanUse}
use Rattle.jn_trees.specs.declared.expression.Identifier.{Identifier}
use Rattle.jn_trees.specs.declared.expression.Literal.{Literal}
use Rattle.jn_trees.specs.declared.expression.Literal.TheVariants.{Number, True, False}
use Rattle.jn_trees.specs.declared.expression.UnaryOperator.TheVariants.{Minus}
use Rattle.jn_places.specs.Placed.{PlacedTree, PlacedLiteral, PlacedUnary, PlacedClass, PlacedConstructor, PlacedDeclarator, PlacedDotted, PlacedFieldMember, PlacedFile, PlacedImport, PlacedInterface, PlacedMember, PlacedMethod, PlacedPackage, PlacedParameter, PlacedReceiver, PlacedResult, PlacedType, PlacedTypeUse, PlacedValue, PlacedVoid}
use Rattle.jn_known.specs.Known.{checkerframework_name, org_name, override_name}
use Rattle.jn_lowering.specs.Annotations.{Allowed, annotation_rows, both_kinds, name_row, of_field, row, type_rows, when}
use Rattle.jn_lowering.specs.Locals.{annotations_of}

-- at a receiver
abbrev pub initialization_alone : Allowed
initialization_alone = record { nullity = false; initialization = true; monotonic = false }

-- the annotations among the modifiers
abbrev pub notes_of : List Modifier → List Annotation
notes_of [] = []
notes_of (NoteOf a ∷ ms) = a ∷ notes_of ms
notes_of (m ∷ ms) = notes_of ms

-- the word `static`
abbrev pub is_static_mark : Modifier → Bool
is_static_mark (Static span) = true
is_static_mark m = false

-- it is among the modifiers
abbrev pub has_static : List Modifier → Bool
has_static [] = false
has_static (m ∷ ms) = is_static_mark m || has_static ms

-- `@Override` may stand on a method, any number of times
abbrev pub without_override : List Annotation → List Annotation
without_override [] = []
without_override (a ∷ as') = cond (eqb a.name.0 override_name) (without_override as') (a ∷ without_override as')

-- a static field starts with a number, perhaps after a minus sign, or with a truth value

-- a number
abbrev pub is_number_literal : Literal → Bool
is_number_literal (Number n) = true
is_number_literal l = false

-- `true` and `false`
abbrev pub is_truth_literal : Literal → Bool
is_truth_literal True = true
is_truth_literal False = true
is_truth_literal l = false

-- a number as an expression
abbrev pub is_number_tree : PlacedTree → Bool
is_number_tree (PlacedLiteral l span) = is_number_literal l
is_number_tree e = false

-- a number, perhaps after a minus sign
abbrev pub is_int_start : PlacedTree → Bool
is_int_start (PlacedUnary Minus e span) = is_number_tree e
is_int_start e = is_number_tree e

-- a truth value as an expression
abbrev pub is_truth_start : PlacedTree → Bool
is_truth_start (PlacedLiteral l span) = is_truth_literal l
is_truth_start e = false

-- a field's initializer, where it has one
abbrev pub starts : Base → Option PlacedTree → Bool
starts base None = true
starts (IntUse s) (Some e) = is_int_start e
starts (BooleanUse s) (Some e) = is_truth_start e
starts (ClassUse n) (Some e) = false

-- those of all declarators
abbrev pub all_start : Base → List PlacedDeclarator → Bool
all_start base [] = true
all_start base (d ∷ ds) = starts base d.value && all_start base ds

-- `int` or `boolean`
abbrev pub is_primitive_base : Base → Bool
is_primitive_base (ClassUse n) = false
is_primitive_base base = true

-- no array
abbrev pub is_plain : Option (List Annotation) → Bool
is_plain None = true
is_plain (Some brackets) = false

-- what a static field may be
abbrev pub is_static_start : PlacedTypeUse → List PlacedDeclarator → Bool
is_static_start u ds = is_primitive_base u.base && is_plain u.array && all_start u.base ds

-- where a modifier stands; an annotation counts as one token
abbrev pub mark_span : Modifier → Span
mark_span (NoteOf a) = a.span
mark_span (Public span) = span
mark_span (Protected span) = span
mark_span (Private span) = span
mark_span (Static span) = span
mark_span (Final span) = span
mark_span (Abstract span) = span

-- where a type's name stands
abbrev pub base_span : Base → Span
base_span (ClassUse n) = n.span
base_span (IntUse span) = span
base_span (BooleanUse span) = span

-- the first token of a field's declaration
abbrev pub first_mark : List Modifier → PlacedTypeUse → Span
first_mark [] u = base_span u.base
first_mark (m ∷ ms) u = mark_span m

-- declared fields' names
abbrev pub names_rows : List PlacedDeclarator → List Row
names_rows [] = []
names_rows (d ∷ ds) = name_row d.name.name.0 d.name.span ++ names_rows ds

-- names and types of parameters
abbrev pub parameter_rows : List PlacedParameter → List Row
parameter_rows [] = []
parameter_rows (p ∷ ps) = (name_row p.name.name.0 p.name.span ++ type_rows p.type_use both_kinds (annotations_of p.marks)) ++ parameter_rows ps

-- the annotations of a method's result
abbrev pub result_rows : PlacedResult → List Annotation → List Row
result_rows (PlacedVoid span) notes = annotation_rows both_kinds true notes
result_rows (PlacedValue u) notes = type_rows u both_kinds notes

-- the annotations of a receiver (JLS 8, 8.4.1)
abbrev pub receiver_rows : Option PlacedReceiver → List Row
receiver_rows None = []
receiver_rows (Some r) = annotation_rows initialization_alone true r.annotations

-- in a class, or in an interface
abbrev pub head_rows : Bool → PlacedMember → List Row
head_rows interface (PlacedFieldMember marks u d ds span) =
    type_rows u of_field (notes_of marks) ++ (names_rows (d ∷ ds)
    ++ cond interface (row J5 (first_mark marks u)) (when (has_static marks && not (is_static_start u (d ∷ ds))) (row J5 (first_mark marks u))))
head_rows interface (PlacedMethod marks result name receiver parameters body span) =
    name_row name.name.0 name.span ++ (result_rows result (without_override (notes_of marks)) ++ (receiver_rows receiver ++ parameter_rows parameters))
head_rows interface (PlacedConstructor marks name parameters body span) = annotation_rows both_kinds true (notes_of marks) ++ parameter_rows parameters

-- all members
abbrev pub heads_rows : Bool → List PlacedMember → List Row
heads_rows interface [] = []
heads_rows interface (x ∷ xs) = head_rows interface x ++ heads_rows interface xs

-- a class or an interface
abbrev pub declared_type_rows : PlacedType → List Row
declared_type_rows (PlacedClass marks name parent interfaces members span) = annotation_rows both_kinds true (notes_of marks) ++ (name_row name.name.0 name.span ++ heads_rows false members)
declared_type_rows (PlacedInterface marks name parents members span) = annotation_rows both_kinds true (notes_of marks) ++ (name_row name.name.0 name.span ++ heads_rows true members)

-- all types of a file
abbrev pub types_rows : List PlacedType → List Row
types_rows [] = []
types_rows (t ∷ ts) = declared_type_rows t ++ types_rows ts

-- what is imported stands under `org.checkerframework.`
abbrev pub is_under : List Identifier → Bool → Bool
is_under [] all = false
is_under (second ∷ []) all = eqb second.name.0 checkerframework_name && all
is_under (second ∷ third ∷ more) all = eqb second.name.0 checkerframework_name

-- J5: another import (JLS 8, 7.5)
abbrev pub import_row : PlacedImport → List Row
import_row i = when (not (eqb i.name.first.name.0 org_name && is_under i.name.more i.all)) (row J5 i.span)

-- all imports of a file
abbrev pub import_rows : List PlacedImport → List Row
import_rows [] = []
import_rows (i ∷ is) = import_row i ++ import_rows is

-- all files are of one package: the one that is written first

-- the same names in the same order
abbrev pub same_names : List Identifier → List Identifier → Bool
same_names [] [] = true
same_names (x ∷ xs) (y ∷ ys) = eqb x.name.0 y.name.0 && same_names xs ys
same_names xs ys = false

-- packages of one name
abbrev pub same_package : PlacedDotted → PlacedDotted → Bool
same_package a b = eqb a.first.name.0 b.first.name.0 && same_names a.more b.more

-- J5: another package than the first
abbrev pub package_row : Option PlacedDotted → Option PlacedPackage → List Row
package_row first None = []
package_row None (Some p) = []
package_row (Some first) (Some p) = when (not (same_package first p.name)) (row J5 p.span)

-- the package that is written first
abbrev pub package_behind : Option PlacedDotted → Option PlacedPackage → Option PlacedDotted
package_behind (Some first) p = Some first
package_behind None None = None
package_behind None (Some p) = Some p.name

-- the files one after the other
abbrev pub files_rows : Option PlacedDotted → List PlacedFile → List Row
files_rows first [] = []
files_rows first (f ∷ fs) = (package_row first f.package_line ++ (import_rows f.imports ++ types_rows f.types)) ++ files_rows (package_behind first f.package_line) fs

-- rows J5 of all files outside bodies
abbrev pub outside_rows : List PlacedFile → List Row
outside_rows files = files_rows None files
