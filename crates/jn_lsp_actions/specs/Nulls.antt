-- Where `@Nullable` is written for a slot alone: at the type of its declaration, where no nullity is said, and which no other field shares.
use Rattle.std.specs.Prelude.{ℕ, Bool, false, cond, eqb, not, ◌&&◌, ◌||◌, List, [], ◌∷◌, ◌++◌, drop, Option, Some, None}
use Rattle.jn_base.specs.declared.number.NameNo.{NameNo}
use Rattle.jn_base.specs.declared.number.SlotNo.{SlotNo}
use Rattle.jn_known.specs.Known.{monotonic_name, non_null_name, nullable_name}
use Rattle.jn_points.specs.Members.{some_of}
use Rattle.jn_points.specs.declared.program.Field.{Field}
use Rattle.jn_points.specs.declared.program.Method.{Method}
use Rattle.jn_quals.specs.Order.{null_only}
use Rattle.jn_sigs.specs.Signature.{is_slot}
use Rattle.jn_trees.specs.declared.token.Token.{Token}
use Rattle.jn_trees.specs.declared.token.TokenKind.TheVariants.{Id, LeftParen, LeftBrace, Class, Interface, Implements, Extends}
use Rattle.jn_trees.specs.Trees.{Mark, NoteMark, LocalMark, AnnotationMark, FinalMark, DeclaratorTree, TypeUseTree, ParameterTree, MemberTree, FieldMember, MethodMember, ConstructorMember, TypeDeclaration, ClassType, InterfaceType, SourceTree}
use Rattle.jn_trees.specs.Spelling.{spell_marks, spell_all_marks, spell_result, spell_member, spell_parent, spell_names, spell_type, spell_package_line, spell_imports}
use Rattle.jn_places.specs.Places.{behind, spell_parameter_through, spell_receiver}
use Rattle.jn_splice_law.specs.Inserted.{Insertion}
use Rattle.jn_annotate.specs.Words.{nullity_text}
use Rattle.jn_annotate.specs.Insertions.{at_type, first_slot, fields_in, methods_in, type_fields, type_methods}

-- ---- nullity that is said

-- an annotation that says whether what is declared may be null (Checker Framework manual, 3.2)
abbrev pub is_nullity : NameNo → Bool
is_nullity name = eqb name.0 non_null_name || eqb name.0 nullable_name || eqb name.0 monotonic_name

-- what stands before a member is such an annotation
abbrev pub mark_says : Mark → Bool
mark_says (NoteMark name) = is_nullity name
mark_says mark = false

-- what stands before a parameter is
abbrev pub local_mark_says : LocalMark → Bool
local_mark_says (AnnotationMark name) = is_nullity name
local_mark_says FinalMark = false

-- of an array it is said before the brackets (JLS 8, 9.7.4)
abbrev pub is_said : Bool → Option (List NameNo) → Bool
is_said before None = before
is_said before (Some names) = some_of is_nullity names

-- ---- the word, by the tokens after which nothing was looked at yet

module _ (slot : ℕ) where
  -- at the type of what has the slot, unless nullity is said
  abbrev pub at_null : Bool → List Token → TypeUseTree → Option SlotNo → List Insertion
  at_null before ts u x = at_type nullity_text ts u (cond (is_slot slot x && not (is_said before u.array)) (Some null_only) None)

  -- at the types of parameters, each with its slot
  abbrev pub null_parameters : List Token → List ParameterTree → List (Option SlotNo) → List Insertion
  null_parameters ts [] xs = []
  null_parameters ts (p ∷ ps) [] = []
  null_parameters ts (p ∷ ps) (x ∷ xs) = at_null (some_of local_mark_says p.marks) (behind ts (spell_marks p.marks)) p.type_use x ++ null_parameters (behind ts (spell_parameter_through p)) ps xs

  -- at the type of what a method gives
  abbrev pub null_result : Bool → List Token → Option TypeUseTree → Option SlotNo → List Insertion
  null_result before ts None x = []
  null_result before ts (Some u) x = at_null before ts u x

  -- at a field's type, but none where further fields are declared with it
  abbrev pub null_field : Bool → List Token → TypeUseTree → List DeclaratorTree → Option SlotNo → List Insertion
  null_field before ts u [] x = at_null before ts u x
  null_field before ts u (d ∷ ds) x = []

  -- at what a member declares; the first of the fields and of the methods are those
  abbrev pub null_member : List Token → MemberTree → List Field → List Method → List Insertion
  null_member ts (FieldMember ms u d ds) fs methods = null_field (some_of mark_says ms) (behind ts (spell_all_marks ms)) u ds (first_slot fs)
  null_member ts m fs [] = []
  null_member ts (MethodMember ms u n r ps body) fs (m ∷ methods) =
      let result = behind ts (spell_all_marks ms) in
      null_result (some_of mark_says ms) result u m.result_slot
      ++ null_parameters (behind (drop 1 (behind result (spell_result u ++ Id n ∷ []))) (spell_receiver r)) ps m.param_slots
  null_member ts (ConstructorMember ms n ps ss) fs (m ∷ methods) = null_parameters (behind ts (spell_all_marks ms ++ Id n ∷ LeftParen ∷ [])) ps m.param_slots

  -- member by member
  abbrev pub null_members : List Token → List MemberTree → List Field → List Method → List Insertion
  null_members ts [] fs methods = []
  null_members ts (m ∷ ms) fs methods = null_member ts m fs methods ++ null_members (behind ts (spell_member m)) ms (drop (fields_in m) fs) (drop (methods_in m) methods)

  -- in a type
  abbrev pub null_type : List Token → TypeDeclaration → List Field → List Method → List Insertion
  null_type ts (ClassType ms n parent interfaces members) fs methods =
      let name = behind ts (spell_all_marks ms ++ Class ∷ []) in
      null_members (behind (drop 1 name) (spell_parent parent ++ (spell_names Implements interfaces ++ LeftBrace ∷ []))) members fs methods
  null_type ts (InterfaceType ms n parents members) fs methods =
      let name = behind ts (spell_all_marks ms ++ Interface ∷ []) in
      null_members (behind (drop 1 name) (spell_names Extends parents ++ LeftBrace ∷ [])) members fs methods

  -- type by type
  abbrev pub null_types : List Token → List TypeDeclaration → List Field → List Method → List Insertion
  null_types ts [] fs methods = []
  null_types ts (t ∷ rest) fs methods = null_type ts t fs methods ++ null_types (behind ts (spell_type t)) rest (drop (type_fields t) fs) (drop (type_methods t) methods)

  -- in a file that declares the first of these fields and methods
  abbrev pub null_file : List Token → SourceTree → List Field → List Method → List Insertion
  null_file ts f fs methods = null_types (behind ts (spell_package_line f.package_line ++ spell_imports f.imports)) f.types fs methods
