-- Trees with the annotations of inferred slots.
use Rattle.std.specs.Prelude.{◌≡◌, Bool, true, false, List, [], ◌∷◌, ◌++◌, drop, map, Option, Some, None}
use Rattle.jn_base.specs.declared.number.NameNo.{NameNo}
use Rattle.jn_base.specs.declared.number.SlotNo.{SlotNo}
use Rattle.jn_quals.specs.Qualifier.{Qualifier}
use Rattle.jn_points.specs.declared.program.Field.{Field}
use Rattle.jn_points.specs.declared.program.Method.{Method}
use Rattle.jn_points.specs.declared.program.SlotInfo.{SlotInfo}
use Rattle.jn_trees.specs.Trees.{TypeUseTree, AnnotationMark, Mark, NoteMark, ParameterTree, ReceiverTree, MemberTree, FieldMember, MethodMember, ConstructorMember, TypeDeclaration, ClassType, InterfaceType, SourceTree}
use Rattle.jn_annotate.specs.declared.imports.Package.{Package}
use Rattle.jn_annotate.specs.Imports.{import_of}
use Rattle.jn_annotate.specs.Words.{nullity_name, initialization_name}
use Rattle.jn_annotate.specs.Insertions.{fields_in, methods_in, type_fields, type_methods, file_fields, file_methods, first_slot, inferred_qual}

abbrev pub nullity_names : Qualifier → List NameNo
nullity_names q = nullity_name q ∷ []

abbrev pub both_names : Qualifier → List NameNo
both_names q = nullity_name q ∷ initialization_name q ∷ []

abbrev pub names_of : (Qualifier → List NameNo) → Option Qualifier → List NameNo
names_of names None = []
names_of names (Some q) = names q

-- those of an array stand at its brackets, others before the type (JLS 8, 9.7.4)
abbrev pub leading : List NameNo → Option (List NameNo) → List NameNo
leading names None = names
leading names (Some notes) = []

abbrev pub at_brackets : List NameNo → Option (List NameNo) → Option (List NameNo)
at_brackets names None = None
at_brackets names (Some notes) = Some (notes ++ names)

abbrev pub noted_use : List NameNo → TypeUseTree → TypeUseTree
noted_use names u = record { base = u.base; array = at_brackets names u.array }

abbrev pub noted_marks : List NameNo → TypeUseTree → List Mark → List Mark
noted_marks names u ms = ms ++ map NoteMark (leading names u.array)

abbrev pub noted_parameter : List NameNo → ParameterTree → ParameterTree
noted_parameter names p = record { marks = p.marks ++ map AnnotationMark (leading names p.type_use.array); type_use = noted_use names p.type_use; name = p.name }

abbrev pub noted_receiver : NameNo → Option ReceiverTree → Option Qualifier → Option ReceiverTree
noted_receiver class r None = r
noted_receiver class None (Some q) = Some (record { annotations = initialization_name q ∷ []; class = class })
noted_receiver class (Some r) (Some q) = Some (record { annotations = r.annotations ++ initialization_name q ∷ []; class = r.class })

abbrev pub noted_result : List NameNo → Option TypeUseTree → Option TypeUseTree
noted_result names None = None
noted_result names (Some u) = Some (noted_use names u)

abbrev pub noted_result_marks : List NameNo → Option TypeUseTree → List Mark → List Mark
noted_result_marks names None ms = ms
noted_result_marks names (Some u) ms = noted_marks names u ms

module _ (slots : List SlotInfo) (s : List Qualifier) where
  abbrev pub both_at : Option SlotNo → List NameNo
  both_at x = names_of both_names (inferred_qual slots s x)

  abbrev pub noted_parameters : List ParameterTree → List (Option SlotNo) → List ParameterTree
  noted_parameters [] xs = []
  noted_parameters (p ∷ ps) [] = p ∷ ps
  noted_parameters (p ∷ ps) (x ∷ xs) = noted_parameter (both_at x) p ∷ noted_parameters ps xs

  abbrev pub noted_member : NameNo → MemberTree → List Field → List Method → MemberTree
  noted_member class (FieldMember ms u d ds) fs methods =
      let names = names_of nullity_names (inferred_qual slots s (first_slot fs)) in
      FieldMember (noted_marks names u ms) (noted_use names u) d ds
  noted_member class m fs [] = m
  noted_member class (MethodMember ms u n r ps body) fs (m ∷ methods) =
      MethodMember (noted_result_marks (both_at m.result_slot) u ms) (noted_result (both_at m.result_slot) u) n (noted_receiver class r (inferred_qual slots s m.receiver)) (noted_parameters ps m.param_slots) body
  noted_member class (ConstructorMember ms n ps ss) fs (m ∷ methods) = ConstructorMember ms n (noted_parameters ps m.param_slots) ss

  abbrev pub noted_members : NameNo → List MemberTree → List Field → List Method → List MemberTree
  noted_members class [] fs methods = []
  noted_members class (m ∷ ms) fs methods = noted_member class m fs methods ∷ noted_members class ms (drop (fields_in m) fs) (drop (methods_in m) methods)

  abbrev pub noted_type : TypeDeclaration → List Field → List Method → TypeDeclaration
  noted_type (ClassType ms n parent interfaces members) fs methods = ClassType ms n parent interfaces (noted_members n members fs methods)
  noted_type (InterfaceType ms n parents members) fs methods = InterfaceType ms n parents (noted_members n members fs methods)

  abbrev pub noted_types : List TypeDeclaration → List Field → List Method → List TypeDeclaration
  noted_types [] fs methods = []
  noted_types (t ∷ ts) fs methods = noted_type t fs methods ∷ noted_types ts (drop (type_fields t) fs) (drop (type_methods t) methods)

  -- a file whose types declare these fields and methods
  abbrev pub noted_file : SourceTree → List Field → List Method → SourceTree
  noted_file f fs methods = record { package_line = f.package_line; imports = f.imports; types = noted_types f.types fs methods }

  -- files whose types declare these fields and methods, one after the other
  abbrev pub noted_files : List SourceTree → List Field → List Method → List SourceTree
  noted_files [] fs methods = []
  noted_files (f ∷ trees) fs methods = noted_file f fs methods ∷ noted_files trees (drop (file_fields f.types) fs) (drop (file_methods f.types) methods)

-- with imports of all annotations of these packages, before those that it has
abbrev pub with_imports : List Package → SourceTree → SourceTree
with_imports ps f = record { package_line = f.package_line; imports = map import_of ps ++ f.imports; types = f.types }

abbrev pub AllImport : List SourceTree → List SourceTree → Type 0
AllImport [] [] = Unit {0}
AllImport [] (g ∷ gs) = ⊥
AllImport (f ∷ fs) [] = ⊥
AllImport (f ∷ fs) (g ∷ gs) = ((ps : List Package) × (g ≡ with_imports ps f)) × AllImport fs gs

-- the trees are the annotated ones, with such imports, where these are asked for
abbrev pub AreNoted : Bool → List SourceTree → List SourceTree → Type 0
AreNoted false noted trees = trees ≡ noted
AreNoted true noted trees = AllImport noted trees
