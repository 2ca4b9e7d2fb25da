-- The slots whose words annotating puts into a file, in the order of these words: those that are inferred.
use Rattle.std.specs.Prelude.{ℕ, cond, List, [], ◌∷◌, ◌++◌, drop, Option, Some, None, slice_get}
use Rattle.jn_annotate.specs.Annotated.{members_of}
use Rattle.jn_annotate.specs.Insertions.{fields_in, first_slot, methods_in, type_fields, type_methods}
use Rattle.jn_base.specs.declared.number.SlotNo.{SlotNo}
use Rattle.jn_points.specs.declared.program.Field.{Field}
use Rattle.jn_points.specs.declared.program.Method.{Method}
use Rattle.jn_points.specs.declared.program.SlotInfo.{SlotInfo}
use Rattle.jn_transfer.specs.Contributions.{is_inferred}
use Rattle.jn_trees.specs.Trees.{TypeUseTree, ParameterTree, MemberTree, FieldMember, MethodMember, ConstructorMember, TypeDeclaration}

module _ (slots : List SlotInfo) where
  -- the number of a slot, where it is inferred
  abbrev pub inferred_slot : Option SlotNo → List ℕ
  inferred_slot None = []
  inferred_slot (Some i) = cond (is_inferred (slice_get slots i.0)) (i.0 ∷ []) []

  -- of parameters, each with its slot
  abbrev pub parameter_slots : List ParameterTree → List (Option SlotNo) → List ℕ
  parameter_slots [] xs = []
  parameter_slots (p ∷ ps) [] = []
  parameter_slots (p ∷ ps) (x ∷ xs) = inferred_slot x ++ parameter_slots ps xs

  -- of what a method gives
  abbrev pub result_slots : Option TypeUseTree → Option SlotNo → List ℕ
  result_slots None x = []
  result_slots (Some u) x = inferred_slot x

  -- of a member: of fields that are declared together the first; the first fields and methods are those that it declares
  abbrev pub member_slots : MemberTree → List Field → List Method → List ℕ
  member_slots (FieldMember ms u d ds) fs methods = inferred_slot (first_slot fs)
  member_slots m fs [] = []
  member_slots (MethodMember ms u n r ps body) fs (m ∷ methods) = result_slots u m.result_slot ++ (inferred_slot m.receiver ++ parameter_slots ps m.param_slots)
  member_slots (ConstructorMember ms n ps ss) fs (m ∷ methods) = parameter_slots ps m.param_slots

  -- member by member
  abbrev pub members_slots : List MemberTree → List Field → List Method → List ℕ
  members_slots [] fs methods = []
  members_slots (m ∷ ms) fs methods = member_slots m fs methods ++ members_slots ms (drop (fields_in m) fs) (drop (methods_in m) methods)

  -- type by type
  abbrev pub types_slots : List TypeDeclaration → List Field → List Method → List ℕ
  types_slots [] fs methods = []
  types_slots (t ∷ ts) fs methods = members_slots (members_of t) fs methods ++ types_slots ts (drop (type_fields t) fs) (drop (type_methods t) methods)
