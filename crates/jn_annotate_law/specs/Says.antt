-- What a signature has to say of the slots of fields and receivers, so that words for them say it: a field is committed and not free, those of one declaration are alike, and a receiver isn't null.
use Rattle.std.specs.Prelude.{◌≡◌, ◌+◌, true, false, List, [], ◌∷◌, drop, take, length, Option, Some}
use Rattle.jn_annotate.specs.Words.{is_unspelled}
use Rattle.jn_quals.specs.Qualifier.{Qualifier}
use Rattle.jn_base.specs.declared.number.SlotNo.{SlotNo}
use Rattle.jn_points.specs.declared.program.Field.{Field}
use Rattle.jn_points.specs.declared.program.Method.{Method}
use Rattle.jn_points.specs.declared.program.SlotInfo.{SlotInfo}
use Rattle.jn_trees.specs.Trees.{MemberTree, FieldMember, MethodMember, TypeDeclaration, ClassType, InterfaceType, SourceTree}
use Rattle.jn_annotate.specs.Insertions.{fields_in, methods_in, type_fields, type_methods, file_fields, file_methods, first_slot, inferred_qual}

module _ (slots : List SlotInfo) (s : List Qualifier) where
  -- each slot that counts as inferred has a spelling
  abbrev pub AllSpelled : Type 0
  AllSpelled = (x : Option SlotNo) (q : Qualifier) → inferred_qual slots s x ≡ Some q → is_unspelled q ≡ false

  -- fields that share the first one's words
  abbrev pub FieldsSay : Option SlotNo → List Field → Type 0
  FieldsSay first [] = Unit {0}
  FieldsSay first (f ∷ fs) = (inferred_qual slots s f.slot ≡ inferred_qual slots s first) × ((q : Qualifier) → inferred_qual slots s f.slot ≡ Some q → (q.committed ≡ true) × (q.free ≡ false)) × FieldsSay first fs

  abbrev pub MemberSays : MemberTree → List Field → List Method → Type 0
  MemberSays (FieldMember ms u d ds) fs methods = FieldsSay (first_slot fs) (take (1 + length ds) fs)
  MemberSays (MethodMember ms u n r ps body) fs (m ∷ methods) = (q : Qualifier) → inferred_qual slots s m.receiver ≡ Some q → q.null ≡ false
  MemberSays m fs methods = Unit {0}

  abbrev pub MembersSay : List MemberTree → List Field → List Method → Type 0
  MembersSay [] fs methods = Unit {0}
  MembersSay (m ∷ ms) fs methods = MemberSays m fs methods × MembersSay ms (drop (fields_in m) fs) (drop (methods_in m) methods)

  abbrev pub TypeSays : TypeDeclaration → List Field → List Method → Type 0
  TypeSays (ClassType ms n parent interfaces members) fs methods = MembersSay members fs methods
  TypeSays (InterfaceType ms n parents members) fs methods = MembersSay members fs methods

  abbrev pub TypesSay : List TypeDeclaration → List Field → List Method → Type 0
  TypesSay [] fs methods = Unit {0}
  TypesSay (t ∷ ts) fs methods = TypeSays t fs methods × TypesSay ts (drop (type_fields t) fs) (drop (type_methods t) methods)

  abbrev pub FilesSay : List SourceTree → List Field → List Method → Type 0
  FilesSay [] fs methods = Unit {0}
  FilesSay (f ∷ trees) fs methods = TypesSay f.types fs methods × FilesSay trees (drop (file_fields f.types) fs) (drop (file_methods f.types) methods)
