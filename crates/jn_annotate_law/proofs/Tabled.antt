-- The fields and methods of a class table in which members count as private that are inferred: they differ from those of the table in that alone, which no words depend on.
use Rattle.std.proofs.Common.{◌≡◌, ℕ, zero, suc, ◌+◌, Bool, true, false, cond, ◌||◌, List, [], ◌∷◌, ◌++◌, length, Option, Some, None, refl, sym, ap, ◌∙◌, subst, length-append}
use Rattle.std.specs.Prelude.{drop, flat_map, map, take}
use Rattle.std.proofs.lemmas.List.{drop-map, map-append}
use Rattle.jn_trees.specs.declared.expression.Identifier.{Identifier}
use Rattle.jn_base.specs.declared.infer.Infer.{Infer}
use Rattle.jn_base.specs.declared.number.NameNo.{NameNo}
use Rattle.jn_base.specs.declared.number.SlotNo.{SlotNo}
use Rattle.jn_quals.specs.Qualifier.{Qualifier}
use Rattle.jn_points.specs.Members.{some_of}
use Rattle.jn_points.specs.declared.program.Field.{Field}
use Rattle.jn_points.specs.declared.program.Method.{Method}
use Rattle.jn_points.specs.declared.program.SlotInfo.{SlotInfo}
use Rattle.jn_points.specs.declared.program.Program.{Program}
use Rattle.jn_sigs.specs.Signature.{slot_qual}
use Rattle.jn_trees.specs.Trees.{MemberTree, FieldMember, MethodMember, ConstructorMember, TypeDeclaration, ClassType, InterfaceType, SourceTree}
use Rattle.jn_places.specs.Placed.{PlacedMember, PlacedType, PlacedClass, PlacedInterface, PlacedFile}
use Rattle.jn_heads.specs.declared.head.TypeHead.{TypeHead}
use Rattle.jn_heads.specs.declared.head.FieldHead.{FieldHead}
use Rattle.jn_heads.specs.declared.head.ParamHead.{ParamHead}
use Rattle.jn_heads.specs.declared.head.MethodHead.{MethodHead}
use Rattle.jn_heads.specs.declared.head.ClassHead.{ClassHead}
use Rattle.jn_heads.specs.Heads.{all_heads, object_head, string_head, unwritten_constructor}
use Rattle.jn_heads.specs.Extract.{class_head, field_heads, has_constructor, heads, method_heads, with_constructor}
use Rattle.jn_heads.specs.Inferred.{class_marks, field_marks, infers, mark_field, mark_method, marks, method_marks, modifiers_of, slots_by}
use Rattle.jn_heads.specs.Types.{class_slots, field_slots, fields_slots, has_receiver, is_position, method_slots, methods_slots, params_slots, receiver_slots, result_slots, value_slots}
use Rattle.jn_classtable.specs.Table.{bodies_of, count, field_of, fields_from, fields_of, method_of, methods_from, methods_of, param_slots, result_slot, slot_at, table}
use Rattle.jn_annotate.specs.Insertions.{fields_in, file_fields, file_methods, first_slot, methods_in, type_fields, type_methods}
use Rattle.jn_annotate.specs.Annotated.{differs, members_of, shared_from, shared_in, shared_in_members, shared_in_types}
use Rattle.jn_annotate_law.specs.Trees.{noted_file, noted_files, noted_member, noted_members, noted_type, noted_types}
use Rattle.jn_annotate_law.specs.Says.{FieldsSay, FilesSay, MemberSays, MembersSay, TypeSays, TypesSay}
use Rattle.jn_places_law.proofs.Sent.{Each}
use Rattle.jn_annotate_law.proofs.Roles.{FieldPlays, MethodPlays}

-- its fields, methods and slots
abbrev pub table_by : Infer → List PlacedFile → Program
table_by infer trees = record (table (heads trees)) {
  fields = fields_from (heads trees) 0 0 (all_heads (marks infer trees));
  methods = methods_from (heads trees) 0 0 0 (all_heads (marks infer trees));
  slots = slots_by infer trees;
}

-- ---- without what is private

abbrev pub open_field : Field → Field
open_field f = record f { is_private = false }

abbrev pub open_method : Method → Method
open_method m = record m { is_private = false }

abbrev hide_field : FieldHead → FieldHead
hide_field h = mark_field false h

abbrev hide_method : MethodHead → MethodHead
hide_method h = mark_method false h

abbrev hide_head : ClassHead → ClassHead
hide_head h = record h { fields = map hide_field h.fields; methods = map hide_method h.methods }

one_long : (b : Bool) (x y : SlotInfo) → length (cond b (x ∷ []) []) ≡ length (cond b (y ∷ []) [])
one_long true x y = refl
one_long false x y = refl

two_long : {A B : Type 0} (xs ys : List A) (zs ws : List B) → length xs ≡ length zs → length ys ≡ length ws → length (xs ++ ys) ≡ length (zs ++ ws)
two_long xs ys zs ws e f = length-append xs ys ∙ ap (λ n. n + length ys) e ∙ ap (λ n. length zs + n) f ∙ sym (length-append zs ws)

module _ (hs : List ClassHead) where
  value_long : (a b : Bool) (t : TypeHead) → length (value_slots hs a t) ≡ length (value_slots hs b t)
  value_long a b t = one_long (is_position hs t) _ _

  params_long : (a b : Bool) (ps : List ParamHead) → length (params_slots hs a ps) ≡ length (params_slots hs b ps)
  params_long a b [] = refl
  params_long a b (p ∷ ps) = two_long (value_slots hs a p.kind) (params_slots hs a ps) (value_slots hs b p.kind) (params_slots hs b ps) (value_long a b p.kind) (params_long a b ps)

  result_long : (a b : Bool) (t : Option TypeHead) → length (result_slots hs a t) ≡ length (result_slots hs b t)
  result_long a b None = refl
  result_long a b (Some t) = value_long a b t

  receiver_long : (m : MethodHead) → length (receiver_slots m) ≡ length (receiver_slots (hide_method m))
  receiver_long m = one_long (has_receiver m) _ _

  field_long : (f : FieldHead) → length (field_slots hs f) ≡ length (field_slots hs (hide_field f))
  field_long f = one_long (is_position hs f.kind) _ _

  fields_long : (fs : List FieldHead) → length (fields_slots hs fs) ≡ length (fields_slots hs (map hide_field fs))
  fields_long [] = refl
  fields_long (f ∷ fs) = two_long (field_slots hs f) (fields_slots hs fs) (field_slots hs (hide_field f)) (fields_slots hs (map hide_field fs)) (field_long f) (fields_long fs)

  method_long : (m : MethodHead) → length (method_slots hs m) ≡ length (method_slots hs (hide_method m))
  method_long m =
      two_long (receiver_slots m) (params_slots hs m.is_private m.params ++ result_slots hs m.is_private m.result) (receiver_slots (hide_method m)) (params_slots hs false m.params ++ result_slots hs false m.result) (receiver_long m)
      (two_long (params_slots hs m.is_private m.params) (result_slots hs m.is_private m.result) (params_slots hs false m.params) (result_slots hs false m.result) (params_long m.is_private false m.params) (result_long m.is_private false m.result))

  methods_long : (ms : List MethodHead) → length (methods_slots hs ms) ≡ length (methods_slots hs (map hide_method ms))
  methods_long [] = refl
  methods_long (m ∷ ms) = two_long (method_slots hs m) (methods_slots hs ms) (method_slots hs (hide_method m)) (methods_slots hs (map hide_method ms)) (method_long m) (methods_long ms)

  class_long : (h : ClassHead) → length (class_slots hs h) ≡ length (class_slots hs (hide_head h))
  class_long h = two_long (fields_slots hs h.fields) (methods_slots hs h.methods) (fields_slots hs (map hide_field h.fields)) (methods_slots hs (map hide_method h.methods)) (fields_long h.fields) (methods_long h.methods)

  open_fields : (c k : ℕ) (fs : List FieldHead) → map open_field (fields_of hs c k fs) ≡ fields_of hs c k (map hide_field fs)
  open_fields c k [] = refl
  open_fields c k (f ∷ fs) = ap (λ r. open_field (field_of hs c k f) ∷ r) (open_fields c (k + length (field_slots hs f)) fs ∙ ap (λ n. fields_of hs c (k + n) (map hide_field fs)) (field_long f))

  open_fields_from : (c k : ℕ) (xs : List ClassHead) → map open_field (fields_from hs c k xs) ≡ fields_from hs c k (map hide_head xs)
  open_fields_from c k [] = refl
  open_fields_from c k (x ∷ xs) =
      map-append open_field (fields_of hs c k x.fields) (fields_from hs (suc c) (k + length (class_slots hs x)) xs)
      ∙ ap (λ r. r ++ map open_field (fields_from hs (suc c) (k + length (class_slots hs x)) xs)) (open_fields c k x.fields)
      ∙ ap (λ r. fields_of hs c k (map hide_field x.fields) ++ r) (open_fields_from (suc c) (k + length (class_slots hs x)) xs ∙ ap (λ n. fields_from hs (suc c) (k + n) (map hide_head xs)) (class_long x))

  params_same : (a b : Bool) (k : ℕ) (ps : List ParamHead) → param_slots hs a k ps ≡ param_slots hs b k ps
  params_same a b k [] = refl
  params_same a b k (p ∷ ps) = ap (λ r. slot_at (is_position hs p.kind) k ∷ r) (params_same a b (k + length (value_slots hs a p.kind)) ps ∙ ap (λ n. param_slots hs b (k + n) ps) (value_long a b p.kind))

  abbrev with_params : Method → List (Option SlotNo) → Option SlotNo → Method
  with_params m ps r = record m { is_private = false; param_slots = ps; result_slot = r }

  open_method_is : (c k b : ℕ) (m : MethodHead) → open_method (method_of hs c k b m) ≡ method_of hs c k b (hide_method m)
  open_method_is c k b m =
      let t : ℕ = k + length (receiver_slots m) in
      let x : Method = method_of hs c k b m in
      ap (λ ps. with_params x ps x.result_slot) (params_same m.is_private false t m.params ∙ ap (λ n. param_slots hs false (k + n) m.params) (receiver_long m))
      ∙ ap (λ r. with_params x (param_slots hs false (k + length (receiver_slots (hide_method m))) m.params) r)
      (ap (λ n. result_slot hs (t + n) m.result) (params_long m.is_private false m.params) ∙ ap (λ n. result_slot hs ((k + n) + length (params_slots hs false m.params)) m.result) (receiver_long m))

  open_methods : (c k b : ℕ) (ms : List MethodHead) → map open_method (methods_of hs c k b ms) ≡ methods_of hs c k b (map hide_method ms)
  open_methods c k b [] = refl
  open_methods c k b (m ∷ ms) =
      ap (λ x. x ∷ map open_method (methods_of hs c (k + length (method_slots hs m)) (b + count m.has_body) ms)) (open_method_is c k b m)
      ∙ ap (λ r. method_of hs c k b (hide_method m) ∷ r) (open_methods c (k + length (method_slots hs m)) (b + count m.has_body) ms ∙ ap (λ n. methods_of hs c (k + n) (b + count m.has_body) (map hide_method ms)) (method_long m))

  bodies_same : (ms : List MethodHead) → bodies_of (map hide_method ms) ≡ bodies_of ms
  bodies_same [] = refl
  bodies_same (m ∷ ms) = ap (λ n. count m.has_body + n) (bodies_same ms)

  open_methods_from : (c k b : ℕ) (xs : List ClassHead) → map open_method (methods_from hs c k b xs) ≡ methods_from hs c k b (map hide_head xs)
  open_methods_from c k b [] = refl
  open_methods_from c k b (x ∷ xs) =
      let n : ℕ = k + length (fields_slots hs x.fields) in
      let later : List Method = methods_from hs (suc c) (k + length (class_slots hs x)) (b + bodies_of x.methods) xs in
      map-append open_method (methods_of hs c n b x.methods) later
      ∙ ap (λ r. r ++ map open_method later) (open_methods c n b x.methods ∙ ap (λ z. methods_of hs c (k + z) b (map hide_method x.methods)) (fields_long x.fields))
      ∙ ap (λ r. methods_of hs c (k + length (fields_slots hs (map hide_field x.fields))) b (map hide_method x.methods) ++ r)
      (open_methods_from (suc c) (k + length (class_slots hs x)) (b + bodies_of x.methods) xs
      ∙ ap (λ z. methods_from hs (suc c) (k + z) (b + bodies_of x.methods) (map hide_head xs)) (class_long x)
      ∙ ap (λ z. methods_from hs (suc c) (k + length (class_slots hs (hide_head x))) (b + z) (map hide_head xs)) (sym (bodies_same x.methods)))

-- ---- marked heads are the heads without what is private

hidden_fields : (w : Bool) (fs : List FieldHead) → map hide_field (map (mark_field w) fs) ≡ map hide_field fs
hidden_fields w [] = refl
hidden_fields w (f ∷ fs) = ap (λ r. hide_field f ∷ r) (hidden_fields w fs)

hidden_methods : (w : Bool) (ms : List MethodHead) → map hide_method (map (mark_method w) ms) ≡ map hide_method ms
hidden_methods w [] = refl
hidden_methods w (m ∷ ms) = ap (λ r. hide_method m ∷ r) (hidden_methods w ms)

module _ (infer : Infer) where
  members_fields : (interface : Bool) (ms : List PlacedMember) → map hide_field (flat_map (field_marks infer interface) ms) ≡ map hide_field (flat_map field_heads ms)
  members_fields interface [] = refl
  members_fields interface (m ∷ ms) =
      map-append hide_field (field_marks infer interface m) (flat_map (field_marks infer interface) ms)
      ∙ ap (λ r. r ++ map hide_field (flat_map (field_marks infer interface) ms)) (hidden_fields (infers infer interface (modifiers_of m)) (field_heads m))
      ∙ ap (λ r. map hide_field (field_heads m) ++ r) (members_fields interface ms)
      ∙ sym (map-append hide_field (field_heads m) (flat_map field_heads ms))

  members_methods : (interface : Bool) (ms : List PlacedMember) → map hide_method (flat_map (method_marks infer interface) ms) ≡ map hide_method (flat_map (method_heads interface) ms)
  members_methods interface [] = refl
  members_methods interface (m ∷ ms) =
      map-append hide_method (method_marks infer interface m) (flat_map (method_marks infer interface) ms)
      ∙ ap (λ r. r ++ map hide_method (flat_map (method_marks infer interface) ms)) (hidden_methods (infers infer interface (modifiers_of m)) (method_heads interface m))
      ∙ ap (λ r. map hide_method (method_heads interface m) ++ r) (members_methods interface ms)
      ∙ sym (map-append hide_method (method_heads interface m) (flat_map (method_heads interface) ms))

some_hidden : (ms : List MethodHead) → has_constructor (map hide_method ms) ≡ has_constructor ms
some_hidden [] = refl
some_hidden (m ∷ ms) = ap (λ b. m.ctor || b) (some_hidden ms)

-- with the constructor that isn't written
abbrev completed : Identifier → Bool → List MethodHead → List MethodHead
completed n b ms = cond b ms (ms ++ hide_method (unwritten_constructor n) ∷ [])

hidden_with : (n : Identifier) (ms : List MethodHead) → map hide_method (with_constructor n ms) ≡ completed n (has_constructor (map hide_method ms)) (map hide_method ms)
hidden_with n ms = go (has_constructor ms) ∙ ap (λ b. completed n b (map hide_method ms)) (sym (some_hidden ms))
  where
    go : (b : Bool) → map hide_method (cond b ms (ms ++ unwritten_constructor n ∷ [])) ≡ completed n b (map hide_method ms)
    go true = refl
    go false = map-append hide_method ms (unwritten_constructor n ∷ [])

same_with : (n : Identifier) (xs ys : List MethodHead) → map hide_method xs ≡ map hide_method ys → map hide_method (with_constructor n xs) ≡ map hide_method (with_constructor n ys)
same_with n xs ys e = hidden_with n xs ∙ ap (λ zs. completed n (has_constructor zs) zs) e ∙ sym (hidden_with n ys)

abbrev with_members : ClassHead → List FieldHead → List MethodHead → ClassHead
with_members h fs ms = record h { fields = fs; methods = ms }

module _ (infer : Infer) where
  class_same : (t : PlacedType) → hide_head (class_marks infer t) ≡ hide_head (class_head t)
  class_same (PlacedClass ms n parent interfaces members s) =
      let h : ClassHead = class_head (PlacedClass ms n parent interfaces members s) in
      let M : List MethodHead = flat_map (method_marks infer false) members in
      ap (λ fs. with_members h fs (map hide_method (with_constructor n M))) (members_fields infer false members)
      ∙ ap (with_members h (map hide_field (flat_map field_heads members))) (same_with n M (flat_map (method_heads false) members) (members_methods infer false members))
  class_same (PlacedInterface ms n parents members s) =
      let h : ClassHead = class_head (PlacedInterface ms n parents members s) in
      ap (λ fs. with_members h fs (map hide_method (flat_map (method_marks infer true) members))) (members_fields infer true members)
      ∙ ap (with_members h (map hide_field (flat_map field_heads members))) (members_methods infer true members)

  types_same : (ts : List PlacedType) → map hide_head (map (class_marks infer) ts) ≡ map hide_head (map class_head ts)
  types_same [] = refl
  types_same (t ∷ ts) = ap (λ x. x ∷ map hide_head (map (class_marks infer) ts)) (class_same t) ∙ ap (λ r. hide_head (class_head t) ∷ r) (types_same ts)

  heads_same : (files : List PlacedFile) → map hide_head (marks infer files) ≡ map hide_head (heads files)
  heads_same [] = refl
  heads_same (f ∷ files) =
      map-append hide_head (map (class_marks infer) f.types) (marks infer files)
      ∙ ap (λ r. r ++ map hide_head (marks infer files)) (types_same f.types)
      ∙ ap (λ r. map hide_head (map class_head f.types) ++ r) (heads_same files)
      ∙ sym (map-append hide_head (map class_head f.types) (heads files))

  pub fields_same : (files : List PlacedFile) → map open_field (table_by infer files).fields ≡ map open_field (table (heads files)).fields
  fields_same files =
      open_fields_from (heads files) 2 0 (marks infer files) ∙ ap (fields_from (heads files) 2 0) (heads_same files) ∙ sym (open_fields_from (heads files) 2 0 (heads files))

  pub methods_same : (files : List PlacedFile) → map open_method (drop 1 (table_by infer files).methods) ≡ map open_method (drop 1 (table (heads files)).methods)
  methods_same files =
      open_methods_from (heads files) 2 0 1 (marks infer files) ∙ ap (methods_from (heads files) 2 0 1) (heads_same files) ∙ sym (open_methods_from (heads files) 2 0 1 (heads files))

  pub all_methods_same : (files : List PlacedFile) → map open_method (table_by infer files).methods ≡ map open_method (table (heads files)).methods
  all_methods_same files =
      let hs : List ClassHead = heads files in
      open_methods_from hs 0 0 0 (all_heads (marks infer files))
      ∙ ap (λ xs. methods_from hs 0 0 0 (hide_head object_head ∷ hide_head string_head ∷ xs)) (heads_same files)
      ∙ sym (open_methods_from hs 0 0 0 (all_heads hs))

-- ---- what is written in trees depends on slots alone

first_open : (fs : List Field) → first_slot (map open_field fs) ≡ first_slot fs
first_open [] = refl
first_open (f ∷ fs) = refl

module _ (slots : List SlotInfo) (s : List Qualifier) where
  member_open : (cn : NameNo) (m : MemberTree) (fs : List Field) (methods : List Method) → noted_member slots s cn m (map open_field fs) (map open_method methods) ≡ noted_member slots s cn m fs methods
  member_open cn (FieldMember ms u d ds) [] methods = refl
  member_open cn (FieldMember ms u d ds) (f ∷ fs) methods = refl
  member_open cn (MethodMember ms u n r ps body) fs [] = refl
  member_open cn (MethodMember ms u n r ps body) fs (m ∷ methods) = refl
  member_open cn (ConstructorMember ms n ps ss) fs [] = refl
  member_open cn (ConstructorMember ms n ps ss) fs (m ∷ methods) = refl

  members_open : (cn : NameNo) (ms : List MemberTree) (fs : List Field) (methods : List Method) → noted_members slots s cn ms (map open_field fs) (map open_method methods) ≡ noted_members slots s cn ms fs methods
  members_open cn [] fs methods = refl
  members_open cn (m ∷ ms) fs methods =
      ap (λ x. x ∷ noted_members slots s cn ms (drop (fields_in m) (map open_field fs)) (drop (methods_in m) (map open_method methods))) (member_open cn m fs methods)
      ∙ ap (λ r. noted_member slots s cn m fs methods ∷ r)
      (ap (λ x. noted_members slots s cn ms x (drop (methods_in m) (map open_method methods))) (drop-map open_field (fields_in m) fs)
      ∙ ap (noted_members slots s cn ms (map open_field (drop (fields_in m) fs))) (drop-map open_method (methods_in m) methods)
      ∙ members_open cn ms (drop (fields_in m) fs) (drop (methods_in m) methods))

  type_open : (t : TypeDeclaration) (fs : List Field) (methods : List Method) → noted_type slots s t (map open_field fs) (map open_method methods) ≡ noted_type slots s t fs methods
  type_open (ClassType ms n parent interfaces members) fs methods = ap (ClassType ms n parent interfaces) (members_open n members fs methods)
  type_open (InterfaceType ms n parents members) fs methods = ap (InterfaceType ms n parents) (members_open n members fs methods)

  noted_types_open : (ts : List TypeDeclaration) (fs : List Field) (methods : List Method) → noted_types slots s ts (map open_field fs) (map open_method methods) ≡ noted_types slots s ts fs methods
  noted_types_open [] fs methods = refl
  noted_types_open (t ∷ ts) fs methods =
      ap (λ x. x ∷ noted_types slots s ts (drop (type_fields t) (map open_field fs)) (drop (type_methods t) (map open_method methods))) (type_open t fs methods)
      ∙ ap (λ r. noted_type slots s t fs methods ∷ r)
      (ap (λ x. noted_types slots s ts x (drop (type_methods t) (map open_method methods))) (drop-map open_field (type_fields t) fs)
      ∙ ap (noted_types slots s ts (map open_field (drop (type_fields t) fs))) (drop-map open_method (type_methods t) methods)
      ∙ noted_types_open ts (drop (type_fields t) fs) (drop (type_methods t) methods))

  abbrev with_types : SourceTree → List TypeDeclaration → SourceTree
  with_types f types = record { package_line = f.package_line; imports = f.imports; types = types }

  files_open : (trees : List SourceTree) (fs : List Field) (methods : List Method) → noted_files slots s trees (map open_field fs) (map open_method methods) ≡ noted_files slots s trees fs methods
  files_open [] fs methods = refl
  files_open (f ∷ trees) fs methods =
      ap (λ x. with_types f x ∷ noted_files slots s trees (drop (file_fields f.types) (map open_field fs)) (drop (file_methods f.types) (map open_method methods))) (noted_types_open f.types fs methods)
      ∙ ap (λ r. noted_file slots s f fs methods ∷ r)
      (ap (λ x. noted_files slots s trees x (drop (file_methods f.types) (map open_method methods))) (drop-map open_field (file_fields f.types) fs)
      ∙ ap (noted_files slots s trees (map open_field (drop (file_fields f.types) fs))) (drop-map open_method (file_methods f.types) methods)
      ∙ files_open trees (drop (file_fields f.types) fs) (drop (file_methods f.types) methods))

  pub noted_same : (infer : Infer) (files : List PlacedFile) (trees : List SourceTree) → let P = table (heads files) in let Q = table_by infer files in noted_files slots s trees P.fields (drop 1 P.methods) ≡ noted_files slots s trees Q.fields (drop 1 Q.methods)
  noted_same infer files trees =
      let P : Program = table (heads files) in
      let Q : Program = table_by infer files in
      sym (files_open trees P.fields (drop 1 P.methods))
      ∙ ap (λ x. noted_files slots s trees x (map open_method (drop 1 P.methods))) (sym (fields_same infer files))
      ∙ ap (noted_files slots s trees (map open_field Q.fields)) (sym (methods_same infer files))
      ∙ files_open trees Q.fields (drop 1 Q.methods)

-- ---- so does what shares a type

module _ (P : Program) (s : List Qualifier) where
  differ_open : (q : Qualifier) (i n : ℕ) (fs : List Field) → some_of (differs P s q i) (take n (map open_field fs)) ≡ some_of (differs P s q i) (take n fs)
  differ_open q i zero fs = refl
  differ_open q i (suc n) [] = refl
  differ_open q i (suc n) (f ∷ fs) = ap (λ b. differs P s q i f || b) (differ_open q i n fs)

  shared_open : (m : MemberTree) (fs : List Field) (i : ℕ) → shared_in P s m (map open_field fs) i ≡ shared_in P s m fs i
  shared_open (FieldMember ms u d ds) fs i =
      ap (λ x. some_of (differs P s (slot_qual s x) i) (take (1 + length ds) (map open_field fs))) (first_open fs)
      ∙ differ_open (slot_qual s (first_slot fs)) i (1 + length ds) fs
  shared_open (MethodMember ms u n r ps body) fs i = refl
  shared_open (ConstructorMember ms n ps ss) fs i = refl

  shared_members_open : (ms : List MemberTree) (fs : List Field) (i : ℕ) → shared_in_members P s ms (map open_field fs) i ≡ shared_in_members P s ms fs i
  shared_members_open [] fs i = refl
  shared_members_open (m ∷ ms) fs i =
      ap (λ b. cond b true (shared_in_members P s ms (drop (fields_in m) (map open_field fs)) i)) (shared_open m fs i)
      ∙ ap (λ b. cond (shared_in P s m fs i) true b) (ap (λ x. shared_in_members P s ms x i) (drop-map open_field (fields_in m) fs) ∙ shared_members_open ms (drop (fields_in m) fs) i)

  shared_types_open : (ts : List TypeDeclaration) (fs : List Field) (i : ℕ) → shared_in_types P s ts (map open_field fs) i ≡ shared_in_types P s ts fs i
  shared_types_open [] fs i = refl
  shared_types_open (t ∷ ts) fs i =
      ap (λ b. cond b true (shared_in_types P s ts (drop (type_fields t) (map open_field fs)) i)) (shared_members_open (members_of t) fs i)
      ∙ ap (λ b. cond (shared_in_members P s (members_of t) fs i) true b) (ap (λ x. shared_in_types P s ts x i) (drop-map open_field (type_fields t) fs) ∙ shared_types_open ts (drop (type_fields t) fs) i)

  shared_files_open : (trees : List SourceTree) (fs : List Field) (i : ℕ) → shared_from P s trees (map open_field fs) i ≡ shared_from P s trees fs i
  shared_files_open [] fs i = refl
  shared_files_open (f ∷ trees) fs i =
      ap (λ b. cond b true (shared_from P s trees (drop (file_fields f.types) (map open_field fs)) i)) (shared_types_open f.types fs i)
      ∙ ap (λ b. cond (shared_in_types P s f.types fs i) true b) (ap (λ x. shared_from P s trees x i) (drop-map open_field (file_fields f.types) fs) ∙ shared_files_open trees (drop (file_fields f.types) fs) i)

  pub shared_same : (infer : Infer) (files : List PlacedFile) (trees : List SourceTree) (i : ℕ) → shared_from P s trees (table (heads files)).fields i ≡ shared_from P s trees (table_by infer files).fields i
  shared_same infer files trees i =
      sym (shared_files_open trees (table (heads files)).fields i)
      ∙ ap (λ x. shared_from P s trees x i) (sym (fields_same infer files))
      ∙ shared_files_open trees (table_by infer files).fields i

-- ---- and so do roles

module _ (roles : List ℕ) where
  fields_open_play : (fs : List Field) → Each (FieldPlays roles) fs → Each (FieldPlays roles) (map open_field fs)
  fields_open_play [] h = tt
  fields_open_play (f ∷ fs) h = (h.0, fields_open_play fs h.1)

  fields_play_open : (fs : List Field) → Each (FieldPlays roles) (map open_field fs) → Each (FieldPlays roles) fs
  fields_play_open [] h = tt
  fields_play_open (f ∷ fs) h = (h.0, fields_play_open fs h.1)

  methods_open_play : (ms : List Method) → Each (MethodPlays roles) ms → Each (MethodPlays roles) (map open_method ms)
  methods_open_play [] h = tt
  methods_open_play (m ∷ ms) h = (h.0, methods_open_play ms h.1)

  methods_play_open : (ms : List Method) → Each (MethodPlays roles) (map open_method ms) → Each (MethodPlays roles) ms
  methods_play_open [] h = tt
  methods_play_open (m ∷ ms) h = (h.0, methods_play_open ms h.1)

  pub fields_play_too : (infer : Infer) (files : List PlacedFile) → Each (FieldPlays roles) (table_by infer files).fields → Each (FieldPlays roles) (table (heads files)).fields
  fields_play_too infer files h = fields_play_open (table (heads files)).fields (subst (Each (FieldPlays roles)) (fields_same infer files) (fields_open_play (table_by infer files).fields h))

  pub methods_play_too : (infer : Infer) (files : List PlacedFile) → Each (MethodPlays roles) (table_by infer files).methods → Each (MethodPlays roles) (table (heads files)).methods
  methods_play_too infer files h = methods_play_open (table (heads files)).methods (subst (Each (MethodPlays roles)) (all_methods_same infer files) (methods_open_play (table_by infer files).methods h))

-- ---- and what a signature has to say

module _ (slots : List SlotInfo) (s : List Qualifier) where
  abbrev TheSame : Type 0 → Type 0 → Type 0
  TheSame X Y = (X → Y) × (Y → X)

  fields_say_open : (first : Option SlotNo) (n : ℕ) (fs : List Field) → TheSame (FieldsSay slots s first (take n (map open_field fs))) (FieldsSay slots s first (take n fs))
  fields_say_open first zero fs = ((λ h. h), (λ h. h))
  fields_say_open first (suc n) [] = ((λ h. h), (λ h. h))
  fields_say_open first (suc n) (f ∷ fs) =
      let r = fields_say_open first n fs in
      ((λ h. (h.0, h.1, r.0 h.2)), (λ h. (h.0, h.1, r.1 h.2)))

  member_says_open : (m : MemberTree) (fs : List Field) (methods : List Method) → TheSame (MemberSays slots s m (map open_field fs) (map open_method methods)) (MemberSays slots s m fs methods)
  member_says_open (FieldMember ms u d ds) [] methods = ((λ h. h), (λ h. h))
  member_says_open (FieldMember ms u d ds) (f ∷ fs) methods = fields_say_open f.slot (1 + length ds) (f ∷ fs)
  member_says_open (MethodMember ms u n r ps body) fs [] = ((λ h. h), (λ h. h))
  member_says_open (MethodMember ms u n r ps body) fs (m ∷ methods) = ((λ h. h), (λ h. h))
  member_says_open (ConstructorMember ms n ps ss) fs [] = ((λ h. h), (λ h. h))
  member_says_open (ConstructorMember ms n ps ss) fs (m ∷ methods) = ((λ h. h), (λ h. h))

  -- after what a declaration takes
  abbrev DropsTo : (List Field → List Method → Type 0) → ℕ → ℕ → List Field → List Method → Type 0
  DropsTo X i j fs methods = TheSame (X (drop i (map open_field fs)) (drop j (map open_method methods))) (X (drop i fs) (drop j methods))

  drops_to : (X : List Field → List Method → Type 0) (i j : ℕ) (fs : List Field) (methods : List Method) → TheSame (X (map open_field (drop i fs)) (map open_method (drop j methods))) (X (drop i fs) (drop j methods)) → DropsTo X i j fs methods
  drops_to X i j fs methods r = (
    λ h. r.0 (subst (X (map open_field (drop i fs))) (drop-map open_method j methods) (subst (λ x. X x (drop j (map open_method methods))) (drop-map open_field i fs) h)),
    λ h. subst (λ x. X x (drop j (map open_method methods))) (sym (drop-map open_field i fs)) (subst (X (map open_field (drop i fs))) (sym (drop-map open_method j methods)) (r.1 h)),
  )

  members_say_open : (ms : List MemberTree) (fs : List Field) (methods : List Method) → TheSame (MembersSay slots s ms (map open_field fs) (map open_method methods)) (MembersSay slots s ms fs methods)
  members_say_open [] fs methods = ((λ h. h), (λ h. h))
  members_say_open (m ∷ ms) fs methods =
      let a = member_says_open m fs methods in
      let b = drops_to (MembersSay slots s ms) (fields_in m) (methods_in m) fs methods (members_say_open ms (drop (fields_in m) fs) (drop (methods_in m) methods)) in
      ((λ h. (a.0 h.0, b.0 h.1)), (λ h. (a.1 h.0, b.1 h.1)))

  type_says_open : (t : TypeDeclaration) (fs : List Field) (methods : List Method) → TheSame (TypeSays slots s t (map open_field fs) (map open_method methods)) (TypeSays slots s t fs methods)
  type_says_open (ClassType ms n parent interfaces members) fs methods = members_say_open members fs methods
  type_says_open (InterfaceType ms n parents members) fs methods = members_say_open members fs methods

  types_say_open : (ts : List TypeDeclaration) (fs : List Field) (methods : List Method) → TheSame (TypesSay slots s ts (map open_field fs) (map open_method methods)) (TypesSay slots s ts fs methods)
  types_say_open [] fs methods = ((λ h. h), (λ h. h))
  types_say_open (t ∷ ts) fs methods =
      let a = type_says_open t fs methods in
      let b = drops_to (TypesSay slots s ts) (type_fields t) (type_methods t) fs methods (types_say_open ts (drop (type_fields t) fs) (drop (type_methods t) methods)) in
      ((λ h. (a.0 h.0, b.0 h.1)), (λ h. (a.1 h.0, b.1 h.1)))

  files_say_open : (trees : List SourceTree) (fs : List Field) (methods : List Method) → TheSame (FilesSay slots s trees (map open_field fs) (map open_method methods)) (FilesSay slots s trees fs methods)
  files_say_open [] fs methods = ((λ h. h), (λ h. h))
  files_say_open (f ∷ trees) fs methods =
      let a = types_say_open f.types fs methods in
      let b = drops_to (FilesSay slots s trees) (file_fields f.types) (file_methods f.types) fs methods (files_say_open trees (drop (file_fields f.types) fs) (drop (file_methods f.types) methods)) in
      ((λ h. (a.0 h.0, b.0 h.1)), (λ h. (a.1 h.0, b.1 h.1)))

  pub says_same : (infer : Infer) (files : List PlacedFile) (trees : List SourceTree) → let P = table (heads files) in let Q = table_by infer files in TheSame (FilesSay slots s trees Q.fields (drop 1 Q.methods)) (FilesSay slots s trees P.fields (drop 1 P.methods))
  says_same infer files trees =
      let P : Program = table (heads files) in
      let Q : Program = table_by infer files in
      let X : List Field → List Method → Type 0 = FilesSay slots s trees in
      let p = files_say_open trees P.fields (drop 1 P.methods) in
      let q = files_say_open trees Q.fields (drop 1 Q.methods) in (
        λ h. p.0 (subst (X (map open_field P.fields)) (methods_same infer files) (subst (λ x. X x (map open_method (drop 1 Q.methods))) (fields_same infer files) (q.1 h))),
        λ h. q.0 (subst (λ x. X x (map open_method (drop 1 Q.methods))) (sym (fields_same infer files)) (subst (X (map open_field P.fields)) (sym (methods_same infer files)) (p.1 h))),
      )
