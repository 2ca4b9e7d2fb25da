-- Where no row J5 stands outside bodies, no interface has a field, and static fields are primitive and start with a literal (JLS 8, 8.3 and 9.3).
use Rattle.std.proofs.Common.{◌≡◌, ◌+◌, ℕ, zero, suc, Bool, true, false, not, ◌&&◌, ◌||◌, ◌⊎◌, inl, inr, List, [], ◌∷◌, ◌++◌, map, Option, Some, None, refl, sym, ap, ◌∙◌, subst, arith}
use Rattle.std.specs.Prelude.{slice_get, flat_map, pos}
use Rattle.jn_base.specs.declared.code.Code.TheVariants.{J5}
use Rattle.jn_base.specs.declared.place.Row.{Row}
use Rattle.jn_base.specs.declared.place.Span.{Span}
use Rattle.jn_trees.specs.declared.expression.Base.{Base}
use Rattle.jn_trees.specs.declared.expression.Base.TheVariants.{Class as ClassUse, Int as IntUse, Boolean as BooleanUse}
use Rattle.jn_trees.specs.declared.expression.Annotation.{Annotation}
use Rattle.jn_trees.specs.declared.expression.Literal.{Literal}
use Rattle.jn_trees.specs.declared.expression.Literal.TheVariants.{Number, Str, True, False, Null}
use Rattle.jn_trees.specs.declared.declaration.Modifier.{Modifier}
use Rattle.jn_trees.specs.declared.declaration.Modifier.TheVariants.{Annotation as Note, Public, Protected, Private, Static, Final, Abstract}
use Rattle.jn_points.specs.declared.point.BaseType.TheVariants.{Int, Bool as BoolBase}
use Rattle.jn_points.specs.declared.program.Body.{Body}
use Rattle.jn_points.specs.declared.program.Field.{Field}
use Rattle.jn_points.specs.Lookup.{class_info, field_info, interface_of}
use Rattle.jn_points.specs.BaseRows.{is_primitive}
use Rattle.jn_points.specs.Regular.{StaticField}
use Rattle.jn_places.specs.Placed.{PlacedTree, PlacedLiteral, PlacedDeclarator, PlacedTypeUse, PlacedFile, PlacedDotted, PlacedMember, PlacedMethod, PlacedConstructor, PlacedFieldMember, PlacedType, PlacedClass, PlacedInterface}
use Rattle.jn_heads.specs.declared.head.FieldHead.{FieldHead}
use Rattle.jn_heads.specs.declared.head.ClassHead.{ClassHead}
use Rattle.jn_heads.specs.declared.notes.Word.TheVariants.{Static as StaticWord}
use Rattle.jn_heads.specs.Heads.{all_heads, object_head, string_head}
use Rattle.jn_heads.specs.declared.head.Notes.{Notes}
use Rattle.jn_heads.specs.Extract.{class_head, field_head, field_heads, first_value, has_word, heads, is_word, literal_value, modifier_notes, tree_value, type_head_of}
use Rattle.jn_heads.specs.Types.{base_of}
use Rattle.jn_classtable.specs.Table.{program_with, table}
use Rattle.jn_classtable.specs.RegularTable.{FieldsAllowed}
use Rattle.jn_declaration_rules.proofs.Tests.{and_true}
use Rattle.jn_declaration_rules.proofs.Lists.{append_at, append_empty, map_at}
use Rattle.jn_classtable.proofs.Classes.{head_interface}
use Rattle.jn_classtable.proofs.Numbering.{FieldFrom, fields_from_at}
use Rattle.jn_lowering.specs.Annotations.{annotation_rows, both_kinds, name_row, of_field, row, type_rows, when}
use Rattle.jn_lowering.specs.FileRows.{all_start, declared_type_rows, files_rows, first_mark, has_static, head_rows, heads_rows, import_rows, is_plain, is_primitive_base, is_static_mark, is_static_start, is_truth_literal, is_truth_start, names_rows, notes_of, outside_rows, package_behind, package_row, starts, types_rows}

-- what a field's head must be
pub record AllowedField (hs : List ClassHead) (f : FieldHead) : Type 0 where
  pub primitive : f.is_static ≡ true → is_primitive (base_of hs f.kind) ≡ true
  pub truth : f.is_static ≡ true → base_of hs f.kind ≡ BoolBase → (f.first ≡ pos 0) ⊎ (f.first ≡ pos 1)

-- both parts see the same `static`

same_mark : (m : Modifier) → is_word StaticWord m ≡ is_static_mark m
same_mark (Note a) = refl
same_mark (Public s) = refl
same_mark (Protected s) = refl
same_mark (Private s) = refl
same_mark (Static s) = refl
same_mark (Final s) = refl
same_mark (Abstract s) = refl

same_static : (ms : List Modifier) → has_word StaticWord ms ≡ has_static ms
same_static [] = refl
same_static (m ∷ ms) = ap (λ b. b || has_word StaticWord ms) (same_mark m) ∙ ap (λ b. is_static_mark m || b) (same_static ms)

-- the first value of a boolean static field

truth_literal : (l : Literal) → is_truth_literal l ≡ true → (literal_value l ≡ pos 0) ⊎ (literal_value l ≡ pos 1)
truth_literal True h = inr refl
truth_literal False h = inl refl
truth_literal (Number n) h = cc
truth_literal (Str n) h = cc
truth_literal Null h = cc

truth_tree : (t : PlacedTree) → is_truth_start t ≡ true → (tree_value t ≡ pos 0) ⊎ (tree_value t ≡ pos 1)
truth_tree (PlacedLiteral l span) h = truth_literal l h
truth_tree t h = cc

truth_value : (s : Span) (value : Option PlacedTree) → starts (BooleanUse s) value ≡ true → (first_value true value ≡ pos 0) ⊎ (first_value true value ≡ pos 1)
truth_value s None h = inl refl
truth_value s (Some t) h = truth_tree t h

module _ (hs : List ClassHead) where
  starting : (base : Base) (array : Option (List Annotation)) (value : Option PlacedTree) (leading : Notes) → is_primitive_base base ≡ true → is_plain array ≡ true → starts base value ≡ true →
      (is_primitive (base_of hs (type_head_of base leading array)) ≡ true) × (base_of hs (type_head_of base leading array) ≡ BoolBase → (first_value true value ≡ pos 0) ⊎ (first_value true value ≡ pos 1))
  starting (ClassUse n) array value leading p q h = cc
  starting (IntUse s) (Some own) value leading p q h = cc
  starting (BooleanUse s) (Some own) value leading p q h = cc
  starting (IntUse s) None value leading p q h = (refl, λ (e : Int ≡ BoolBase). cc)
  starting (BooleanUse s) None value leading p q h = (refl, λ e. truth_value s value h)

  each_starts : (base : Base) (ds : List PlacedDeclarator) (j : ℕ) (d : PlacedDeclarator) → all_start base ds ≡ true → slice_get ds j ≡ Some d → starts base d.value ≡ true
  each_starts base [] j d h at = cc
  each_starts base (x ∷ ds) zero d h at = let same : x ≡ d = cc in subst (λ (z : PlacedDeclarator). starts base z.value ≡ true) same (and_true (starts base x.value) (all_start base ds) h).0
  each_starts base (x ∷ ds) (suc j) d h at = each_starts base ds j d (and_true (starts base x.value) (all_start base ds) h).1 at

  implied : (a b : Bool) → (a && not b) ≡ false → a ≡ true → b ≡ true
  implied true true h e = refl
  implied true false h e = cc
  implied false b h e = cc

  when_empty : (b : Bool) (s : Span) → when b (row J5 s) ≡ [] → b ≡ false
  when_empty true s h = cc
  when_empty false s h = refl

  -- a static field of a class
  started : (ms : List Modifier) (u : PlacedTypeUse) (ds : List PlacedDeclarator) (j : ℕ) (d : PlacedDeclarator) → (has_static ms && not (is_static_start u ds)) ≡ false → slice_get ds j ≡ Some d → AllowedField hs (field_head ms u d)
  started ms u ds j d h at = record { primitive = λ e. (parts e).0; truth = λ e b. subst (λ t. (first_value t d.value ≡ pos 0) ⊎ (first_value t d.value ≡ pos 1)) (sym e) ((parts e).1 b) }
    where
      parts : has_word StaticWord ms ≡ true → (is_primitive (base_of hs (type_head_of u.base (modifier_notes ms) u.array)) ≡ true) × (base_of hs (type_head_of u.base (modifier_notes ms) u.array) ≡ BoolBase → (first_value true d.value ≡ pos 0) ⊎ (first_value true d.value ≡ pos 1))
      parts e =
          let s : is_static_start u ds ≡ true = implied (has_static ms) (is_static_start u ds) h (sym (same_static ms) ∙ e) in
          let a = and_true (is_primitive_base u.base && is_plain u.array) (all_start u.base ds) s in
          let b = and_true (is_primitive_base u.base) (is_plain u.array) a.0 in
          starting u.base u.array d.value (modifier_notes ms) b.0 b.1 (each_starts u.base ds j d a.1 at)

  -- a member's rows
  last_empty : (marks : List Modifier) (u : PlacedTypeUse) (ds : List PlacedDeclarator) (rest : List Row) → type_rows u of_field (notes_of marks) ++ (names_rows ds ++ rest) ≡ [] → rest ≡ []
  last_empty marks u ds rest h = (append_empty (names_rows ds) rest (append_empty (type_rows u of_field (notes_of marks)) (names_rows ds ++ rest) h).1).1

  class_member : (x : PlacedMember) → head_rows false x ≡ [] → (j : ℕ) (f : FieldHead) → slice_get (field_heads x) j ≡ Some f → AllowedField hs f
  class_member (PlacedFieldMember marks u d ds span) h j f at =
      let m = map_at (field_head marks u) (d ∷ ds) j f at in
      let e : (has_static marks && not (is_static_start u (d ∷ ds))) ≡ false = when_empty (has_static marks && not (is_static_start u (d ∷ ds))) (first_mark marks u) (last_empty marks u (d ∷ ds) (when (has_static marks && not (is_static_start u (d ∷ ds))) (row J5 (first_mark marks u))) h) in
      subst (AllowedField hs) (sym m.2) (started marks u (d ∷ ds) j m.0 e m.1)
  class_member (PlacedMethod ms result n receiver ps body s) h j f at = cc
  class_member (PlacedConstructor ms n ps body s) h j f at = cc

  no_rows : {A : Type 0} (s : Span) → row J5 s ≡ [] → A
  no_rows s h = cc

  interface_member : (x : PlacedMember) → head_rows true x ≡ [] → (j : ℕ) (f : FieldHead) → slice_get (field_heads x) j ≡ Some f → ⊥
  interface_member (PlacedFieldMember marks u d ds span) h j f at = no_rows (first_mark marks u) (last_empty marks u (d ∷ ds) (row J5 (first_mark marks u)) h)
  interface_member (PlacedMethod ms result n receiver ps body s) h j f at = cc
  interface_member (PlacedConstructor ms n ps body s) h j f at = cc

  class_members : (xs : List PlacedMember) → heads_rows false xs ≡ [] → (j : ℕ) (f : FieldHead) → slice_get (flat_map field_heads xs) j ≡ Some f → AllowedField hs f
  class_members [] h j f at = cc
  class_members (x ∷ xs) h j f at = by (append_at (field_heads x) (flat_map field_heads xs) j f at) (class_members xs (append_empty (head_rows false x) (heads_rows false xs) h).1)
    where
      by : (slice_get (field_heads x) j ≡ Some f) ⊎ ((i : ℕ) × (slice_get (flat_map field_heads xs) i ≡ Some f)) → ((j : ℕ) (f : FieldHead) → slice_get (flat_map field_heads xs) j ≡ Some f → AllowedField hs f) → AllowedField hs f
      by (inl e) rest = class_member x (append_empty (head_rows false x) (heads_rows false xs) h).0 j f e
      by (inr e) rest = rest e.0 f e.1

  interface_members : (xs : List PlacedMember) → heads_rows true xs ≡ [] → (j : ℕ) (f : FieldHead) → slice_get (flat_map field_heads xs) j ≡ Some f → ⊥
  interface_members [] h j f at = cc
  interface_members (x ∷ xs) h j f at = by (append_at (field_heads x) (flat_map field_heads xs) j f at) (interface_members xs (append_empty (head_rows true x) (heads_rows true xs) h).1)
    where
      by : (slice_get (field_heads x) j ≡ Some f) ⊎ ((i : ℕ) × (slice_get (flat_map field_heads xs) i ≡ Some f)) → ((j : ℕ) (f : FieldHead) → slice_get (flat_map field_heads xs) j ≡ Some f → ⊥) → ⊥
      by (inl e) rest = interface_member x (append_empty (head_rows true x) (heads_rows true xs) h).0 j f e
      by (inr e) rest = rest e.0 f e.1

  -- the fields of a type
  pub record AllowedFields (h : ClassHead) : Type 0 where
    pub interface : (j : ℕ) (f : FieldHead) → slice_get h.fields j ≡ Some f → h.interface ≡ false
    pub static : (j : ℕ) (f : FieldHead) → slice_get h.fields j ≡ Some f → AllowedField hs f

  type_fields : (t : PlacedType) → declared_type_rows t ≡ [] → AllowedFields (class_head t)
  type_fields (PlacedClass marks name parent interfaces members span) h =
      let none : heads_rows false members ≡ [] = (append_empty (name_row name.name.0 name.span) (heads_rows false members) (append_empty (annotation_rows both_kinds true (notes_of marks)) (name_row name.name.0 name.span ++ heads_rows false members) h).1).1 in
      record { interface = λ j f at. refl; static = class_members members none }
  type_fields (PlacedInterface marks name parents members span) h =
      let none : heads_rows true members ≡ [] = (append_empty (name_row name.name.0 name.span) (heads_rows true members) (append_empty (annotation_rows both_kinds true (notes_of marks)) (name_row name.name.0 name.span ++ heads_rows true members) h).1).1 in
      record { interface = λ j f at. absurd (interface_members members none j f at); static = λ j f at. absurd (interface_members members none j f at) }

  type_at : (ts : List PlacedType) (i : ℕ) (t : PlacedType) → types_rows ts ≡ [] → slice_get ts i ≡ Some t → declared_type_rows t ≡ []
  type_at [] i t h at = cc
  type_at (y ∷ ts) zero t h at = let same : y ≡ t = cc in subst (λ z. declared_type_rows z ≡ []) same (append_empty (declared_type_rows y) (types_rows ts) h).0
  type_at (y ∷ ts) (suc i) t h at = type_at ts i t (append_empty (declared_type_rows y) (types_rows ts) h).1 at

  files_fields : (first : Option PlacedDotted) (fs : List PlacedFile) → files_rows first fs ≡ [] → (k : ℕ) (h : ClassHead) → slice_get (heads fs) k ≡ Some h → AllowedFields h
  files_fields first [] none k h at = cc
  files_fields first (f ∷ fs) none k h at = by (append_at (map class_head f.types) (heads fs) k h at) (files_fields (package_behind first f.package_line) fs parts.1)
    where
      parts : (package_row first f.package_line ++ (import_rows f.imports ++ types_rows f.types) ≡ []) × (files_rows (package_behind first f.package_line) fs ≡ [])
      parts = append_empty (package_row first f.package_line ++ (import_rows f.imports ++ types_rows f.types)) (files_rows (package_behind first f.package_line) fs) none

      types : types_rows f.types ≡ []
      types = (append_empty (import_rows f.imports) (types_rows f.types) (append_empty (package_row first f.package_line) (import_rows f.imports ++ types_rows f.types) parts.0).1).1

      by : (slice_get (map class_head f.types) k ≡ Some h) ⊎ ((j : ℕ) × (slice_get (heads fs) j ≡ Some h)) → ((k : ℕ) (h : ClassHead) → slice_get (heads fs) k ≡ Some h → AllowedFields h) → AllowedFields h
      by (inl e) rest = let t = map_at class_head f.types k h e in subst AllowedFields (sym t.2) (type_fields t.0 (type_at f.types k t.0 types t.1))
      by (inr e) rest = rest e.0 h e.1

  no_fields : (h a : ClassHead) → Some a ≡ Some h → a.fields ≡ [] → AllowedFields h
  no_fields h a e n = record { interface = λ j f at. none j f at; static = λ j f at. none j f at }
    where
      none : {A : Type 0} (j : ℕ) (f : FieldHead) → slice_get h.fields j ≡ Some f → A
      none j f at =
          let same : a ≡ h = cc in
          let at' : slice_get {X = FieldHead} [] j ≡ Some f = subst (λ xs. slice_get xs j ≡ Some f) (ap (λ (z : ClassHead). z.fields) (sym same) ∙ n) at in
          cc

-- Object and String have no field
all_fields : (files : List PlacedFile) → outside_rows files ≡ [] → (k : ℕ) (h : ClassHead) → slice_get (all_heads (heads files)) k ≡ Some h → AllowedFields (heads files) h
all_fields files none zero h at = no_fields (heads files) h object_head at refl
all_fields files none (suc zero) h at = no_fields (heads files) h string_head at refl
all_fields files none (suc (suc k)) h at = files_fields (heads files) None files none k h at

pub fields_allowed : (files : List PlacedFile) (bodies : List Body) → outside_rows files ≡ [] → FieldsAllowed (program_with (heads files) bodies)
fields_allowed files bodies none = record { no_interface = λ f x at. plain x (from f x at); static = λ f x at s. started_field x (from f x at) s }
  where
    from : (f : ℕ) (x : Field) → field_info (table (heads files)) f ≡ Some x → FieldFrom (heads files) 0 0 (all_heads (heads files)) x
    from f x at = fields_from_at (heads files) 0 0 (all_heads (heads files)) f x at

    allowed : (x : Field) (r : FieldFrom (heads files) 0 0 (all_heads (heads files)) x) → AllowedFields (heads files) r.class
    allowed x r = all_fields files none r.k r.class r.there

    plain : (x : Field) → FieldFrom (heads files) 0 0 (all_heads (heads files)) x → interface_of (class_info (table (heads files)) x.owner.0) ≡ false
    plain x r =
        let c : r.owner ≡ 0 + r.k = r.counted in
        let k : r.owner ≡ r.k = omega arith in
        let o : x.owner.0 ≡ r.k = ap (λ (z : Field). z.owner.0) r.field.is ∙ k in
        ap (λ n. interface_of (class_info (table (heads files)) n)) o ∙ (head_interface (heads files) r.k r.class r.there ∙ (allowed x r).interface r.field.j r.field.head r.field.among)

    started_field : (x : Field) → FieldFrom (heads files) 0 0 (all_heads (heads files)) x → x.is_static ≡ true → StaticField x
    started_field x r s =
        let a = (allowed x r).static r.field.j r.field.head r.field.among in
        let e : r.field.head.is_static ≡ true = ap (λ (z : Field). z.is_static) (sym r.field.is) ∙ s in
        subst StaticField (sym r.field.is) (a.primitive e, a.truth e)
