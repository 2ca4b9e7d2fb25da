-- Loops that add slots by the choice of members that are inferred.
use Rattle.std.proofs.Common.{◌≡◌, ◌<◌, ◌+◌, ℕ, Bool, true, false, cond, List, [], ◌∷◌, ◌++◌, length, drop, get_or, refl, sym, ap, ◌∙◌, append_assoc, append-nil}
use Rattle.std.specs.Prelude.{flat_map, map}
use Rattle.std.proofs.lemmas.List.{drop_more}
use Rattle.jn_base.specs.declared.infer.Infer.{Infer}
use Rattle.jn_points.specs.declared.program.SlotInfo.{SlotInfo}
use Rattle.jn_trees.specs.declared.expression.Identifier.{Identifier}
use Rattle.jn_trees.specs.declared.declaration.Member.{Member}
use Rattle.jn_trees.specs.declared.declaration.TypeTree.{TypeTree}
use Rattle.jn_trees.specs.declared.declaration.FileTree.{FileTree}
use Rattle.jn_places.specs.Placed.{PlacedMember, PlacedType}
use Rattle.jn_places.specs.PlacedView.{placed_member, placed_members, placed_type, placed_file}
use Rattle.jn_heads.specs.declared.head.FieldHead.{FieldHead}
use Rattle.jn_heads.specs.declared.head.ParamHead.{ParamHead}
use Rattle.jn_heads.specs.declared.head.MethodHead.{MethodHead}
use Rattle.jn_heads.specs.declared.head.ClassHead.{ClassHead}
use Rattle.jn_heads.specs.Heads.{unwritten_constructor}
use Rattle.jn_heads.specs.Extract.{has_constructor, with_constructor}
use Rattle.jn_heads.specs.Types.{field_slots, value_slots, params_slots, receiver_slots, result_slots, method_slots, fields_slots, methods_slots, class_slots, slots_of_all}
use Rattle.jn_heads.specs.Inferred.{mark_field, mark_method, field_marks, method_marks, class_marks, marks}

-- one item more of a list whose items give lists, one after the other
step : {A B : Type 0} (f : A → List B) (of : List A → List B) → ((x : A) (xs : List A) → of (x ∷ xs) ≡ f x ++ of xs) → (xs : List A) (i : ℕ) (d : A) (old new whole : List B) → i < length xs → new ≡ old ++ f (get_or xs i d) → old ++ of (drop i xs) ≡ whole → new ++ of (drop (i + 1) xs) ≡ whole
step f of next xs i d old new whole l is before =
    ap (λ r. r ++ of (drop (i + 1) xs)) is
    ∙ append_assoc old (f (get_or xs i d)) (of (drop (i + 1) xs))
    ∙ ap (λ r. old ++ r) (sym (ap of (drop_more xs i d l) ∙ next (get_or xs i d) (drop (i + 1) xs)))
    ∙ before

fields_both : (hs : List ClassHead) (xs ys : List FieldHead) → fields_slots hs (xs ++ ys) ≡ fields_slots hs xs ++ fields_slots hs ys
fields_both hs [] ys = refl
fields_both hs (x ∷ xs) ys = ap (λ r. field_slots hs x ++ r) (fields_both hs xs ys) ∙ sym (append_assoc (field_slots hs x) (fields_slots hs xs) (fields_slots hs ys))

methods_both : (hs : List ClassHead) (xs ys : List MethodHead) → methods_slots hs (xs ++ ys) ≡ methods_slots hs xs ++ methods_slots hs ys
methods_both hs [] ys = refl
methods_both hs (x ∷ xs) ys = ap (λ r. method_slots hs x ++ r) (methods_both hs xs ys) ∙ sym (append_assoc (method_slots hs x) (methods_slots hs xs) (methods_slots hs ys))

classes_both : (hs xs ys : List ClassHead) → slots_of_all hs (xs ++ ys) ≡ slots_of_all hs xs ++ slots_of_all hs ys
classes_both hs [] ys = refl
classes_both hs (x ∷ xs) ys = ap (λ r. class_slots hs x ++ r) (classes_both hs xs ys) ∙ sym (append_assoc (class_slots hs x) (slots_of_all hs xs) (slots_of_all hs ys))

module _ (hs : List ClassHead) where
  pub field_more : (mark : Bool) (xs : List FieldHead) (i : ℕ) (d : FieldHead) (old new whole : List SlotInfo) → i < length xs → new ≡ old ++ field_slots hs (mark_field mark (get_or xs i d)) → old ++ fields_slots hs (map (mark_field mark) (drop i xs)) ≡ whole → new ++ fields_slots hs (map (mark_field mark) (drop (i + 1) xs)) ≡ whole
  field_more mark = step (λ x. field_slots hs (mark_field mark x)) (λ xs. fields_slots hs (map (mark_field mark) xs)) (λ x xs. refl)

  pub param_more : (mark : Bool) (xs : List ParamHead) (i : ℕ) (d : ParamHead) (old new whole : List SlotInfo) → i < length xs → new ≡ old ++ value_slots hs mark (get_or xs i d).kind → old ++ params_slots hs mark (drop i xs) ≡ whole → new ++ params_slots hs mark (drop (i + 1) xs) ≡ whole
  param_more mark = step (λ (x : ParamHead). value_slots hs mark x.kind) (params_slots hs mark) (λ x xs. refl)

  pub methods_next : (mark : Bool) (xs : List MethodHead) (i : ℕ) (d : MethodHead) (old new whole : List SlotInfo) → i < length xs → new ≡ old ++ method_slots hs (mark_method mark (get_or xs i d)) → old ++ methods_slots hs (map (mark_method mark) (drop i xs)) ≡ whole → new ++ methods_slots hs (map (mark_method mark) (drop (i + 1) xs)) ≡ whole
  methods_next mark = step (λ x. method_slots hs (mark_method mark x)) (λ xs. methods_slots hs (map (mark_method mark) xs)) (λ x xs. refl)

  -- receiver, parameters and result, one after the other
  pub method_more : (mark : Bool) (m : MethodHead) (S : List SlotInfo) → ((S ++ receiver_slots (mark_method mark m)) ++ params_slots hs mark m.params) ++ result_slots hs mark m.result ≡ S ++ method_slots hs (mark_method mark m)
  method_more mark m S = append_assoc (S ++ receiver_slots (mark_method mark m)) (params_slots hs mark m.params) (result_slots hs mark m.result) ∙ append_assoc S (receiver_slots (mark_method mark m)) (params_slots hs mark m.params ++ result_slots hs mark m.result)

  module _ (infer : Infer) where
    pub fields_more : (interface : Bool) (xs : List Member) (i : ℕ) (d : Member) (old new whole : List SlotInfo) → i < length xs → new ≡ old ++ fields_slots hs (field_marks infer interface (placed_member (get_or xs i d))) → old ++ fields_slots hs (flat_map (field_marks infer interface) (placed_members (drop i xs))) ≡ whole → new ++ fields_slots hs (flat_map (field_marks infer interface) (placed_members (drop (i + 1) xs))) ≡ whole
    fields_more interface = step (λ x. fields_slots hs (field_marks infer interface (placed_member x))) (λ xs. fields_slots hs (flat_map (field_marks infer interface) (placed_members xs))) (λ x xs. fields_both hs (field_marks infer interface (placed_member x)) (flat_map (field_marks infer interface) (placed_members xs)))

    pub methods_more : (interface : Bool) (xs : List Member) (i : ℕ) (d : Member) (old new whole : List SlotInfo) → i < length xs → new ≡ old ++ methods_slots hs (method_marks infer interface (placed_member (get_or xs i d))) → old ++ methods_slots hs (flat_map (method_marks infer interface) (placed_members (drop i xs))) ≡ whole → new ++ methods_slots hs (flat_map (method_marks infer interface) (placed_members (drop (i + 1) xs))) ≡ whole
    methods_more interface = step (λ x. methods_slots hs (method_marks infer interface (placed_member x))) (λ xs. methods_slots hs (flat_map (method_marks infer interface) (placed_members xs))) (λ x xs. methods_both hs (method_marks infer interface (placed_member x)) (flat_map (method_marks infer interface) (placed_members xs)))

    pub type_more : (xs : List TypeTree) (i : ℕ) (d : TypeTree) (old new whole : List SlotInfo) → i < length xs → new ≡ old ++ class_slots hs (class_marks infer (placed_type (get_or xs i d))) → old ++ slots_of_all hs (map (class_marks infer) (map placed_type (drop i xs))) ≡ whole → new ++ slots_of_all hs (map (class_marks infer) (map placed_type (drop (i + 1) xs))) ≡ whole
    type_more = step (λ x. class_slots hs (class_marks infer (placed_type x))) (λ xs. slots_of_all hs (map (class_marks infer) (map placed_type xs))) (λ x xs. refl)

    pub file_more : (xs : List FileTree) (i : ℕ) (d : FileTree) (old new whole : List SlotInfo) → i < length xs → new ≡ old ++ slots_of_all hs (map (class_marks infer) (map placed_type (get_or xs i d).types.items)) → old ++ slots_of_all hs (marks infer (map placed_file (drop i xs))) ≡ whole → new ++ slots_of_all hs (marks infer (map placed_file (drop (i + 1) xs))) ≡ whole
    file_more = step (λ (x : FileTree). slots_of_all hs (map (class_marks infer) (map placed_type x.types.items))) (λ xs. slots_of_all hs (marks infer (map placed_file xs))) (λ (x : FileTree) xs. classes_both hs (map (class_marks infer) (map placed_type x.types.items)) (marks infer (map placed_file xs)))

  -- a constructor that isn't written has no slots
  pub no_constructor : (n : Identifier) (ms : List MethodHead) → methods_slots hs (with_constructor n ms) ≡ methods_slots hs ms
  no_constructor n ms = by (has_constructor ms)
    where
      by : (b : Bool) → methods_slots hs (cond b ms (ms ++ unwritten_constructor n ∷ [])) ≡ methods_slots hs ms
      by true = refl
      by false = methods_both hs ms (unwritten_constructor n ∷ []) ∙ append-nil (methods_slots hs ms)
