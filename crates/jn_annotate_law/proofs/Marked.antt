-- Heads in which a member counts as private where it is inferred: as many as without, and annotations change none of it.
use Rattle.std.proofs.Common.{◌≡◌, ◌+◌, Bool, false, not, ◌&&◌, ◌||◌, List, [], ◌∷◌, ◌++◌, length, Option, Some, None, refl, sym, ap, ◌∙◌, length-append}
use Rattle.std.specs.Prelude.{flat_map, map}
use Rattle.std.proofs.lemmas.List.{append-nil, length-map}
use Rattle.jn_base.specs.declared.infer.Infer.{Infer}
use Rattle.jn_base.specs.declared.infer.Infer.TheVariants.{Private, Package}
use Rattle.jn_base.specs.declared.number.NameNo.{NameNo}
use Rattle.jn_points.specs.Members.{some_of}
use Rattle.jn_trees.specs.declared.token.Token.{Token}
use Rattle.jn_trees.specs.declared.declaration.Modifier.{Modifier}
use Rattle.jn_trees.specs.Trees.{TypeUseTree, Mark, NoteMark, PublicMark, ProtectedMark, PrivateMark, StaticMark, ConstantMark, AbstractMark, MemberTree, TypeDeclaration}
use Rattle.jn_trees.specs.Spelling.{spell_mark, spell_type}
use Rattle.jn_places.specs.Placed.{PlacedDeclarator, PlacedMember, PlacedTypeUse}
use Rattle.jn_places.specs.Places.{behind, place_each, place_mark, place_marks, place_members, place_type}
use Rattle.jn_heads.specs.declared.notes.Word.TheVariants.{Private as PrivateWord}
use Rattle.jn_heads.specs.declared.head.FieldHead.{FieldHead}
use Rattle.jn_heads.specs.declared.head.MethodHead.{MethodHead}
use Rattle.jn_heads.specs.declared.head.ClassHead.{ClassHead}
use Rattle.jn_heads.specs.Extract.{field_head, field_heads, has_constructor, has_word, method_heads}
use Rattle.jn_heads.specs.Inferred.{class_marks, field_marks, infers, is_access, is_open, mark_field, mark_method, method_marks, modifiers_of}
use Rattle.jn_annotate_law.specs.Trees.{leading, noted_result_marks}
use Rattle.jn_annotate_law.proofs.Extracting.{words_same}

-- ---- heads of placed trees

-- a field, and the fields of one declaration
abbrev pub a_head : Bool → List Modifier → PlacedTypeUse → PlacedDeclarator → FieldHead
a_head w A U d = mark_field w (field_head A U d)

abbrev pub some_heads : Bool → List Modifier → PlacedTypeUse → List PlacedDeclarator → List FieldHead
some_heads w A U ds = map (mark_field w) (map (field_head A U) ds)

module _ (infer : Infer) where
  abbrev pub fields_at : Bool → List Token → List MemberTree → List FieldHead
  fields_at interface ts ms = flat_map (field_marks infer interface) (place_members ts ms)

  abbrev pub methods_at : Bool → List Token → List MemberTree → List MethodHead
  methods_at interface ts ms = flat_map (method_marks infer interface) (place_members ts ms)

  abbrev pub marks_at : List Token → List TypeDeclaration → List ClassHead
  marks_at ts types = map (class_marks infer) (place_each place_type spell_type ts types)

-- ---- how many

marked_long : {A B C : Type 0} (f : A → B → C) (g : A → List B) (xs : List A) → length (flat_map (λ x. map (f x) (g x)) xs) ≡ length (flat_map g xs)
marked_long f g [] = refl
marked_long f g (x ∷ xs) =
    length-append (map (f x) (g x)) (flat_map (λ x. map (f x) (g x)) xs)
    ∙ ap (λ n. n + length (flat_map (λ x. map (f x) (g x)) xs)) (length-map (g x) (f x))
    ∙ ap (λ n. length (g x) + n) (marked_long f g xs)
    ∙ sym (length-append (g x) (flat_map g xs))

pub fields_long : (infer : Infer) (interface : Bool) (ms : List PlacedMember) → length (flat_map (field_marks infer interface) ms) ≡ length (flat_map field_heads ms)
fields_long infer interface ms = marked_long (λ m. mark_field (infers infer interface (modifiers_of m))) field_heads ms

pub methods_long : (infer : Infer) (interface : Bool) (ms : List PlacedMember) → length (flat_map (method_marks infer interface) ms) ≡ length (flat_map (method_heads interface) ms)
methods_long infer interface ms = marked_long (λ m. mark_method (infers infer interface (modifiers_of m))) (method_heads interface) ms

some_marked : (w : Bool) (ms xs ys : List MethodHead) → has_constructor xs ≡ has_constructor ys → has_constructor (map (mark_method w) ms ++ xs) ≡ has_constructor (ms ++ ys)
some_marked w [] xs ys e = e
some_marked w (m ∷ ms) xs ys e = ap (λ b. m.ctor || b) (some_marked w ms xs ys e)

pub constructors_same : (infer : Infer) (interface : Bool) (ms : List PlacedMember) → has_constructor (flat_map (method_marks infer interface) ms) ≡ has_constructor (flat_map (method_heads interface) ms)
constructors_same infer interface [] = refl
constructors_same infer interface (m ∷ ms) = some_marked (infers infer interface (modifiers_of m)) (method_heads interface m) (flat_map (method_marks infer interface) ms) (flat_map (method_heads interface) ms) (constructors_same infer interface ms)

-- ---- annotations are no access words

access_same : (ts us : List Token) (m : Mark) → is_access (place_mark ts m) ≡ is_access (place_mark us m)
access_same ts us (NoteMark n) = refl
access_same ts us PublicMark = refl
access_same ts us ProtectedMark = refl
access_same ts us PrivateMark = refl
access_same ts us StaticMark = refl
access_same ts us ConstantMark = refl
access_same ts us AbstractMark = refl

no_access : (us : List Token) (ns : List NameNo) → some_of is_access (place_marks us (map NoteMark ns)) ≡ false
no_access us [] = refl
no_access us (n ∷ ns) = no_access (behind us (spell_mark (NoteMark n))) ns

access_more : (ts us : List Token) (ms : List Mark) (ns : List NameNo) → some_of is_access (place_marks ts ms) ≡ some_of is_access (place_marks us (ms ++ map NoteMark ns))
access_more ts us [] ns = sym (no_access us ns)
access_more ts us (m ∷ ms) ns =
    ap (λ b. b || some_of is_access (place_marks (behind ts (spell_mark m)) ms)) (access_same ts us m)
    ∙ ap (λ b. is_access (place_mark us m) || b) (access_more (behind ts (spell_mark m)) (behind us (spell_mark m)) ms ns)

pub infers_more : (infer : Infer) (interface : Bool) (ts us : List Token) (ms : List Mark) (ns : List NameNo) → infers infer interface (place_marks ts ms) ≡ infers infer interface (place_marks us (ms ++ map NoteMark ns))
infers_more Private interface ts us ms ns = words_same PrivateWord ts us ms ns
infers_more Package interface ts us ms ns =
    ap (λ b. b || is_open interface (place_marks ts ms)) (words_same PrivateWord ts us ms ns)
    ∙ ap (λ b. has_word PrivateWord (place_marks us (ms ++ map NoteMark ns)) || (not interface && not b)) (access_more ts us ms ns)

pub infers_alone : (infer : Infer) (interface : Bool) (ts us : List Token) (ms : List Mark) → infers infer interface (place_marks ts ms) ≡ infers infer interface (place_marks us ms)
infers_alone infer interface ts us ms = infers_more infer interface ts us ms [] ∙ ap (λ x. infers infer interface (place_marks us x)) (append-nil ms)

pub infers_result : (infer : Infer) (interface : Bool) (u : Option TypeUseTree) (names : List NameNo) (ms : List Mark) (ts us : List Token) → infers infer interface (place_marks ts ms) ≡ infers infer interface (place_marks us (noted_result_marks names u ms))
infers_result infer interface None names ms ts us = infers_alone infer interface ts us ms
infers_result infer interface (Some u) names ms ts us = infers_more infer interface ts us ms (leading names u.array)
