-- All slots of annotated fields are written as they were inferred.
use Rattle.std.proofs.Common.{◌≡◌, ℕ, suc, ◌+◌, Bool, true, false, List, [], ◌∷◌, ◌++◌, length, Option, Some, refl, sym, ap, ◌∙◌, subst, arith, append_assoc, length-append}
use Rattle.std.specs.Prelude.{drop, take, map}
use Rattle.std.proofs.lemmas.List.{take_at, drop_at}
use Rattle.jn_base.specs.declared.number.NameNo.{NameNo}
use Rattle.jn_base.specs.declared.number.SlotNo.{SlotNo}
use Rattle.jn_base.specs.declared.infer.Infer.{Infer}
use Rattle.jn_heads.specs.Inferred.{infers, mark_field}
use Rattle.jn_annotate_law.proofs.Marked.{a_head, fields_at, infers_more, some_heads}
use Rattle.std.proofs.lemmas.List.{length-map}
use Rattle.jn_quals.specs.Qualifier.{Qualifier}
use Rattle.jn_points.specs.declared.program.Field.{Field}
use Rattle.jn_points.specs.declared.program.Method.{Method}
use Rattle.jn_points.specs.declared.program.SlotInfo.{SlotInfo}
use Rattle.jn_trees.specs.declared.token.Token.{Token}
use Rattle.jn_trees.specs.Trees.{TypeUseTree, DeclaratorTree, Mark, MemberTree, FieldMember, MethodMember, ConstructorMember}
use Rattle.jn_trees.specs.Spelling.{spell_all_marks, spell_type_use, spell_declarator, spell_member}
use Rattle.jn_trees.specs.declared.declaration.Modifier.{Modifier}
use Rattle.jn_places.specs.Placed.{PlacedTypeUse, PlacedDeclarator}
use Rattle.jn_places.specs.Places.{behind, place_marks, place_type_use, place_declarator, place_next_declarator, spell_next_declarator, place_more_declarators}
use Rattle.jn_heads.specs.declared.head.TypeHead.{TypeHead}
use Rattle.jn_heads.specs.declared.head.FieldHead.{FieldHead}
use Rattle.jn_heads.specs.declared.head.ClassHead.{ClassHead}
use Rattle.jn_heads.specs.Types.{field_qual, is_position, field_slots, fields_slots}
use Rattle.jn_classtable.specs.Table.{slot_at, field_of, fields_of}
use Rattle.jn_heads.specs.Extract.{modifier_notes, type_head, field_head}
use Rattle.jn_annotate.specs.Insertions.{inferred_qual}
use Rattle.jn_annotate_law.specs.Trees.{nullity_names, names_of, leading, noted_use, noted_marks, noted_members}
use Rattle.jn_heads_law.specs.Plain.{plain_type, plain_head}
use Rattle.jn_annotate_law.specs.Worded.{worded_from}
use Rattle.jn_annotate_law.specs.Says.{AllSpelled, FieldsSay, MembersSay}
use Rattle.jn_annotate_law.proofs.Meanings.{field_slot}
use Rattle.jn_annotate_law.proofs.Extracting.{marked_same}
use Rattle.jn_annotate_law.proofs.Positions.{Noted, noted_type, noted_modifiers, Stands, stands_left, stands_right, slot_new, slots_append, position_same}

pub fields_slots_append : (hs : List ClassHead) (xs ys : List FieldHead) → fields_slots hs (xs ++ ys) ≡ fields_slots hs xs ++ fields_slots hs ys
fields_slots_append hs [] ys = refl
fields_slots_append hs (x ∷ xs) ys = ap (λ t. field_slots hs x ++ t) (fields_slots_append hs xs ys) ∙ sym (append_assoc (field_slots hs x) (fields_slots hs xs) (fields_slots hs ys))

pub fields_of_append : (hs : List ClassHead) (c k : ℕ) (xs ys : List FieldHead) → fields_of hs c k (xs ++ ys) ≡ fields_of hs c k xs ++ fields_of hs c (k + length (fields_slots hs xs)) ys
fields_of_append hs c k [] ys = ap (λ n. fields_of hs c n ys) (omega arith)
fields_of_append hs c k (x ∷ xs) ys =
    let e : (k + length (field_slots hs x)) + length (fields_slots hs xs) ≡ k + length (field_slots hs x ++ fields_slots hs xs) = (let l = length-append (field_slots hs x) (fields_slots hs xs) in omega (arith, l)) in
    ap (λ t. field_of hs c k x ∷ t) (fields_of_append hs c (k + length (field_slots hs x)) xs ys ∙ ap (λ n. fields_of hs c (k + length (field_slots hs x)) xs ++ fields_of hs c n ys) e)

pub fields_of_long : (hs : List ClassHead) (c k : ℕ) (xs : List FieldHead) → length (fields_of hs c k xs) ≡ length xs
fields_of_long hs c k [] = refl
fields_of_long hs c k (x ∷ xs) = ap suc (fields_of_long hs c (k + length (field_slots hs x)) xs)

pub declarators_long : (A : List Modifier) (U : PlacedTypeUse) (ts : List Token) (ds : List DeclaratorTree) → length (map (field_head A U) (place_more_declarators ts ds)) ≡ length ds
declarators_long A U ts [] = refl
declarators_long A U ts (d ∷ ds) = ap suc (declarators_long A U (behind ts (spell_next_declarator d)) ds)

pub marked_declarators_long : (w : Bool) (A : List Modifier) (U : PlacedTypeUse) (ts : List Token) (ds : List DeclaratorTree) → length (some_heads w A U (place_more_declarators ts ds)) ≡ length ds
marked_declarators_long w A U ts ds = length-map (map (field_head A U) (place_more_declarators ts ds)) (mark_field w) ∙ declarators_long A U ts ds

module _ (slots : List SlotInfo) (s : List Qualifier) (hs gs : List ClassHead) (same : map plain_head hs ≡ map plain_head gs) (sp : AllSpelled slots s) where
  abbrev Fits : Qualifier → Type 0
  Fits q = (q.committed ≡ true) × (q.free ≡ false)

  -- one field of a declaration
  module _ (A B : List Modifier) (U V : PlacedTypeUse) (first : Option SlotNo) (w w' : Bool) (private_is : w' ≡ w) (alike : plain_type (type_head (modifier_notes A) U) ≡ plain_type (type_head (modifier_notes B) V)) (noted : Noted (type_head (modifier_notes A) U).notes (type_head (modifier_notes B) V).notes (names_of nullity_names (inferred_qual slots s first))) where
    field_new : (c k : ℕ) (d e : PlacedDeclarator) → inferred_qual slots s (field_of hs c k (a_head w A U d)).slot ≡ inferred_qual slots s first → ((q : Qualifier) → inferred_qual slots s (field_of hs c k (a_head w A U d)).slot ≡ Some q → Fits q) → Stands slots s k (field_slots hs (a_head w A U d)) → field_slots gs (a_head w' B V e) ≡ worded_from slots s k (field_slots hs (a_head w A U d))
    field_new c k d e one fits h =
        let K : TypeHead = type_head (modifier_notes A) U in
        let L : TypeHead = type_head (modifier_notes B) V in
        slot_new slots s nullity_names field_qual Fits (λ has q b w f. field_slot has q b w f.0 f.1) (is_position hs K) (is_position gs L) k w w' K.notes L.notes (position_same slots s hs gs same sp K L alike) private_is (subst (λ x. Noted K.notes L.notes (names_of nullity_names x)) (sym one) noted) fits h

    fields_new : (ds : List DeclaratorTree) (c k : ℕ) (ts us : List Token) → FieldsSay slots s first (fields_of hs c k (some_heads w A U (place_more_declarators ts ds))) → Stands slots s k (fields_slots hs (some_heads w A U (place_more_declarators ts ds))) → fields_slots gs (some_heads w' B V (place_more_declarators us ds)) ≡ worded_from slots s k (fields_slots hs (some_heads w A U (place_more_declarators ts ds)))
    fields_new [] c k ts us say h = refl
    fields_new (d ∷ ds) c k ts us say h =
        let D : PlacedDeclarator = place_next_declarator ts d in
        let ts' : List Token = behind ts (spell_next_declarator d) in
        let us' : List Token = behind us (spell_next_declarator d) in
        let one : List SlotInfo = field_slots hs (a_head w A U D) in
        let more : List SlotInfo = fields_slots hs (some_heads w A U (place_more_declarators ts' ds)) in
        slots_append slots s k one more (field_slots gs (a_head w' B V (place_next_declarator us d))) (fields_slots gs (some_heads w' B V (place_more_declarators us' ds)))
        (field_new c k D (place_next_declarator us d) say.0 say.1 (stands_left slots s k one more h))
        (fields_new ds c (k + length one) ts' us' say.2 (stands_right slots s k one more h))

  pub fields_walk : (infer : Infer) (interface : Bool) (cn : NameNo) (ms : List MemberTree) (methods : List Method) (c k : ℕ) (rest : List Field) (ts us : List Token) → MembersSay slots s ms (fields_of hs c k (fields_at infer interface ts ms) ++ rest) methods → Stands slots s k (fields_slots hs (fields_at infer interface ts ms)) → fields_slots gs (fields_at infer interface us (noted_members slots s cn ms (fields_of hs c k (fields_at infer interface ts ms) ++ rest) methods)) ≡ worded_from slots s k (fields_slots hs (fields_at infer interface ts ms))
  fields_walk infer interface cn [] methods c k rest ts us say h = refl
  fields_walk infer interface cn (MethodMember marks u n r ps body ∷ ms) [] c k rest ts us say h = fields_walk infer interface cn ms [] c k rest (behind ts (spell_member (MethodMember marks u n r ps body))) _ say.1 h
  fields_walk infer interface cn (MethodMember marks u n r ps body ∷ ms) (m ∷ methods) c k rest ts us say h = fields_walk infer interface cn ms methods c k rest (behind ts (spell_member (MethodMember marks u n r ps body))) _ say.1 h
  fields_walk infer interface cn (ConstructorMember marks n ps ss ∷ ms) [] c k rest ts us say h = fields_walk infer interface cn ms [] c k rest (behind ts (spell_member (ConstructorMember marks n ps ss))) _ say.1 h
  fields_walk infer interface cn (ConstructorMember marks n ps ss ∷ ms) (m ∷ methods) c k rest ts us say h = fields_walk infer interface cn ms methods c k rest (behind ts (spell_member (ConstructorMember marks n ps ss))) _ say.1 h
  fields_walk infer interface cn (FieldMember marks u d ds ∷ ms) methods c k rest ts us say h =
      let m : MemberTree = FieldMember marks u d ds in
      let A : List Modifier = place_marks ts marks in
      let w : Bool = infers infer interface A in
      let t1 : List Token = behind ts (spell_all_marks marks) in
      let U : PlacedTypeUse = place_type_use t1 u in
      let t2 : List Token = behind t1 (spell_type_use u) in
      let t3 : List Token = behind t2 (spell_declarator d) in
      let H : List FieldHead = some_heads w A U (place_declarator t2 d ∷ place_more_declarators t3 ds) in
      let later : List Token = behind ts (spell_member m) in
      let T : List FieldHead = fields_at infer interface later ms in
      let first : Option SlotNo = slot_at (is_position hs (type_head (modifier_notes A) U)) k in
      let names : List NameNo = names_of nullity_names (inferred_qual slots s first) in
      let marks' : List Mark = noted_marks names u marks in
      let u' : TypeUseTree = noted_use names u in
      let new : MemberTree = FieldMember marks' u' d ds in
      let B : List Modifier = place_marks us marks' in
      let w' : Bool = infers infer interface B in
      let u1 : List Token = behind us (spell_all_marks marks') in
      let V : PlacedTypeUse = place_type_use u1 u' in
      let u2 : List Token = behind u1 (spell_type_use u') in
      let u3 : List Token = behind u2 (spell_declarator d) in
      let H' : List FieldHead = some_heads w' B V (place_declarator u2 d ∷ place_more_declarators u3 ds) in
      let later' : List Token = behind us (spell_member new) in
      let k' : ℕ = k + length (fields_slots hs H) in
      let X : List Field = fields_of hs c k' T ++ rest in
      let all : List Field = fields_of hs c k (H ++ T) ++ rest in
      let cut : all ≡ fields_of hs c k H ++ X = ap (λ x. x ++ rest) (fields_of_append hs c k H T) ∙ append_assoc (fields_of hs c k H) (fields_of hs c k' T) rest in
      let long : length (fields_of hs c k H) ≡ 1 + length ds = (let a = fields_of_long hs c k H in let b = marked_declarators_long w A U t3 ds in omega (arith, a, b)) in
      let taken : take (1 + length ds) all ≡ fields_of hs c k H = ap (take (1 + length ds)) cut ∙ take_at (fields_of hs c k H) X (1 + length ds) long in
      let dropped : drop (1 + length ds) all ≡ X = ap (drop (1 + length ds)) cut ∙ drop_at (fields_of hs c k H) X (1 + length ds) long in
      let says = subst (FieldsSay slots s first) taken say.0 in
      let private_is : w' ≡ w = sym (infers_more infer interface ts us marks (leading names u.array)) in
      let alike = marked_same u names marks t1 u1 ts us in
      let noted = noted_type u.base u.array names t1 u1 (modifier_notes A) (modifier_notes B) (noted_modifiers ts us marks (leading names u.array)) in
      let h' = subst (Stands slots s k) (fields_slots_append hs H T) h in
      let here = stands_left slots s k (fields_slots hs H) (fields_slots hs T) h' in
      let head : List SlotInfo = field_slots hs (a_head w A U (place_declarator t2 d)) in
      let more : List SlotInfo = fields_slots hs (some_heads w A U (place_more_declarators t3 ds)) in
      let one = slots_append slots s k head more (field_slots gs (a_head w' B V (place_declarator u2 d))) (fields_slots gs (some_heads w' B V (place_more_declarators u3 ds)))
      (field_new A B U V first w w' private_is alike noted c k (place_declarator t2 d) (place_declarator u2 d) says.0 says.1 (stands_left slots s k head more here))
      (fields_new A B U V first w w' private_is alike noted ds c (k + length head) t3 u3 says.2 (stands_right slots s k head more here)) in
      let two = fields_walk infer interface cn ms methods c k' rest later later' (subst (λ x. MembersSay slots s ms x methods) dropped say.1) (stands_right slots s k (fields_slots hs H) (fields_slots hs T) h') in
      fields_slots_append gs H' (fields_at infer interface later' (noted_members slots s cn ms (drop (1 + length ds) all) methods))
      ∙ ap (λ x. fields_slots gs H' ++ fields_slots gs (fields_at infer interface later' (noted_members slots s cn ms x methods))) dropped
      ∙ slots_append slots s k (fields_slots hs H) (fields_slots hs T) (fields_slots gs H') (fields_slots gs (fields_at infer interface later' (noted_members slots s cn ms X methods))) one two
      ∙ ap (λ x. worded_from slots s k x) (sym (fields_slots_append hs H T))
