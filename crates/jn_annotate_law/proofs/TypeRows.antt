-- Annotated types have no row outside bodies where they had none.
use Rattle.std.proofs.Common.{◌≡◌, ℕ, suc, ◌+◌, Bool, true, false, List, [], ◌∷◌, ◌++◌, length, Option, refl, sym, ap, ◌∙◌, subst, arith, append_assoc}
use Rattle.std.specs.Prelude.{drop, map}
use Rattle.std.proofs.lemmas.Bool.{false≢true}
use Rattle.std.proofs.lemmas.List.{drop_at}
use Rattle.jn_base.specs.declared.place.Row.{Row}
use Rattle.jn_base.specs.declared.number.NameNo.{NameNo}
use Rattle.jn_base.specs.declared.infer.Infer.{Infer}
use Rattle.jn_heads.specs.Inferred.{class_marks, infers, method_marks}
use Rattle.jn_annotate_law.proofs.Marked.{a_head, fields_at, marks_at, methods_at, some_heads}
use Rattle.jn_quals.specs.Qualifier.{Qualifier}
use Rattle.jn_points.specs.declared.program.Field.{Field}
use Rattle.jn_points.specs.declared.program.Method.{Method}
use Rattle.jn_points.specs.declared.program.SlotInfo.{SlotInfo}
use Rattle.jn_trees.specs.declared.context.Owner.{Owner}
use Rattle.jn_trees.specs.declared.token.Token.{Token}
use Rattle.jn_trees.specs.declared.token.TokenKind.TheVariants.{Id, LeftParen, Class, Interface, LeftBrace, Implements, Extends}
use Rattle.jn_trees.specs.declared.declaration.Modifier.{Modifier}
use Rattle.jn_trees.specs.Trees.{TypeUseTree, DeclaratorTree, Mark, MemberTree, FieldMember, MethodMember, ConstructorMember, TypeDeclaration, ClassType, InterfaceType}
use Rattle.jn_trees.specs.WellFormed.{GoodMembers, GoodType, GoodTypes}
use Rattle.jn_trees.specs.Spelling.{spell_all_marks, spell_type_use, spell_declarator, spell_result, spell_member, spell_parent, spell_names, spell_type}
use Rattle.jn_places.specs.Placed.{PlacedTypeUse}
use Rattle.jn_places.specs.Places.{behind, place_name, place_type_use, place_marks, place_declarator, place_more_declarators, place_parameters, place_receiver, spell_receiver, place_result, place_member, place_members, place_type, place_each}
use Rattle.jn_heads.specs.declared.head.TypeHead.{TypeHead}
use Rattle.jn_heads.specs.declared.head.FieldHead.{FieldHead}
use Rattle.jn_heads.specs.declared.head.MethodHead.{MethodHead}
use Rattle.jn_heads.specs.declared.head.ClassHead.{ClassHead}
use Rattle.jn_heads.specs.Heads.{unplaced, unwritten_constructor}
use Rattle.jn_heads.specs.Types.{is_position, receiver_qual, has_receiver, field_slots, fields_slots, receiver_slots, params_slots, result_slots, method_slots, methods_slots, class_slots, slots_of_all}
use Rattle.jn_classtable.specs.Table.{slot_at, count, bodies_of, fields_of, fields_from, param_slots, method_of, methods_of, methods_from}
use Rattle.jn_heads.specs.Extract.{modifier_notes, type_head, param_head, result_head, receiver_notes, with_constructor}
use Rattle.jn_lowering.specs.Annotations.{both_kinds, annotation_rows, name_row}
use Rattle.jn_lowering.specs.FileRows.{notes_of, without_override, parameter_rows, result_rows, receiver_rows, head_rows, heads_rows, declared_type_rows, types_rows}
use Rattle.jn_annotate.specs.Insertions.{type_fields, type_methods, inferred_qual}
use Rattle.jn_annotate_law.specs.Trees.{nullity_names, names_of, noted_use, noted_marks, noted_receiver, noted_result, noted_result_marks, both_at, noted_parameters, noted_members, noted_type, noted_types}
use Rattle.jn_annotate_law.proofs.Positions.{Stands, stands_left, stands_right}
use Rattle.jn_annotate_law.proofs.Fields.{fields_slots_append, fields_of_append, fields_of_long, marked_declarators_long}
use Rattle.jn_annotate_law.proofs.Classes.{type_parts, with_methods, with_slots}
use Rattle.jn_annotate_law.proofs.NoteRows.{no_rows_left, no_rows_right, no_rows_both, marks_numbers}
use Rattle.jn_annotate_law.proofs.PositionRows.{name_stays, parameters_stay, receiver_stays}
use Rattle.jn_annotate_law.proofs.MemberRows.{alone_stay, result_stays, field_stays}

abbrev head_of : List MethodHead → MethodHead
head_of [] = unwritten_constructor (unplaced (record { 0 = 0 }))
head_of (x ∷ xs) = x

marks_stay : (ts us : List Token) (ms : List Mark) → annotation_rows both_kinds true (notes_of (place_marks ts ms)) ≡ [] → annotation_rows both_kinds true (notes_of (place_marks us ms)) ≡ []
marks_stay ts us ms e = alone_stay both_kinds true (notes_of (place_marks ts ms)) (notes_of (place_marks us ms)) (marks_numbers ts ms ∙ sym (marks_numbers us ms)) e

module _ (slots : List SlotInfo) (s : List Qualifier) (hs : List ClassHead) (infer : Infer) where
  -- a declaration of fields, and what follows it
  field_then : (interface : Bool) (cn : NameNo) (marks : List Mark) (u : TypeUseTree) (d : DeclaratorTree) (ds : List DeclaratorTree) (ms : List MemberTree) (c k : ℕ) (rest : List Field) (methods : List Method) (ts us : List Token) → let m : MemberTree = FieldMember marks u d ds in let later : List Token = behind ts (spell_member m) in let n : ℕ = k + length (fields_slots hs (fields_at infer interface ts (m ∷ []))) in Stands slots s k (fields_slots hs (fields_at infer interface ts (m ∷ ms))) → heads_rows interface (place_members ts (m ∷ ms)) ≡ []
      → ((j : ℕ) (vs : List Token) → Stands slots s j (fields_slots hs (fields_at infer interface later ms)) → heads_rows interface (place_members later ms) ≡ [] → heads_rows interface (place_members vs (noted_members slots s cn ms (fields_of hs c j (fields_at infer interface later ms) ++ rest) methods)) ≡ [])
      → heads_rows interface (place_members us (noted_members slots s cn (m ∷ ms) (fields_of hs c k (fields_at infer interface ts (m ∷ ms)) ++ rest) methods)) ≡ []
  field_then interface cn marks u d ds ms c k rest methods ts us h e next =
      let m : MemberTree = FieldMember marks u d ds in
      let A : List Modifier = place_marks ts marks in
      let w : Bool = infers infer interface A in
      let t1 : List Token = behind ts (spell_all_marks marks) in
      let U : PlacedTypeUse = place_type_use t1 u in
      let t2 : List Token = behind t1 (spell_type_use u) in
      let t3 : List Token = behind t2 (spell_declarator d) in
      let H : List FieldHead = some_heads w A U (place_declarator t2 d ∷ place_more_declarators t3 ds) in
      let later : List Token = behind ts (spell_member m) in
      let T : List FieldHead = fields_at infer interface later ms in
      let k' : ℕ = k + length (fields_slots hs H) in
      let X : List Field = fields_of hs c k' T ++ rest in
      let all : List Field = fields_of hs c k (H ++ T) ++ rest in
      let cut : all ≡ fields_of hs c k H ++ X = ap (λ x. x ++ rest) (fields_of_append hs c k H T) ∙ append_assoc (fields_of hs c k H) (fields_of hs c k' T) rest in
      let long : length (fields_of hs c k H) ≡ 1 + length ds = (let a = fields_of_long hs c k H in let b = marked_declarators_long w A U t3 ds in omega (arith, a, b)) in
      let dropped : drop (1 + length ds) all ≡ X = ap (drop (1 + length ds)) cut ∙ drop_at (fields_of hs c k H) X (1 + length ds) long in
      let h' = subst (Stands slots s k) (fields_slots_append hs H T) h in
      let here = stands_left slots s k (fields_slots hs H) (fields_slots hs T) h' in
      let head : List SlotInfo = field_slots hs (a_head w A U (place_declarator t2 d)) in
      let more : List SlotInfo = fields_slots hs (some_heads w A U (place_more_declarators t3 ds)) in
      let K : TypeHead = type_head (modifier_notes A) U in
      let names : List NameNo = names_of nullity_names (inferred_qual slots s (slot_at (is_position hs K) k)) in
      let new : MemberTree = FieldMember (noted_marks names u marks) (noted_use names u) d ds in
      let later' : List Token = behind us (spell_member new) in
      let F : List Row = head_rows interface (place_member ts m) in
      let G : List Row = heads_rows interface (place_members later ms) in
      no_rows_both (head_rows interface (place_member us new)) (heads_rows interface (place_members later' (noted_members slots s cn ms (drop (1 + length ds) all) methods)))
      (field_stays slots s hs interface marks u d ds k w ts us (stands_left slots s k head more here) (no_rows_left F G e))
      (subst (λ x. heads_rows interface (place_members later' (noted_members slots s cn ms x methods)) ≡ []) (sym dropped) (next k' later' (stands_right slots s k (fields_slots hs H) (fields_slots hs T) h') (no_rows_right F G e)))

  members_stay : (o : Owner) (interface : Bool) → o.interface ≡ interface → (cn : NameNo) (ms : List MemberTree) (c k j b : ℕ) (restf : List Field) (restm : List Method) (ts us : List Token) → GoodMembers o ms → Stands slots s k (fields_slots hs (fields_at infer interface ts ms)) → Stands slots s j (methods_slots hs (methods_at infer interface ts ms)) → heads_rows interface (place_members ts ms) ≡ [] → heads_rows interface (place_members us (noted_members slots s cn ms (fields_of hs c k (fields_at infer interface ts ms) ++ restf) (methods_of hs c j b (methods_at infer interface ts ms) ++ restm))) ≡ []
  members_stay o interface io cn [] c k j b restf restm ts us g h i e = refl
  members_stay o true io cn (FieldMember marks u d ds ∷ ms) c k j b restf restm ts us g h i e =
      field_then true cn marks u d ds ms c k restf (methods_of hs c j b (methods_at infer true (behind ts (spell_member (FieldMember marks u d ds))) ms) ++ restm) ts us h e
      (λ n vs h e. members_stay o true io cn ms c n j b restf restm (behind ts (spell_member (FieldMember marks u d ds))) vs g.1 h i e)
  members_stay o false io cn (FieldMember marks u d ds ∷ ms) c k j b restf restm ts us g h i e =
      field_then false cn marks u d ds ms c k restf (methods_of hs c j b (methods_at infer false (behind ts (spell_member (FieldMember marks u d ds))) ms) ++ restm) ts us h e
      (λ n vs h e. members_stay o false io cn ms c n j b restf restm (behind ts (spell_member (FieldMember marks u d ds))) vs g.1 h i e)
  members_stay o true io cn (ConstructorMember marks n ps ss ∷ ms) c k j b restf restm ts us g h i e = absurd (false≢true (sym g.0.0.1 ∙ io))
  members_stay o false io cn (ConstructorMember marks n ps ss ∷ ms) c k j b restf restm ts us g h i e =
      let m : MemberTree = ConstructorMember marks n ps ss in
      let old : MethodHead = head_of (method_marks infer false (place_member ts m)) in
      let later : List Token = behind ts (spell_member m) in
      let pt : List Token = behind (behind ts (spell_all_marks marks)) (Id n ∷ LeftParen ∷ []) in
      let pu : List Token = behind (behind us (spell_all_marks marks)) (Id n ∷ LeftParen ∷ []) in
      let w : Bool = infers infer false (place_marks ts marks) in
      let params : List SlotInfo = params_slots hs w (map param_head (place_parameters pt ps)) in
      let tail : List SlotInfo = methods_slots hs (methods_at infer false later ms) in
      let here = stands_right slots s j [] (params ++ []) (stands_left slots s j (params ++ []) tail i) in
      let A : List Row = annotation_rows both_kinds true (notes_of (place_marks ts marks)) in
      let B : List Row = parameter_rows (place_parameters pt ps) in
      let C : List Row = heads_rows false (place_members later ms) in
      let first = no_rows_left (A ++ B) C e in
      let new : MemberTree = ConstructorMember marks n (noted_parameters slots s ps (param_slots hs w (j + 0) (map param_head (place_parameters pt ps)))) ss in
      let later' : List Token = behind us (spell_member new) in
      no_rows_both (head_rows false (place_member us new)) _
      (no_rows_both (annotation_rows both_kinds true (notes_of (place_marks us marks))) _ (marks_stay ts us marks (no_rows_left A B first)) (parameters_stay slots s hs ps w (j + 0) pt pu (stands_left slots s (j + 0) params [] here) (no_rows_right A B first)))
      (members_stay o false io cn ms c k (j + length (method_slots hs old)) (b + 1) restf restm later later' g.1 h (stands_right slots s j (method_slots hs old) tail i) (no_rows_right (A ++ B) C e))
  members_stay o interface io cn (MethodMember marks u n r ps body ∷ ms) c k j b restf restm ts us g h i e =
      let m : MemberTree = MethodMember marks u n r ps body in
      let old : MethodHead = head_of (method_marks infer interface (place_member ts m)) in
      let later : List Token = behind ts (spell_member m) in
      let info : Method = method_of hs c j b old in
      let names : List NameNo = both_at slots s info.result_slot in
      let q : Option Qualifier = inferred_qual slots s info.receiver in
      let marks' : List Mark = noted_result_marks names u marks in
      let u' : Option TypeUseTree = noted_result names u in
      let at_result : List Token = behind ts (spell_all_marks marks) in
      let at_result' : List Token = behind us (spell_all_marks marks') in
      let nt : List Token = behind at_result (spell_result u) in
      let nu : List Token = behind at_result' (spell_result u') in
      let rt : List Token = behind nt (Id n ∷ LeftParen ∷ []) in
      let ru : List Token = behind nu (Id n ∷ LeftParen ∷ []) in
      let pt : List Token = behind rt (spell_receiver r) in
      let pu : List Token = behind ru (spell_receiver (noted_receiver cn r q)) in
      let w : Bool = infers infer interface (place_marks ts marks) in
      let R : List SlotInfo = receiver_slots old in
      let params : List SlotInfo = params_slots hs w (map param_head (place_parameters pt ps)) in
      let results : List SlotInfo = result_slots hs w (result_head (place_marks ts marks) (place_result at_result u)) in
      let tail : List SlotInfo = methods_slots hs (methods_at infer interface later ms) in
      let whole = stands_left slots s j (R ++ (params ++ results)) tail i in
      let behind_r = stands_right slots s j R (params ++ results) whole in
      let t : ℕ = j + length R in
      let A : List Row = name_row n.0 (place_name nt n).span in
      let B : List Row = result_rows (place_result at_result u) (without_override (notes_of (place_marks ts marks))) in
      let C : List Row = receiver_rows (place_receiver rt r) in
      let D : List Row = parameter_rows (place_parameters pt ps) in
      let E : List Row = heads_rows interface (place_members later ms) in
      let first = no_rows_left (A ++ (B ++ (C ++ D))) E e in
      let second = no_rows_right A (B ++ (C ++ D)) first in
      let third = no_rows_right B (C ++ D) second in
      let new : MemberTree = MethodMember marks' u' n (noted_receiver cn r q) (noted_parameters slots s ps info.param_slots) body in
      let later' : List Token = behind us (spell_member new) in
      no_rows_both (head_rows interface (place_member us new)) _
      (no_rows_both (name_row n.0 (place_name nu n).span) _ (name_stays n.0 (place_name nt n).span (place_name nu n).span (no_rows_left A (B ++ (C ++ D)) first))
      (no_rows_both (result_rows (place_result at_result' u') (without_override (notes_of (place_marks us marks')))) _
      (result_stays slots s hs (t + length params) u marks at_result at_result' ts us w (stands_right slots s t params results behind_r) (no_rows_left B (C ++ D) second))
      (no_rows_both (receiver_rows (place_receiver ru (noted_receiver cn r q))) _
      (receiver_stays slots s hs cn r j (has_receiver old) w (receiver_qual (receiver_notes (place_receiver rt r))) rt ru (stands_left slots s j R (params ++ results) whole) (no_rows_left C D third))
      (parameters_stay slots s hs ps w t pt pu (stands_left slots s t params results behind_r) (no_rows_right C D third)))))
      (members_stay o interface io cn ms c k (j + length (method_slots hs old)) (b + count old.has_body) restf restm later later' g.1 h (stands_right slots s j (method_slots hs old) tail i) (no_rows_right (A ++ (B ++ (C ++ D))) E e))

  type_stays : (t : TypeDeclaration) (c k b : ℕ) (restf : List Field) (restm : List Method) (ts us : List Token) → let x : ClassHead = class_marks infer (place_type ts t) in GoodType t → Stands slots s k (class_slots hs x) → declared_type_rows (place_type ts t) ≡ [] → declared_type_rows (place_type us (noted_type slots s t (fields_of hs c k x.fields ++ restf) (methods_of hs c (k + length (fields_slots hs x.fields)) b x.methods ++ restm))) ≡ []
  type_stays (ClassType marks n parent interfaces members) c k b restf restm ts us g h e =
      let at : List Token → List Token = λ x. behind x (spell_all_marks marks ++ Class ∷ []) in
      let inside : List Token → List Token = λ x. behind (behind (drop 1 (at x)) (spell_parent parent)) (spell_names Implements interfaces ++ LeftBrace ∷ []) in
      let F : List FieldHead = fields_at infer false (inside ts) members in
      let M : List MethodHead = methods_at infer false (inside ts) members in
      let k' : ℕ = k + length (fields_slots hs F) in
      let fs : List Field = fields_of hs c k F ++ restf in
      let w = with_methods hs c k' b (place_name (at ts) n) M restm in
      let S : List SlotInfo = methods_slots hs (with_constructor (place_name (at ts) n) M) in
      let stands = subst (Stands slots s k') (with_slots hs (place_name (at ts) n) M) (stands_right slots s k (fields_slots hs F) S h) in
      let A : List Row = annotation_rows both_kinds true (notes_of (place_marks ts marks)) in
      let B : List Row = name_row n.0 (place_name (at ts) n).span in
      let C : List Row = heads_rows false (place_members (inside ts) members) in
      let second = no_rows_right A (B ++ C) e in
      no_rows_both (annotation_rows both_kinds true (notes_of (place_marks us marks))) _ (marks_stay ts us marks (no_rows_left A (B ++ C) e))
      (no_rows_both (name_row n.0 (place_name (at us) n).span) _ (name_stays n.0 (place_name (at ts) n).span (place_name (at us) n).span (no_rows_left B C second))
      (subst (λ x. heads_rows false (place_members (inside us) (noted_members slots s n members fs x)) ≡ []) (sym w.1)
      (members_stay (record { interface = false; name = n }) false refl n members c k k' b restf w.0 (inside ts) (inside us) g.1 (stands_left slots s k (fields_slots hs F) S h) stands (no_rows_right B C second))))
  type_stays (InterfaceType marks n parents members) c k b restf restm ts us g h e =
      let at : List Token → List Token = λ x. behind x (spell_all_marks marks ++ Interface ∷ []) in
      let inside : List Token → List Token = λ x. behind (drop 1 (at x)) (spell_names Extends parents ++ LeftBrace ∷ []) in
      let F : List FieldHead = fields_at infer true (inside ts) members in
      let M : List MethodHead = methods_at infer true (inside ts) members in
      let A : List Row = annotation_rows both_kinds true (notes_of (place_marks ts marks)) in
      let B : List Row = name_row n.0 (place_name (at ts) n).span in
      let C : List Row = heads_rows true (place_members (inside ts) members) in
      let second = no_rows_right A (B ++ C) e in
      no_rows_both (annotation_rows both_kinds true (notes_of (place_marks us marks))) _ (marks_stay ts us marks (no_rows_left A (B ++ C) e))
      (no_rows_both (name_row n.0 (place_name (at us) n).span) _ (name_stays n.0 (place_name (at ts) n).span (place_name (at us) n).span (no_rows_left B C second))
      (members_stay (record { interface = true; name = n }) true refl n members c k (k + length (fields_slots hs F)) b restf restm (inside ts) (inside us) g.1 (stands_left slots s k (fields_slots hs F) (methods_slots hs M) h) (stands_right slots s k (fields_slots hs F) (methods_slots hs M) h) (no_rows_right B C second)))

  pub types_stay : (types : List TypeDeclaration) (c k b : ℕ) (fs restf : List Field) (ms restm : List Method) (ts us : List Token) → fs ≡ fields_from hs c k (marks_at infer ts types) ++ restf → ms ≡ methods_from hs c k b (marks_at infer ts types) ++ restm → GoodTypes types → Stands slots s k (slots_of_all hs (marks_at infer ts types)) → types_rows (place_each place_type spell_type ts types) ≡ [] → types_rows (place_each place_type spell_type us (noted_types slots s types fs ms)) ≡ []
  types_stay [] c k b fs restf ms restm ts us ef em g h e = refl
  types_stay (t ∷ types) c k b fs restf ms restm ts us ef em g h e =
      let x : ClassHead = class_marks infer (place_type ts t) in
      let later : List Token = behind ts (spell_type t) in
      let xs : List ClassHead = marks_at infer later types in
      let k' : ℕ = k + length (class_slots hs x) in
      let b' : ℕ = b + bodies_of x.methods in
      let A : List Field = fields_of hs c k x.fields in
      let B : List Field = fields_from hs (suc c) k' xs ++ restf in
      let D : List Method = methods_of hs c (k + length (fields_slots hs x.fields)) b x.methods in
      let E : List Method = methods_from hs (suc c) k' b' xs ++ restm in
      let p = type_parts infer hs t types c k b fs restf ms restm ts ef em g.0 in
      let P : List Row = declared_type_rows (place_type ts t) in
      let Q : List Row = types_rows (place_each place_type spell_type later types) in
      let one = subst (λ y. declared_type_rows (place_type us (noted_type slots s t fs y)) ≡ []) (sym p.cut_m) (subst (λ y. declared_type_rows (place_type us (noted_type slots s t y (D ++ E))) ≡ []) (sym p.cut_f) (type_stays t c k b B E ts us g.0 (stands_left slots s k (class_slots hs x) (slots_of_all hs xs) h) (no_rows_left P Q e))) in
      let two = types_stay types (suc c) k' b' (drop (type_fields t) fs) restf (drop (type_methods t) ms) restm later (behind us (spell_type (noted_type slots s t fs ms))) p.rest_f p.rest_m g.1 (stands_right slots s k (class_slots hs x) (slots_of_all hs xs) h) (no_rows_right P Q e) in
      no_rows_both (declared_type_rows (place_type us (noted_type slots s t fs ms))) _ one two
