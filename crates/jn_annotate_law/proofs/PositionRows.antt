-- Annotated positions have no row where they had none: parameters, results, receivers and fields (rows J5 outside bodies).
use Rattle.std.proofs.Common.{◌≡◌, ℕ, ◌+◌, Bool, true, false, cond, ◌||◌, List, [], ◌∷◌, ◌++◌, length, Option, Some, None, refl, sym, ap, ◌∙◌, subst}
use Rattle.std.specs.Prelude.{drop, map, eqb}
use Rattle.std.proofs.Math.Path.{fun_ext}
use Rattle.std.proofs.lemmas.Bool.{false≢true}
use Rattle.std.proofs.lemmas.List.{append-nil}
use Rattle.jn_base.specs.declared.code.Code.TheVariants.{J5}
use Rattle.jn_base.specs.declared.place.Row.{Row}
use Rattle.jn_base.specs.declared.place.Span.{Span}
use Rattle.jn_base.specs.declared.number.NameNo.{NameNo}
use Rattle.jn_quals.specs.Qualifier.{Qualifier}
use Rattle.jn_known.specs.Known.{is_object_member}
use Rattle.jn_points.specs.Members.{some_of}
use Rattle.jn_points.specs.declared.program.SlotInfo.{SlotInfo}
use Rattle.jn_trees.specs.declared.token.Token.{Token}
use Rattle.jn_trees.specs.declared.expression.Annotation.{Annotation}
use Rattle.jn_trees.specs.Trees.{BaseTree, ClassBase, IntBase, BooleanBase, TypeUseTree, LocalMark, FinalMark, AnnotationMark, Mark, NoteMark, PublicMark, ProtectedMark, PrivateMark, StaticMark, ConstantMark, AbstractMark, ParameterTree, ReceiverTree}
use Rattle.jn_trees.specs.Spelling.{spell_mark, spell_marks}
use Rattle.jn_places.specs.Places.{behind, place_base, place_type_use, place_marks, place_local_marks, spell_local_mark, place_annotations, spell_annotation, place_parameter, place_parameters, spell_parameter_through, place_receiver}
use Rattle.jn_heads.specs.declared.head.Notes.{Notes}
use Rattle.jn_heads.specs.declared.head.TypeHead.{TypeHead}
use Rattle.jn_heads.specs.declared.head.ClassHead.{ClassHead}
use Rattle.jn_heads.specs.Types.{is_written, slot_of, written_qual, is_position, value_slots, params_slots}
use Rattle.jn_classtable.specs.Table.{slot_at, param_slots}
use Rattle.jn_heads.specs.Extract.{is_named, is_note, is_local_note, notes_by, modifier_notes, local_notes, type_head, param_head, receiver_notes}
use Rattle.jn_lowering.specs.Annotations.{Allowed, row, when, both_kinds, nullity_alone, annotation_rows, type_rows, name_row}
use Rattle.jn_lowering.specs.Bases.{is_class_use}
use Rattle.jn_lowering.specs.Locals.{annotations_of}
use Rattle.jn_lowering.specs.FileRows.{initialization_alone, parameter_rows, receiver_rows}
use Rattle.jn_annotate.specs.Words.{initialization_name}
use Rattle.jn_annotate.specs.Insertions.{inferred_qual}
use Rattle.jn_annotate_law.specs.Trees.{both_names, names_of, leading, noted_use, noted_parameter, noted_receiver, both_at, noted_parameters}
use Rattle.jn_annotate_law.proofs.Positions.{Stands, stands_left, stands_right}
use Rattle.jn_annotate_law.proofs.NoteRows.{no_rows_left, no_rows_right, no_rows_both, numbers, Clear, clear_of, of_clear, notes_in, clear_more, name_numbers, both_clear, initialization_clear, annotations_numbers, mark_numbers, local_numbers, locals_numbers, locals_more, class_use, own, is_reference, types_stay, opened, numbers_append}

-- ---- notes of heads, by numbers

some_marks : (ts : List Token) (ms : List Mark) (n : ℕ) → some_of (is_note n) (place_marks ts ms) ≡ some_of (λ m. eqb m n) (mark_numbers ms)
some_marks ts [] n = refl
some_marks ts (NoteMark k ∷ ms) n = ap (λ b. eqb k.0 n || b) (some_marks (behind ts (spell_mark (NoteMark k))) ms n)
some_marks ts (PublicMark ∷ ms) n = some_marks (behind ts (spell_mark PublicMark)) ms n
some_marks ts (ProtectedMark ∷ ms) n = some_marks (behind ts (spell_mark ProtectedMark)) ms n
some_marks ts (PrivateMark ∷ ms) n = some_marks (behind ts (spell_mark PrivateMark)) ms n
some_marks ts (StaticMark ∷ ms) n = some_marks (behind ts (spell_mark StaticMark)) ms n
some_marks ts (ConstantMark ∷ ms) n = some_marks (behind ts (spell_mark ConstantMark)) ms n
some_marks ts (AbstractMark ∷ ms) n = some_marks (behind ts (spell_mark AbstractMark)) ms n

pub marks_notes : (ts : List Token) (ms : List Mark) → modifier_notes (place_marks ts ms) ≡ notes_in (mark_numbers ms)
marks_notes ts ms = ap notes_by (fun_ext (some_marks ts ms))

some_locals : (ts : List Token) (ms : List LocalMark) (n : ℕ) → some_of (is_local_note n) (place_local_marks ts ms) ≡ some_of (λ m. eqb m n) (local_numbers ms)
some_locals ts [] n = refl
some_locals ts (AnnotationMark k ∷ ms) n = ap (λ b. eqb k.0 n || b) (some_locals (behind ts (spell_local_mark (AnnotationMark k))) ms n)
some_locals ts (FinalMark ∷ ms) n = some_locals (behind ts (spell_local_mark FinalMark)) ms n

locals_notes : (ts : List Token) (ms : List LocalMark) → local_notes (place_local_marks ts ms) ≡ notes_in (local_numbers ms)
locals_notes ts ms = ap notes_by (fun_ext (some_locals ts ms))

some_annotations : (ts : List Token) (ns : List NameNo) (n : ℕ) → some_of (is_named n) (place_annotations ts ns) ≡ some_of (λ m. eqb m n) (name_numbers ns)
some_annotations ts [] n = refl
some_annotations ts (k ∷ ns) n = ap (λ b. eqb k.0 n || b) (some_annotations (behind ts (spell_annotation k)) ns n)

pub annotations_notes : (ts : List Token) (ns : List NameNo) → notes_by (λ n. some_of (is_named n) (place_annotations ts ns)) ≡ notes_in (name_numbers ns)
annotations_notes ts ns = ap notes_by (fun_ext (some_annotations ts ns))

own_notes : (base : BaseTree) (array : Option (List NameNo)) (ts : List Token) (n : Notes) (ns : List ℕ) → n ≡ notes_in ns → let u : TypeUseTree = record { base = base; array = array } in (type_head n (place_type_use ts u)).notes ≡ notes_in (own array ns)
own_notes base None ts n ns e = e
own_notes base (Some notes) ts n ns e = annotations_notes (drop 1 ts) notes

position_reference : (hs : List ClassHead) (base : BaseTree) (array : Option (List NameNo)) (ts : List Token) (n : Notes) → let u : TypeUseTree = record { base = base; array = array } in is_position hs (type_head n (place_type_use ts u)) ≡ true → is_reference base array ≡ true
position_reference hs (ClassBase k) None ts n e = refl
position_reference hs IntBase None ts n e = absurd (false≢true e)
position_reference hs BooleanBase None ts n e = absurd (false≢true e)
position_reference hs base (Some notes) ts n e = refl

-- ---- one position

unchanged : (allowed : Allowed) (base : BaseTree) (array : Option (List NameNo)) (ts us : List Token) (xs ys : List Annotation) → numbers ys ≡ numbers xs ++ name_numbers (leading [] array) → let u : TypeUseTree = record { base = base; array = array } in type_rows (place_type_use ts u) allowed xs ≡ [] → type_rows (place_type_use us (noted_use [] u)) allowed ys ≡ []
unchanged allowed base None ts us xs ys more e =
    of_clear allowed (is_class_use (place_base us base)) ys
    (subst (Clear allowed (is_class_use (place_base us base))) (sym (more ∙ append-nil (numbers xs)))
    (subst (λ b. Clear allowed b (numbers xs)) (class_use ts base ∙ sym (class_use us base)) (clear_of allowed (is_class_use (place_base ts base)) xs e)))
unchanged allowed base (Some notes) ts us xs ys more e =
    let first : List Row = annotation_rows nullity_alone (is_class_use (place_base ts base)) xs in
    let second : List Row = annotation_rows allowed true (place_annotations _ notes) in
    let old = subst (Clear allowed true) (annotations_numbers _ notes) (clear_of allowed true (place_annotations _ notes) (no_rows_right first second e)) in
    let same = subst (λ b. Clear nullity_alone b (numbers xs)) (class_use ts base ∙ sym (class_use us base)) (clear_of nullity_alone (is_class_use (place_base ts base)) xs (no_rows_left first second e)) in
    no_rows_both (annotation_rows nullity_alone (is_class_use (place_base us base)) ys) (annotation_rows allowed true (place_annotations _ (notes ++ [])))
    (of_clear nullity_alone (is_class_use (place_base us base)) ys (subst (Clear nullity_alone (is_class_use (place_base us base))) (sym (more ∙ append-nil (numbers xs))) same))
    (of_clear allowed true (place_annotations _ (notes ++ [])) (subst (Clear allowed true) (sym (annotations_numbers _ (notes ++ []) ∙ ap name_numbers (append-nil notes))) old))

module _ (slots : List SlotInfo) (s : List Qualifier) (hs : List ClassHead) (allowed : Allowed) (names : Qualifier → List NameNo) (clear : (q : Qualifier) → Clear allowed true (name_numbers (names q))) where
  pub position_stays : (u : TypeUseTree) (k : ℕ) (secret : Bool) (n : Notes) (w : Qualifier) (ts us : List Token) (xs ys : List Annotation) → n ≡ notes_in (numbers xs) → let t : TypeHead = type_head n (place_type_use ts u) in let add : List NameNo = names_of names (inferred_qual slots s (slot_at (is_position hs t) k)) in Stands slots s k (cond (is_position hs t) (slot_of secret t.notes w ∷ []) []) → numbers ys ≡ numbers xs ++ name_numbers (leading add u.array) → type_rows (place_type_use ts u) allowed xs ≡ [] → type_rows (place_type_use us (noted_use add u)) allowed ys ≡ []
  position_stays u k secret n w ts us xs ys is h more e = go (inferred_qual slots s (slot_at (is_position hs (type_head n (place_type_use ts u))) k)) refl more
    where
      go : (o : Option Qualifier) → inferred_qual slots s (slot_at (is_position hs (type_head n (place_type_use ts u))) k) ≡ o → numbers ys ≡ numbers xs ++ name_numbers (leading (names_of names o) u.array) → type_rows (place_type_use us (noted_use (names_of names o) u)) allowed ys ≡ []
      go None f more = unchanged allowed u.base u.array ts us xs ys more e
      go (Some q) f more =
          let o = opened slots s (is_position hs (type_head n (place_type_use ts u))) k secret (type_head n (place_type_use ts u)).notes w q h f in
          types_stay allowed (names q) u ts us xs ys more (record {
            reference = position_reference hs u.base u.array ts n o.0;
            unwritten = ap is_written (sym (own_notes u.base u.array ts n (numbers xs) is)) ∙ o.1;
            clear = clear q;
          }) e

pub name_stays : (n : ℕ) (a b : Span) → name_row n a ≡ [] → name_row n b ≡ []
name_stays n a b e = go (is_object_member n) e
  where
    go : (x : Bool) → when x (row J5 a) ≡ [] → when x (row J5 b) ≡ []
    go true e = absurd cc
    go false e = refl

-- ---- parameters, receivers, results

module _ (slots : List SlotInfo) (s : List Qualifier) (hs : List ClassHead) where
  pub parameters_stay : (ps : List ParameterTree) (secret : Bool) (k : ℕ) (ts us : List Token) → Stands slots s k (params_slots hs secret (map param_head (place_parameters ts ps))) → parameter_rows (place_parameters ts ps) ≡ [] → parameter_rows (place_parameters us (noted_parameters slots s ps (param_slots hs secret k (map param_head (place_parameters ts ps))))) ≡ []
  parameters_stay [] secret k ts us h e = refl
  parameters_stay (p ∷ ps) secret k ts us h e =
      let old : TypeHead = (param_head (place_parameter ts p)).kind in
      let names : List NameNo = both_at slots s (slot_at (is_position hs old) k) in
      let new : ParameterTree = noted_parameter names p in
      let later : List Token = behind ts (spell_parameter_through p) in
      let later' : List Token = behind us (spell_parameter_through new) in
      let k' : ℕ = k + length (value_slots hs secret old) in
      let t1 : List Token = behind ts (spell_marks p.marks) in
      let u1 : List Token = behind us (spell_marks new.marks) in
      let X : List Annotation = annotations_of (place_local_marks ts p.marks) in
      let Y : List Annotation = annotations_of (place_local_marks us new.marks) in
      let rest : List SlotInfo = params_slots hs secret (map param_head (place_parameters later ps)) in
      let A : List Row = name_row p.name.0 (place_parameter ts p).name.span in
      let B : List Row = type_rows (place_type_use t1 p.type_use) both_kinds X in
      let C : List Row = parameter_rows (place_parameters later ps) in
      let here = no_rows_left (A ++ B) C e in
      let more : numbers Y ≡ numbers X ++ name_numbers (leading names p.type_use.array) = locals_numbers us new.marks ∙ locals_more p.marks (leading names p.type_use.array) ∙ ap (λ z. z ++ name_numbers (leading names p.type_use.array)) (sym (locals_numbers ts p.marks)) in
      let is : local_notes (place_local_marks ts p.marks) ≡ notes_in (numbers X) = locals_notes ts p.marks ∙ ap notes_in (sym (locals_numbers ts p.marks)) in
      let A' : List Row = name_row p.name.0 (place_parameter us new).name.span in
      let B' : List Row = type_rows (place_type_use u1 (noted_use names p.type_use)) both_kinds Y in
      no_rows_both (A' ++ B') _
      (no_rows_both A' B' (name_stays p.name.0 (place_parameter ts p).name.span (place_parameter us new).name.span (no_rows_left A B here))
      (position_stays slots s hs both_kinds both_names both_clear p.type_use k secret (local_notes (place_local_marks ts p.marks)) (written_qual old.notes) t1 u1 X Y is (stands_left slots s k (value_slots hs secret old) rest h) more (no_rows_right A B here)))
      (parameters_stay ps secret k' later later' (stands_right slots s k (value_slots hs secret old) rest h) (no_rows_right (A ++ B) C e))

  pub receiver_stays : (cn : NameNo) (r : Option ReceiverTree) (k : ℕ) (p secret : Bool) (w : Qualifier) (ts us : List Token) → Stands slots s k (cond p (slot_of secret (receiver_notes (place_receiver ts r)) w ∷ []) []) → receiver_rows (place_receiver ts r) ≡ [] → receiver_rows (place_receiver us (noted_receiver cn r (inferred_qual slots s (slot_at p k)))) ≡ []
  receiver_stays cn r k p secret w ts us h e = go r (inferred_qual slots s (slot_at p k)) e (λ q f. (opened slots s p k secret (receiver_notes (place_receiver ts r)) w q h f).1) refl
    where
      go : (r : Option ReceiverTree) (o : Option Qualifier) → receiver_rows (place_receiver ts r) ≡ [] → ((q : Qualifier) → inferred_qual slots s (slot_at p k) ≡ Some q → is_written (receiver_notes (place_receiver ts r)) ≡ false) → inferred_qual slots s (slot_at p k) ≡ o → receiver_rows (place_receiver us (noted_receiver cn r o)) ≡ []
      go None None e x f = refl
      go None (Some q) e x f = of_clear initialization_alone true (place_annotations us (initialization_name q ∷ [])) (initialization_clear q)
      go (Some r) None e x f = of_clear initialization_alone true (place_annotations us r.annotations) (subst (Clear initialization_alone true) (annotations_numbers ts r.annotations ∙ sym (annotations_numbers us r.annotations)) (clear_of initialization_alone true (place_annotations ts r.annotations) e))
      go (Some r) (Some q) e x f =
          let old = subst (Clear initialization_alone true) (annotations_numbers ts r.annotations) (clear_of initialization_alone true (place_annotations ts r.annotations) e) in
          of_clear initialization_alone true (place_annotations us (r.annotations ++ initialization_name q ∷ []))
          (subst (Clear initialization_alone true) (sym (annotations_numbers us (r.annotations ++ initialization_name q ∷ []) ∙ numbers_append r.annotations (initialization_name q ∷ [])))
          (clear_more initialization_alone true (name_numbers r.annotations) (name_numbers (initialization_name q ∷ [])) old (ap is_written (sym (annotations_notes ts r.annotations)) ∙ x q f) (initialization_clear q)))
