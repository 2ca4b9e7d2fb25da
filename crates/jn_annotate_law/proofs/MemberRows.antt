-- Annotated members have no row outside bodies where they had none.
use Rattle.std.proofs.Common.{◌≡◌, ℕ, Bool, true, false, not, cond, ◌&&◌, ◌||◌, List, [], ◌∷◌, ◌++◌, Option, Some, None, refl, sym, ap, ◌∙◌, subst}
use Rattle.std.specs.Prelude.{drop, map, eqb}
use Rattle.std.proofs.lemmas.Bool.{false≢true, eqb-true}
use Rattle.jn_base.specs.declared.code.Code.TheVariants.{J5}
use Rattle.jn_base.specs.declared.place.Row.{Row}
use Rattle.jn_base.specs.declared.place.Span.{Span}
use Rattle.jn_base.specs.declared.number.NameNo.{NameNo}
use Rattle.jn_quals.specs.Qualifier.{Qualifier}
use Rattle.jn_known.specs.Known.{override_name, non_null_name, nullable_name, initialized_name, under_name, unknown_name, monotonic_name}
use Rattle.jn_points.specs.Members.{some_of}
use Rattle.jn_points.specs.declared.program.SlotInfo.{SlotInfo}
use Rattle.jn_trees.specs.declared.token.Token.{Token}
use Rattle.jn_trees.specs.declared.expression.Annotation.{Annotation}
use Rattle.jn_trees.specs.Trees.{BaseTree, ClassBase, IntBase, BooleanBase, Tree, TypeUseTree, DeclaratorTree, Mark, NoteMark, PublicMark, ProtectedMark, PrivateMark, StaticMark, ConstantMark, AbstractMark, FieldMember}
use Rattle.jn_trees.specs.Spelling.{spell_mark, spell_all_marks, spell_type_use, spell_declarator}
use Rattle.jn_places.specs.Places.{behind, place_base, place_type_use, place_value, place_mark, place_marks, place_declarator, place_next_declarator, spell_next_declarator, place_more_declarators, place_result, place_member}
use Rattle.jn_heads.specs.declared.head.Notes.{Notes}
use Rattle.jn_heads.specs.declared.head.TypeHead.{TypeHead}
use Rattle.jn_heads.specs.declared.head.ClassHead.{ClassHead}
use Rattle.jn_heads.specs.Types.{slot_of, field_qual, written_qual, is_position, result_slots}
use Rattle.jn_classtable.specs.Table.{slot_at, result_slot}
use Rattle.jn_heads.specs.Extract.{modifier_notes, type_head, result_head}
use Rattle.jn_lowering.specs.Annotations.{Allowed, row, when, both_kinds, of_field, annotation_rows, type_rows, name_row}
use Rattle.jn_lowering.specs.FileRows.{notes_of, is_static_mark, has_static, without_override, starts, all_start, is_primitive_base, is_plain, is_static_start, names_rows, result_rows, head_rows, first_mark}
use Rattle.jn_annotate.specs.Insertions.{inferred_qual}
use Rattle.jn_annotate_law.specs.Trees.{nullity_names, both_names, names_of, leading, noted_use, noted_marks, noted_result, noted_result_marks, both_at}
use Rattle.jn_annotate_law.proofs.Extracting.{initializer_same}
use Rattle.jn_annotate_law.proofs.Positions.{Stands}
use Rattle.jn_annotate_law.proofs.NoteRows.{no_rows_left, no_rows_right, no_rows_both, numbers, Clear, clear_of, of_clear, notes_in, name_numbers, nullity_clear, both_clear, mark_numbers, marks_numbers, marks_more}
use Rattle.jn_annotate_law.proofs.PositionRows.{marks_notes, position_stays, name_stays}

-- ---- initializers of static fields

starts_same : (b : BaseTree) (bt bu ts us : List Token) (v : Option Tree) → starts (place_base bt b) (place_value ts v) ≡ starts (place_base bu b) (place_value us v)
starts_same b bt bu ts us None = refl
starts_same (ClassBase n) bt bu ts us (Some e) = refl
starts_same IntBase bt bu ts us (Some e) = (initializer_same (drop 1 ts) (drop 1 us) e).3
starts_same BooleanBase bt bu ts us (Some e) = (initializer_same (drop 1 ts) (drop 1 us) e).4

more_start_same : (b : BaseTree) (bt bu ts us : List Token) (ds : List DeclaratorTree) → all_start (place_base bt b) (place_more_declarators ts ds) ≡ all_start (place_base bu b) (place_more_declarators us ds)
more_start_same b bt bu ts us [] = refl
more_start_same b bt bu ts us (d ∷ ds) =
    ap (λ x. x && all_start (place_base bt b) (place_more_declarators (behind ts (spell_next_declarator d)) ds)) (starts_same b bt bu (drop 1 (drop 1 ts)) (drop 1 (drop 1 us)) d.value)
    ∙ ap (λ x. starts (place_base bu b) (place_next_declarator us d).value && x) (more_start_same b bt bu (behind ts (spell_next_declarator d)) (behind us (spell_next_declarator d)) ds)

primitive_same : (b : BaseTree) (ts us : List Token) → is_primitive_base (place_base ts b) ≡ is_primitive_base (place_base us b)
primitive_same (ClassBase n) ts us = refl
primitive_same IntBase ts us = refl
primitive_same BooleanBase ts us = refl

plain_same : (base : BaseTree) (array : Option (List NameNo)) (names : List NameNo) (ts us : List Token) → let u : TypeUseTree = record { base = base; array = array } in is_plain (place_type_use ts u).array ≡ is_plain (place_type_use us (noted_use names u)).array
plain_same base None names ts us = refl
plain_same base (Some notes) names ts us = refl

static_mark_same : (ts us : List Token) (m : Mark) → is_static_mark (place_mark ts m) ≡ is_static_mark (place_mark us m)
static_mark_same ts us (NoteMark n) = refl
static_mark_same ts us PublicMark = refl
static_mark_same ts us ProtectedMark = refl
static_mark_same ts us PrivateMark = refl
static_mark_same ts us StaticMark = refl
static_mark_same ts us ConstantMark = refl
static_mark_same ts us AbstractMark = refl

static_names : (us : List Token) (names : List NameNo) → has_static (place_marks us (map NoteMark names)) ≡ false
static_names us [] = refl
static_names us (n ∷ names) = static_names (behind us (spell_mark (NoteMark n))) names

static_same : (ts us : List Token) (ms : List Mark) (names : List NameNo) → has_static (place_marks ts ms) ≡ has_static (place_marks us (ms ++ map NoteMark names))
static_same ts us [] names = sym (static_names us names)
static_same ts us (m ∷ ms) names =
    ap (λ b. b || has_static (place_marks (behind ts (spell_mark m)) ms)) (static_mark_same ts us m)
    ∙ ap (λ b. is_static_mark (place_mark us m) || b) (static_same (behind ts (spell_mark m)) (behind us (spell_mark m)) ms names)

pub when_stays : (a b : Bool) (x y : Span) → a ≡ b → when a (row J5 x) ≡ [] → when b (row J5 y) ≡ []
when_stays true b x y e h = absurd cc
when_stays false true x y e h = absurd (false≢true e)
when_stays false false x y e h = refl

static_stays : (interface a b : Bool) (x y : Span) → a ≡ b → cond interface (row J5 x) (when a (row J5 x)) ≡ [] → cond interface (row J5 y) (when b (row J5 y)) ≡ []
static_stays true a b x y e h = absurd cc
static_stays false a b x y e h = when_stays a b x y e h

more_names_stay : (ts us : List Token) (ds : List DeclaratorTree) → names_rows (place_more_declarators ts ds) ≡ [] → names_rows (place_more_declarators us ds) ≡ []
more_names_stay ts us [] e = refl
more_names_stay ts us (d ∷ ds) e =
    let A : List Row = name_row d.name.0 (place_next_declarator ts d).name.span in
    let B : List Row = names_rows (place_more_declarators (behind ts (spell_next_declarator d)) ds) in
    no_rows_both (name_row d.name.0 (place_next_declarator us d).name.span) (names_rows (place_more_declarators (behind us (spell_next_declarator d)) ds))
    (name_stays d.name.0 (place_next_declarator ts d).name.span (place_next_declarator us d).name.span (no_rows_left A B e))
    (more_names_stay (behind ts (spell_next_declarator d)) (behind us (spell_next_declarator d)) ds (no_rows_right A B e))

-- ---- results, on whose methods `@Override` may stand

abbrev dropped_override : List ℕ → List ℕ
dropped_override [] = []
dropped_override (n ∷ ns) = cond (eqb n override_name) (dropped_override ns) (n ∷ dropped_override ns)

override_numbers : (xs : List Annotation) → numbers (without_override xs) ≡ dropped_override (numbers xs)
override_numbers [] = refl
override_numbers (x ∷ xs) = go (eqb x.name.0 override_name) (override_numbers xs)
  where
    go : (b : Bool) → numbers (without_override xs) ≡ dropped_override (numbers xs) → numbers (cond b (without_override xs) (x ∷ without_override xs)) ≡ cond b (dropped_override (numbers xs)) (x.name.0 ∷ dropped_override (numbers xs))
    go true e = e
    go false e = ap (λ z. x.name.0 ∷ z) e

override_append : (ns ms : List ℕ) → dropped_override (ns ++ ms) ≡ dropped_override ns ++ dropped_override ms
override_append [] ms = refl
override_append (n ∷ ns) ms = go (eqb n override_name) (override_append ns ms)
  where
    go : (b : Bool) → dropped_override (ns ++ ms) ≡ dropped_override ns ++ dropped_override ms → cond b (dropped_override (ns ++ ms)) (n ∷ dropped_override (ns ++ ms)) ≡ cond b (dropped_override ns) (n ∷ dropped_override ns) ++ dropped_override ms
    go true e = e
    go false e = ap (λ z. n ∷ z) e

some_kept : (k : ℕ) (ns : List ℕ) → eqb override_name k ≡ false → some_of (λ m. eqb m k) ns ≡ some_of (λ m. eqb m k) (dropped_override ns)
some_kept k [] e = refl
some_kept k (n ∷ ns) e = go (eqb n override_name) refl (some_kept k ns e)
  where
    go : (b : Bool) → eqb n override_name ≡ b → some_of (λ m. eqb m k) ns ≡ some_of (λ m. eqb m k) (dropped_override ns) → (eqb n k || some_of (λ m. eqb m k) ns) ≡ some_of (λ m. eqb m k) (cond b (dropped_override ns) (n ∷ dropped_override ns))
    go true f h = ap (λ x. eqb x k || some_of (λ m. eqb m k) ns) (eqb-true n override_name f) ∙ ap (λ b. b || some_of (λ m. eqb m k) ns) e ∙ h
    go false f h = ap (λ b. eqb n k || b) h

abbrev made : Bool → Bool → Bool → Bool → Bool → Bool → Notes
made a b c d e f = record { non_null = a; nullable = b; initialized = c; under = d; unknown = e; monotonic = f }

override_notes : (ns : List ℕ) → notes_in ns ≡ notes_in (dropped_override ns)
override_notes ns =
    let f : ℕ → Bool = λ k. some_of (λ m. eqb m k) ns in
    let g : ℕ → Bool = λ k. some_of (λ m. eqb m k) (dropped_override ns) in
    ap (λ x. made x (f nullable_name) (f initialized_name) (f under_name) (f unknown_name) (f monotonic_name)) (some_kept non_null_name ns refl)
    ∙ ap (λ x. made (g non_null_name) x (f initialized_name) (f under_name) (f unknown_name) (f monotonic_name)) (some_kept nullable_name ns refl)
    ∙ ap (λ x. made (g non_null_name) (g nullable_name) x (f under_name) (f unknown_name) (f monotonic_name)) (some_kept initialized_name ns refl)
    ∙ ap (λ x. made (g non_null_name) (g nullable_name) (g initialized_name) x (f unknown_name) (f monotonic_name)) (some_kept under_name ns refl)
    ∙ ap (λ x. made (g non_null_name) (g nullable_name) (g initialized_name) (g under_name) x (f monotonic_name)) (some_kept unknown_name ns refl)
    ∙ ap (λ x. made (g non_null_name) (g nullable_name) (g initialized_name) (g under_name) (g unknown_name) x) (some_kept monotonic_name ns refl)

names_kept : (n c f : Bool) → let q : Qualifier = record { null = n; committed = c; free = f } in dropped_override (name_numbers (both_names q)) ≡ name_numbers (both_names q)
names_kept true c false = refl
names_kept true true true = refl
names_kept true false true = refl
names_kept false c false = refl
names_kept false true true = refl
names_kept false false true = refl

leading_kept : (o : Option Qualifier) (array : Option (List NameNo)) → dropped_override (name_numbers (leading (names_of both_names o) array)) ≡ name_numbers (leading (names_of both_names o) array)
leading_kept None None = refl
leading_kept (Some q) None = names_kept q.null q.committed q.free
leading_kept o (Some notes) = refl

override_marks : (ts : List Token) (ms : List Mark) → numbers (without_override (notes_of (place_marks ts ms))) ≡ dropped_override (mark_numbers ms)
override_marks ts ms = override_numbers (notes_of (place_marks ts ms)) ∙ ap dropped_override (marks_numbers ts ms)

pub alone_stay : (a : Allowed) (r : Bool) (xs ys : List Annotation) → numbers xs ≡ numbers ys → annotation_rows a r xs ≡ [] → annotation_rows a r ys ≡ []
alone_stay a r xs ys e h = of_clear a r ys (subst (Clear a r) e (clear_of a r xs h))

module _ (slots : List SlotInfo) (s : List Qualifier) (hs : List ClassHead) where
  pub result_stays : (k : ℕ) (u : Option TypeUseTree) (ms : List Mark) (ts us old_at new_at : List Token) (secret : Bool) → let names : List NameNo = both_at slots s (result_slot hs k (result_head (place_marks old_at ms) (place_result ts u))) in Stands slots s k (result_slots hs secret (result_head (place_marks old_at ms) (place_result ts u))) → result_rows (place_result ts u) (without_override (notes_of (place_marks old_at ms))) ≡ [] → result_rows (place_result us (noted_result names u)) (without_override (notes_of (place_marks new_at (noted_result_marks names u ms)))) ≡ []
  result_stays k None ms ts us old_at new_at secret h e =
      alone_stay both_kinds true (without_override (notes_of (place_marks old_at ms))) (without_override (notes_of (place_marks new_at ms))) (override_marks old_at ms ∙ sym (override_marks new_at ms)) e
  result_stays k (Some u) ms ts us old_at new_at secret h e =
      let old : TypeHead = type_head (modifier_notes (place_marks old_at ms)) (place_type_use ts u) in
      let o : Option Qualifier = inferred_qual slots s (slot_at (is_position hs old) k) in
      let names : List NameNo = names_of both_names o in
      let X : List Annotation = without_override (notes_of (place_marks old_at ms)) in
      let Y : List Annotation = without_override (notes_of (place_marks new_at (noted_marks names u ms))) in
      let add : List ℕ = name_numbers (leading names u.array) in
      let more : numbers Y ≡ numbers X ++ add =
      override_marks new_at (noted_marks names u ms) ∙ ap dropped_override (marks_more ms (leading names u.array)) ∙ override_append (mark_numbers ms) add
      ∙ ap (λ z. dropped_override (mark_numbers ms) ++ z) (leading_kept o u.array) ∙ ap (λ z. z ++ add) (sym (override_marks old_at ms)) in
      let is : modifier_notes (place_marks old_at ms) ≡ notes_in (numbers X) = marks_notes old_at ms ∙ override_notes (mark_numbers ms) ∙ ap notes_in (sym (override_marks old_at ms)) in
      position_stays slots s hs both_kinds both_names both_clear u k secret (modifier_notes (place_marks old_at ms)) (written_qual old.notes) ts us X Y is h more e

  -- ---- members

  pub field_stays : (interface : Bool) (marks : List Mark) (u : TypeUseTree) (d : DeclaratorTree) (ds : List DeclaratorTree) (k : ℕ) (secret : Bool) (ts us : List Token) → let K : TypeHead = type_head (modifier_notes (place_marks ts marks)) (place_type_use (behind ts (spell_all_marks marks)) u) in let names : List NameNo = names_of nullity_names (inferred_qual slots s (slot_at (is_position hs K) k)) in Stands slots s k (cond (is_position hs K) (slot_of secret K.notes (field_qual K.notes) ∷ []) []) → head_rows interface (place_member ts (FieldMember marks u d ds)) ≡ [] → head_rows interface (place_member us (FieldMember (noted_marks names u marks) (noted_use names u) d ds)) ≡ []
  field_stays interface marks u d ds k secret ts us h e =
      let t1 : List Token = behind ts (spell_all_marks marks) in
      let N : Notes = modifier_notes (place_marks ts marks) in
      let K : TypeHead = type_head N (place_type_use t1 u) in
      let names : List NameNo = names_of nullity_names (inferred_qual slots s (slot_at (is_position hs K) k)) in
      let marks' : List Mark = noted_marks names u marks in
      let u' : TypeUseTree = noted_use names u in
      let u1 : List Token = behind us (spell_all_marks marks') in
      let t2 : List Token = behind t1 (spell_type_use u) in
      let u2 : List Token = behind u1 (spell_type_use u') in
      let t3 : List Token = behind t2 (spell_declarator d) in
      let u3 : List Token = behind u2 (spell_declarator d) in
      let X : List Annotation = notes_of (place_marks ts marks) in
      let Y : List Annotation = notes_of (place_marks us marks') in
      let more : numbers Y ≡ numbers X ++ name_numbers (leading names u.array) = marks_numbers us marks' ∙ marks_more marks (leading names u.array) ∙ ap (λ z. z ++ name_numbers (leading names u.array)) (sym (marks_numbers ts marks)) in
      let is : N ≡ notes_in (numbers X) = marks_notes ts marks ∙ ap notes_in (sym (marks_numbers ts marks)) in
      let at_old : Span = first_mark (place_marks ts marks) (place_type_use t1 u) in
      let at_new : Span = first_mark (place_marks us marks') (place_type_use u1 u') in
      let D = place_declarator t2 d in
      let E = place_declarator u2 d in
      let fit : Bool = is_static_start (place_type_use t1 u) (D ∷ place_more_declarators t3 ds) in
      let fit' : Bool = is_static_start (place_type_use u1 u') (E ∷ place_more_declarators u3 ds) in
      let fits : fit ≡ fit' =
      ap (λ x. x && is_plain (place_type_use t1 u).array && all_start (place_base t1 u.base) (D ∷ place_more_declarators t3 ds)) (primitive_same u.base t1 u1)
      ∙ ap (λ x. is_primitive_base (place_base u1 u.base) && x && all_start (place_base t1 u.base) (D ∷ place_more_declarators t3 ds)) (plain_same u.base u.array names t1 u1)
      ∙ ap (λ x. is_primitive_base (place_base u1 u.base) && is_plain (place_type_use u1 u').array && (x && all_start (place_base t1 u.base) (place_more_declarators t3 ds))) (starts_same u.base t1 u1 (drop 1 t2) (drop 1 u2) d.value)
      ∙ ap (λ x. is_primitive_base (place_base u1 u.base) && is_plain (place_type_use u1 u').array && (starts (place_base u1 u.base) E.value && x)) (more_start_same u.base t1 u1 t3 u3 ds) in
      let a : Bool = has_static (place_marks ts marks) && not fit in
      let b : Bool = has_static (place_marks us marks') && not fit' in
      let same : a ≡ b = ap (λ x. x && not fit) (static_same ts us marks (leading names u.array)) ∙ ap (λ x. has_static (place_marks us marks') && not x) fits in
      let A : List Row = type_rows (place_type_use t1 u) of_field X in
      let B : List Row = names_rows (D ∷ place_more_declarators t3 ds) in
      let C : List Row = cond interface (row J5 at_old) (when a (row J5 at_old)) in
      let B1 : List Row = name_row d.name.0 D.name.span in
      let B2 : List Row = names_rows (place_more_declarators t3 ds) in
      let f = no_rows_right A (B ++ C) e in
      let g = no_rows_left B C f in
      no_rows_both (type_rows (place_type_use u1 u') of_field Y) (names_rows (E ∷ place_more_declarators u3 ds) ++ cond interface (row J5 at_new) (when b (row J5 at_new)))
      (position_stays slots s hs of_field nullity_names nullity_clear u k secret N (field_qual K.notes) t1 u1 X Y is h more (no_rows_left A (B ++ C) e))
      (no_rows_both (names_rows (E ∷ place_more_declarators u3 ds)) (cond interface (row J5 at_new) (when b (row J5 at_new)))
      (no_rows_both (name_row d.name.0 E.name.span) (names_rows (place_more_declarators u3 ds)) (name_stays d.name.0 D.name.span E.name.span (no_rows_left B1 B2 g)) (more_names_stay t3 u3 ds (no_rows_right B1 B2 g)))
      (static_stays interface a b at_old at_new same (no_rows_right B C f)))
