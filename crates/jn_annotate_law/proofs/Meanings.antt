-- The words of a qualifier say that qualifier.
use Rattle.std.proofs.Common.{◌≡◌, ℕ, Bool, true, false, ◌||◌, List, [], ◌∷◌, ◌++◌, refl, sym, ap, ◌∙◌}
use Rattle.std.specs.Prelude.{eqb, map}
use Rattle.std.proofs.lemmas.Bool.{false≢true}
use Rattle.jn_base.specs.declared.number.NameNo.{NameNo}
use Rattle.jn_known.specs.Known.{non_null_name, nullable_name, initialized_name, under_name, unknown_name, monotonic_name}
use Rattle.jn_quals.specs.Qualifier.{Qualifier}
use Rattle.jn_points.specs.Members.{some_of}
use Rattle.jn_trees.specs.declared.token.Token.{Token}
use Rattle.jn_trees.specs.Trees.{Mark, NoteMark, LocalMark, AnnotationMark}
use Rattle.jn_trees.specs.Spelling.{spell_mark}
use Rattle.jn_places.specs.Places.{behind, place_marks, place_mark, place_local_marks, place_local_mark, spell_local_mark, place_annotations, spell_annotation}
use Rattle.jn_heads.specs.declared.head.Notes.{Notes}
use Rattle.jn_heads.specs.Types.{is_written, written_qual, field_qual, receiver_qual, slot_of}
use Rattle.jn_heads.specs.Extract.{is_named, is_note, is_local_note, notes_by, notes_of, modifier_notes, local_notes}
use Rattle.std.proofs.Math.Path.{fun_ext}
use Rattle.jn_places_law.specs.Written.{written_slot}
use Rattle.jn_annotate.specs.Words.{is_unspelled, initialization_name}
use Rattle.jn_annotate.specs.Chosen.{is_default}
use Rattle.jn_annotate_law.specs.Trees.{nullity_names, both_names}
use Rattle.jn_annotate_law.specs.Noted.{has_name, notes_with}

-- ---- annotations after others

or_assoc : (a b c : Bool) → ((a || b) || c) ≡ (a || (b || c))
or_assoc true b c = refl
or_assoc false b c = refl

marks_of : (ts : List Token) (names : List NameNo) (n : ℕ) → some_of (is_note n) (place_marks ts (map NoteMark names)) ≡ has_name names n
marks_of ts [] n = refl
marks_of ts (m ∷ names) n = ap (λ b. eqb m.0 n || b) (marks_of (behind ts (spell_mark (NoteMark m))) names n)

marks_more : (ts : List Token) (ms : List Mark) (names : List NameNo) (n : ℕ) → some_of (is_note n) (place_marks ts (ms ++ map NoteMark names)) ≡ (some_of (is_note n) (place_marks ts ms) || has_name names n)
marks_more ts [] names n = marks_of ts names n
marks_more ts (m ∷ ms) names n = ap (λ b. is_note n (place_mark ts m) || b) (marks_more (behind ts (spell_mark m)) ms names n) ∙ sym (or_assoc (is_note n (place_mark ts m)) (some_of (is_note n) (place_marks (behind ts (spell_mark m)) ms)) (has_name names n))

-- of a member
pub modifiers_more : (ts : List Token) (ms : List Mark) (names : List NameNo) → modifier_notes (place_marks ts (ms ++ map NoteMark names)) ≡ notes_with (λ n. some_of (is_note n) (place_marks ts ms)) names
modifiers_more ts ms names = ap notes_by (fun_ext (marks_more ts ms names))

locals_of : (ts : List Token) (names : List NameNo) (n : ℕ) → some_of (is_local_note n) (place_local_marks ts (map AnnotationMark names)) ≡ has_name names n
locals_of ts [] n = refl
locals_of ts (m ∷ names) n = ap (λ b. eqb m.0 n || b) (locals_of (behind ts (spell_local_mark (AnnotationMark m))) names n)

locals_and : (ts : List Token) (ms : List LocalMark) (names : List NameNo) (n : ℕ) → some_of (is_local_note n) (place_local_marks ts (ms ++ map AnnotationMark names)) ≡ (some_of (is_local_note n) (place_local_marks ts ms) || has_name names n)
locals_and ts [] names n = locals_of ts names n
locals_and ts (m ∷ ms) names n = ap (λ b. is_local_note n (place_local_mark ts m) || b) (locals_and (behind ts (spell_local_mark m)) ms names n) ∙ sym (or_assoc (is_local_note n (place_local_mark ts m)) (some_of (is_local_note n) (place_local_marks (behind ts (spell_local_mark m)) ms)) (has_name names n))

-- of a parameter
pub locals_more : (ts : List Token) (ms : List LocalMark) (names : List NameNo) → local_notes (place_local_marks ts (ms ++ map AnnotationMark names)) ≡ notes_with (λ n. some_of (is_local_note n) (place_local_marks ts ms)) names
locals_more ts ms names = ap notes_by (fun_ext (locals_and ts ms names))

annotations_of : (ts : List Token) (names : List NameNo) (n : ℕ) → some_of (is_named n) (place_annotations ts names) ≡ has_name names n
annotations_of ts [] n = refl
annotations_of ts (m ∷ names) n = ap (λ b. eqb m.0 n || b) (annotations_of (behind ts (spell_annotation m)) names n)

annotations_and : (ts : List Token) (ms names : List NameNo) (n : ℕ) → some_of (is_named n) (place_annotations ts (ms ++ names)) ≡ (some_of (is_named n) (place_annotations ts ms) || has_name names n)
annotations_and ts [] names n = annotations_of ts names n
annotations_and ts (m ∷ ms) names n = ap (λ b. eqb m.0 n || b) (annotations_and (behind ts (spell_annotation m)) ms names n) ∙ sym (or_assoc (eqb m.0 n) (some_of (is_named n) (place_annotations (behind ts (spell_annotation m)) ms)) (has_name names n))

-- at an array's brackets, and of a receiver
pub annotations_more : (ts : List Token) (ms names : List NameNo) → notes_of (place_annotations ts (ms ++ names)) ≡ notes_with (λ n. some_of (is_named n) (place_annotations ts ms)) names
annotations_more ts ms names = ap notes_by (fun_ext (annotations_and ts ms names))

-- ---- what is written where nothing was

left_false : (a b : Bool) → (a || b) ≡ false → a ≡ false
left_false true b e = absurd (false≢true (sym e))
left_false false b e = refl

right_false : (a b : Bool) → (a || b) ≡ false → b ≡ false
right_false true b e = absurd (false≢true (sym e))
right_false false b e = e

abbrev made : Bool → Bool → Bool → Bool → Bool → Bool → Notes
made a b c d e f = record { non_null = a; nullable = b; initialized = c; under = d; unknown = e; monotonic = f }

-- none of the six stands
record NoneOf (has : ℕ → Bool) : Type 0 where
  pub non_null : has non_null_name ≡ false
  pub nullable : has nullable_name ≡ false
  pub initialized : has initialized_name ≡ false
  pub under : has under_name ≡ false
  pub unknown : has unknown_name ≡ false
  pub monotonic : has monotonic_name ≡ false

none_of : (has : ℕ → Bool) → is_written (notes_by has) ≡ false → NoneOf has
none_of has h =
    let h4 = left_false (has non_null_name || has nullable_name || has initialized_name || has under_name || has unknown_name) (has monotonic_name) h in
    let h3 = left_false (has non_null_name || has nullable_name || has initialized_name || has under_name) (has unknown_name) h4 in
    let h2 = left_false (has non_null_name || has nullable_name || has initialized_name) (has under_name) h3 in
    let h1 = left_false (has non_null_name || has nullable_name) (has initialized_name) h2 in
    record {
      non_null = left_false (has non_null_name) (has nullable_name) h1;
      nullable = right_false (has non_null_name) (has nullable_name) h1;
      initialized = right_false (has non_null_name || has nullable_name) (has initialized_name) h2;
      under = right_false (has non_null_name || has nullable_name || has initialized_name) (has under_name) h3;
      unknown = right_false (has non_null_name || has nullable_name || has initialized_name || has under_name) (has unknown_name) h4;
      monotonic = right_false (has non_null_name || has nullable_name || has initialized_name || has under_name || has unknown_name) (has monotonic_name) h;
    }

-- then the notes with names are those of the names
pub unwritten_more : (has : ℕ → Bool) (names : List NameNo) → is_written (notes_by has) ≡ false → notes_with has names ≡ notes_by (has_name names)
unwritten_more has names h =
    let none = none_of has h in
    let f : ℕ → Bool = has_name names in
    (λ i. made (none.non_null i || f non_null_name) (none.nullable i || f nullable_name) (none.initialized i || f initialized_name) (none.under i || f under_name) (none.unknown i || f unknown_name) (none.monotonic i || f monotonic_name))

-- and without names they say the default
pub says_default : (has : ℕ → Bool) → is_written (notes_by has) ≡ false → (is_default (written_qual (notes_by has)) ≡ true) × (is_default (field_qual (notes_by has)) ≡ true) × (is_default (receiver_qual (notes_by has)) ≡ true)
says_default has h =
    let none = none_of has h in
    let same : notes_by has ≡ made false false false false false false = (λ i. made (none.non_null i) (none.nullable i) (none.initialized i) (none.under i) (none.unknown i) (none.monotonic i)) in
    (ap (λ n. is_default (written_qual n)) same, ap (λ n. is_default (field_qual n)) same, ap (λ n. is_default (receiver_qual n)) same)

-- ---- slots

-- what the words say: both of a value, nullity of a field, initialization of a receiver
value_of : (n c f : Bool) → let q : Qualifier = record { null = n; committed = c; free = f } in is_unspelled q ≡ false → (private' : Bool) → slot_of private' (notes_by (has_name (both_names q))) (written_qual (notes_by (has_name (both_names q)))) ≡ written_slot q
value_of n false false e p = absurd (false≢true (sym e))
value_of true true false e true = refl
value_of true true false e false = refl
value_of true true true e true = refl
value_of true true true e false = refl
value_of true false true e true = refl
value_of true false true e false = refl
value_of false true false e true = refl
value_of false true false e false = refl
value_of false true true e true = refl
value_of false true true e false = refl
value_of false false true e true = refl
value_of false false true e false = refl

field_of : (n c f : Bool) → let q : Qualifier = record { null = n; committed = c; free = f } in c ≡ true → f ≡ false → (private' : Bool) → slot_of private' (notes_by (has_name (nullity_names q))) (field_qual (notes_by (has_name (nullity_names q)))) ≡ written_slot q
field_of n false f a b p = absurd (false≢true a)
field_of n true true a b p = absurd (false≢true (sym b))
field_of true true false a b true = refl
field_of true true false a b false = refl
field_of false true false a b true = refl
field_of false true false a b false = refl

receiver_of : (n c f : Bool) → let q : Qualifier = record { null = n; committed = c; free = f } in n ≡ false → is_unspelled q ≡ false → (private' : Bool) → slot_of private' (notes_by (has_name (initialization_name q ∷ []))) (receiver_qual (notes_by (has_name (initialization_name q ∷ [])))) ≡ written_slot q
receiver_of true c f a b p = absurd (false≢true (sym a))
receiver_of false false false a b p = absurd (false≢true (sym b))
receiver_of false true false a b true = refl
receiver_of false true false a b false = refl
receiver_of false true true a b true = refl
receiver_of false true true a b false = refl
receiver_of false false true a b true = refl
receiver_of false false true a b false = refl

module _ (has : ℕ → Bool) (q : Qualifier) (private' : Bool) (h : is_written (notes_by has) ≡ false) where
  pub value_slot : is_unspelled q ≡ false → slot_of private' (notes_with has (both_names q)) (written_qual (notes_with has (both_names q))) ≡ written_slot q
  value_slot e = ap (λ n. slot_of private' n (written_qual n)) (unwritten_more has (both_names q) h) ∙ value_of q.null q.committed q.free e private'

  pub field_slot : q.committed ≡ true → q.free ≡ false → slot_of private' (notes_with has (nullity_names q)) (field_qual (notes_with has (nullity_names q))) ≡ written_slot q
  field_slot a b = ap (λ n. slot_of private' n (field_qual n)) (unwritten_more has (nullity_names q) h) ∙ field_of q.null q.committed q.free a b private'

  pub receiver_slot : q.null ≡ false → is_unspelled q ≡ false → slot_of private' (notes_with has (initialization_name q ∷ [])) (receiver_qual (notes_with has (initialization_name q ∷ []))) ≡ written_slot q
  receiver_slot a b = ap (λ n. slot_of private' n (receiver_qual n)) (unwritten_more has (initialization_name q ∷ []) h) ∙ receiver_of q.null q.committed q.free a b private'
