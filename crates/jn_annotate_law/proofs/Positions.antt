-- The slots of annotated positions are written as they were inferred.
use Rattle.std.proofs.Common.{◌≡◌, ℕ, suc, ◌+◌, Bool, true, false, not, cond, ◌&&◌, ◌||◌, List, [], ◌∷◌, ◌++◌, length, Option, Some, None, refl, sym, ap, ◌∙◌, subst, arith, append_assoc, length-append}
use Rattle.std.specs.Prelude.{drop, eqb, map, slice_get, slice_index_or}
use Rattle.std.proofs.Math.Path.{fun_ext}
use Rattle.std.proofs.lemmas.Bool.{false≢true}
use Rattle.std.proofs.lemmas.List.{append-nil}
use Rattle.jn_base.specs.declared.number.NameNo.{NameNo}
use Rattle.jn_quals.specs.Qualifier.{Qualifier}
use Rattle.jn_quals.specs.Order.{no_qual}
use Rattle.jn_points.specs.Members.{some_of}
use Rattle.jn_points.specs.declared.program.SlotInfo.{SlotInfo}
use Rattle.jn_transfer.specs.Contributions.{is_inferred}
use Rattle.jn_trees.specs.declared.token.Token.{Token}
use Rattle.jn_trees.specs.Trees.{BaseTree, LocalMark, AnnotationMark, Mark, NoteMark, ParameterTree}
use Rattle.jn_trees.specs.Spelling.{spell_marks}
use Rattle.jn_places.specs.Places.{behind, place_type_use, place_marks, place_local_marks, place_annotations, spell_annotation, place_parameter, place_parameters, spell_parameter_through}
use Rattle.jn_heads.specs.declared.head.Notes.{Notes}
use Rattle.jn_heads.specs.declared.head.TypeHead.{TypeHead}
use Rattle.jn_heads.specs.declared.head.ParamHead.{ParamHead}
use Rattle.jn_heads.specs.declared.head.ClassHead.{ClassHead}
use Rattle.jn_heads.specs.Types.{is_written, written_qual, slot_of, is_position, value_slots, params_slots}
use Rattle.jn_classtable.specs.Table.{slot_at, param_slots}
use Rattle.jn_heads.specs.Extract.{is_named, is_note, is_local_note, notes_by, notes_of, modifier_notes, local_notes, type_head, param_head}
use Rattle.jn_places_law.specs.Written.{written_slot}
use Rattle.jn_annotate.specs.Words.{is_unspelled}
use Rattle.jn_annotate.specs.Insertions.{qual_where, inferred_qual}
use Rattle.jn_annotate_law.specs.Trees.{both_names, names_of, leading, at_brackets, noted_parameter, both_at, noted_parameters}
use Rattle.jn_annotate_law.specs.Worded.{Narrows, worded_from}
use Rattle.jn_annotate_law.specs.Says.{AllSpelled}
use Rattle.jn_annotate_law.specs.Noted.{notes_with}
use Rattle.jn_heads_law.specs.Plain.{plain_type, plain_head}
use Rattle.jn_heads_law.proofs.Tables.{position_is}
use Rattle.jn_annotate_law.proofs.Meanings.{modifiers_more, locals_more, annotations_more, value_slot}
use Rattle.jn_annotate_law.proofs.Extracting.{modifiers_same, locals_same, param_same}

without_names : (has : ℕ → Bool) → notes_with has [] ≡ notes_by has
without_names has = ap notes_by (fun_ext (λ n. none (has n)))
  where
    none : (b : Bool) → (b || false) ≡ b
    none true = refl
    none false = refl

-- notes, and those with names after them
pub record Noted (old new : Notes) (names : List NameNo) : Type 0 where
  pub has : ℕ → Bool
  pub old_is : old ≡ notes_by has
  pub new_is : new ≡ notes_with has names

annotations_same : (ts us : List Token) (names : List NameNo) (n : ℕ) → some_of (is_named n) (place_annotations ts names) ≡ some_of (is_named n) (place_annotations us names)
annotations_same ts us [] n = refl
annotations_same ts us (m ∷ names) n = ap (λ b. eqb m.0 n || b) (annotations_same (behind ts (spell_annotation m)) (behind us (spell_annotation m)) names n)

pub noted_annotations : (ts us : List Token) (notes names : List NameNo) → Noted (notes_of (place_annotations ts notes)) (notes_of (place_annotations us (notes ++ names))) names
noted_annotations ts us notes names = record {
  has = λ n. some_of (is_named n) (place_annotations us notes);
  old_is = ap notes_by (fun_ext (annotations_same ts us notes));
  new_is = annotations_more us notes names;
}

pub noted_type : (base : BaseTree) (array : Option (List NameNo)) (names : List NameNo) (ts us : List Token) (old new : Notes) → Noted old new (leading names array) → Noted (type_head old (place_type_use ts (record { base = base; array = array }))).notes (type_head new (place_type_use us (record { base = base; array = at_brackets names array }))).notes names
noted_type base None names ts us old new h = h
noted_type base (Some notes) names ts us old new h = noted_annotations (drop 1 ts) (drop 1 us) notes names

pub noted_modifiers : (ts us : List Token) (ms : List Mark) (names : List NameNo) → Noted (modifier_notes (place_marks ts ms)) (modifier_notes (place_marks us (ms ++ map NoteMark names))) names
noted_modifiers ts us ms names = record { has = λ n. some_of (is_note n) (place_marks us ms); old_is = modifiers_same ts us ms; new_is = modifiers_more us ms names }

pub noted_locals : (ts us : List Token) (ms : List LocalMark) (names : List NameNo) → Noted (local_notes (place_local_marks ts ms)) (local_notes (place_local_marks us (ms ++ map AnnotationMark names))) names
noted_locals ts us ms names = record { has = λ n. some_of (is_local_note n) (place_local_marks us ms); old_is = locals_same ts us ms; new_is = locals_more us ms names }

at_place : {A : Type 0} (xs ys : List A) (y : A) → slice_get (xs ++ y ∷ ys) (length xs) ≡ Some y
at_place [] ys y = refl
at_place (x ∷ xs) ys y = at_place xs ys y

module _ (whole : List SlotInfo) where
  -- these slots stand in a list from the k-th on
  pub record StandsIn (k : ℕ) (xs : List SlotInfo) : Type 0 where
    pub before : List SlotInfo
    pub behind' : List SlotInfo
    pub is : whole ≡ before ++ (xs ++ behind')
    pub long : length before ≡ k

  pub in_left : (k : ℕ) (xs ys : List SlotInfo) → StandsIn k (xs ++ ys) → StandsIn k xs
  in_left k xs ys h = record { before = h.before; behind' = ys ++ h.behind'; is = h.is ∙ ap (λ x. h.before ++ x) (append_assoc xs ys h.behind'); long = h.long }

  pub in_right : (k : ℕ) (xs ys : List SlotInfo) → StandsIn k (xs ++ ys) → StandsIn (k + length xs) ys
  in_right k xs ys h = record {
    before = h.before ++ xs;
    behind' = h.behind';
    is = h.is ∙ ap (λ x. h.before ++ x) (append_assoc xs ys h.behind') ∙ sym (append_assoc h.before xs (ys ++ h.behind'));
    long = length-append h.before xs ∙ ap (λ n. n + length xs) h.long;
  }

  pub in_one : (k : ℕ) (x : SlotInfo) → StandsIn k (x ∷ []) → slice_get whole k ≡ Some x
  in_one k x h = ap (λ l. slice_get l k) h.is ∙ ap (slice_get (h.before ++ x ∷ h.behind')) (sym h.long) ∙ at_place h.before h.behind' x

  -- all of them do
  pub in_all : StandsIn 0 whole
  in_all = record { before = []; behind' = []; is = sym (append-nil whole); long = refl }

-- the qualifier of a slot that counts as inferred
pub counted_is : (slots : List SlotInfo) (s : List Qualifier) (k : ℕ) → inferred_qual slots s (Some (record { 0 = k })) ≡ cond (is_inferred (slice_get slots k)) (Some (slice_index_or s k no_qual)) None
counted_is slots s k = go (slice_get slots k)
  where
    go : (o : Option SlotInfo) → qual_where slots s o k ≡ cond (is_inferred o) (Some (slice_index_or s k no_qual)) None
    go None = refl
    go (Some info) = refl

pub counts : (slots : List SlotInfo) (s : List Qualifier) (k : ℕ) (q : Qualifier) → inferred_qual slots s (Some (record { 0 = k })) ≡ Some q → (is_inferred (slice_get slots k) ≡ true) × (slice_index_or s k no_qual ≡ q)
counts slots s k q e = go (is_inferred (slice_get slots k)) (sym (counted_is slots s k) ∙ e)
  where
    go : (b : Bool) → cond b (Some (slice_index_or s k no_qual)) None ≡ Some q → (b ≡ true) × (slice_index_or s k no_qual ≡ q)
    go true e = (refl, let f : ◌≡◌ {A = Option Qualifier} (Some (slice_index_or s k no_qual)) (Some q) = e in cc)
    go false e = absurd (let f : ◌≡◌ {A = Option Qualifier} None (Some q) = e in cc)

module _ (slots : List SlotInfo) (s : List Qualifier) where
  -- these slots stand from the k-th on in a list of which the slots count as inferred only where they are
  pub record Stands (k : ℕ) (xs : List SlotInfo) : Type 0 where
    pub whole : List SlotInfo
    pub there : StandsIn whole k xs
    pub narrow : Narrows slots whole

  pub stands_left : (k : ℕ) (xs ys : List SlotInfo) → Stands k (xs ++ ys) → Stands k xs
  stands_left k xs ys h = record { whole = h.whole; there = in_left h.whole k xs ys h.there; narrow = h.narrow }

  pub stands_right : (k : ℕ) (xs ys : List SlotInfo) → Stands k (xs ++ ys) → Stands (k + length xs) ys
  stands_right k xs ys h = record { whole = h.whole; there = in_right h.whole k xs ys h.there; narrow = h.narrow }

  -- one that counts as inferred is
  pub stands_open : (k : ℕ) (x : SlotInfo) → Stands k (x ∷ []) → is_inferred (slice_get slots k) ≡ true → x.inferred ≡ true
  stands_open k x h e = sym (ap is_inferred (in_one h.whole k x h.there)) ∙ h.narrow k e

  -- ---- one position

  module _ (names : Qualifier → List NameNo) (qual : Notes → Qualifier) (Fits : Qualifier → Type 0) (says : (has : ℕ → Bool) (q : Qualifier) (secret : Bool) → is_written (notes_by has) ≡ false → Fits q → slot_of secret (notes_with has (names q)) (qual (notes_with has (names q))) ≡ written_slot q) where
    at_slot : (k : ℕ) (has : ℕ → Bool) (secret : Bool) → ((q : Qualifier) → inferred_qual slots s (Some (record { 0 = k })) ≡ Some q → Fits q) → (is_inferred (slice_get slots k) ≡ true → (slot_of secret (notes_by has) (qual (notes_by has))).inferred ≡ true) → slot_of secret (notes_with has (names_of names (inferred_qual slots s (Some (record { 0 = k }))))) (qual (notes_with has (names_of names (inferred_qual slots s (Some (record { 0 = k })))))) ≡ cond (is_inferred (slice_get slots k)) (written_slot (slice_index_or s k no_qual)) (slot_of secret (notes_by has) (qual (notes_by has)))
    at_slot k has secret fits is = here (is_inferred (slice_get slots k)) refl
      where
        unwritten : (c w : Bool) → (cond {A = SlotInfo} (c && not w) (record { start = no_qual; inferred = true }) (record { start = qual (notes_by has); inferred = false })).inferred ≡ true → w ≡ false
        unwritten true false e = refl
        unwritten true true e = absurd (false≢true e)
        unwritten false w e = absurd (false≢true e)

        here : (b : Bool) → is_inferred (slice_get slots k) ≡ b → slot_of secret (notes_with has (names_of names (inferred_qual slots s (Some (record { 0 = k }))))) (qual (notes_with has (names_of names (inferred_qual slots s (Some (record { 0 = k })))))) ≡ cond b (written_slot (slice_index_or s k no_qual)) (slot_of secret (notes_by has) (qual (notes_by has)))
        here true e =
            let q : inferred_qual slots s (Some (record { 0 = k })) ≡ Some (slice_index_or s k no_qual) = counted_is slots s k ∙ ap (λ b. cond b (Some (slice_index_or s k no_qual)) None) e in
            ap (λ o. slot_of secret (notes_with has (names_of names o)) (qual (notes_with has (names_of names o)))) q ∙ says has (slice_index_or s k no_qual) secret (unwritten secret (is_written (notes_by has)) (is e)) (fits (slice_index_or s k no_qual) q)
        here false e =
            let q : inferred_qual slots s (Some (record { 0 = k })) ≡ None = counted_is slots s k ∙ ap (λ b. cond b (Some (slice_index_or s k no_qual)) None) e in
            ap (λ o. slot_of secret (notes_with has (names_of names o)) (qual (notes_with has (names_of names o)))) q
            ∙ ap (λ n. slot_of secret n (qual n)) (without_names has)

    -- where there is a position
    pub slot_new : (p p' : Bool) (k : ℕ) (secret secret' : Bool) (A B : Notes) → p' ≡ p → secret' ≡ secret → Noted A B (names_of names (inferred_qual slots s (slot_at p k))) → ((q : Qualifier) → inferred_qual slots s (slot_at p k) ≡ Some q → Fits q) → Stands k (cond p (slot_of secret A (qual A) ∷ []) []) → cond p' (slot_of secret' B (qual B) ∷ []) [] ≡ worded_from slots s k (cond p (slot_of secret A (qual A) ∷ []) [])
    slot_new false p' k secret secret' A B e f n fits h = ap (λ b. cond b (slot_of secret' B (qual B) ∷ []) []) e
    slot_new true p' k secret secret' A B e f n fits h =
        let opened = subst (λ x. is_inferred (slice_get slots k) ≡ true → (slot_of secret x (qual x)).inferred ≡ true) n.old_is (stands_open k (slot_of secret A (qual A)) h) in
        ap (λ b. cond b (slot_of secret' B (qual B) ∷ []) []) e ∙ ap (λ b. slot_of b B (qual B) ∷ []) f ∙ ap (λ x. slot_of secret x (qual x) ∷ []) n.new_is ∙ ap (λ x. x ∷ []) (at_slot k n.has secret fits opened)
        ∙ ap (λ x. cond (is_inferred (slice_get slots k)) (written_slot (slice_index_or s k no_qual)) (slot_of secret x (qual x)) ∷ []) (sym n.old_is)

  -- ---- lists of slots

  pub slots_append : (k : ℕ) (xs ys new others : List SlotInfo) → new ≡ worded_from slots s k xs → others ≡ worded_from slots s (k + length xs) ys → new ++ others ≡ worded_from slots s k (xs ++ ys)
  slots_append k xs ys new others e f = ap (λ x. x ++ others) e ∙ ap (λ x. worded_from slots s k xs ++ x) f ∙ sym (worded_append k xs)
    where
      worded_append : (k : ℕ) (xs : List SlotInfo) → worded_from slots s k (xs ++ ys) ≡ worded_from slots s k xs ++ worded_from slots s (k + length xs) ys
      worded_append k [] = ap (λ n. worded_from slots s n ys) (let e : k ≡ k + 0 = omega arith in e)
      worded_append k (x ∷ xs) = ap (λ r. cond (is_inferred (slice_get slots k)) (written_slot (slice_index_or s k no_qual)) x ∷ r) (worded_append (k + 1) xs ∙ ap (λ n. worded_from slots s (k + 1) xs ++ worded_from slots s n ys) (let e : (k + 1) + length xs ≡ k + suc (length xs) = omega arith in e))

  module _ (hs gs : List ClassHead) (same : map plain_head hs ≡ map plain_head gs) (sp : AllSpelled slots s) where
    pub position_same : (t u : TypeHead) → plain_type t ≡ plain_type u → is_position gs u ≡ is_position hs t
    position_same t u alike = sym (position_is gs u) ∙ ap (λ x. is_position x (plain_type u)) (sym same) ∙ ap (is_position (map plain_head hs)) (sym alike) ∙ position_is hs t

    -- a parameter or a result
    pub value_new : (k : ℕ) (secret secret' : Bool) (t u : TypeHead) → secret' ≡ secret → plain_type t ≡ plain_type u → Noted t.notes u.notes (both_at slots s (slot_at (is_position hs t) k)) → Stands k (value_slots hs secret t) → value_slots gs secret' u ≡ worded_from slots s k (value_slots hs secret t)
    value_new k secret secret' t u e alike n h =
        slot_new both_names written_qual (λ q. is_unspelled q ≡ false) value_slot (is_position hs t) (is_position gs u) k secret secret' t.notes u.notes (position_same t u alike) e n (sp (slot_at (is_position hs t) k)) h

    pub params_new : (ps : List ParameterTree) (secret secret' : Bool) (k : ℕ) (ts us : List Token) → secret' ≡ secret → Stands k (params_slots hs secret (map param_head (place_parameters ts ps))) → params_slots gs secret' (map param_head (place_parameters us (noted_parameters slots s ps (param_slots hs secret k (map param_head (place_parameters ts ps)))))) ≡ worded_from slots s k (params_slots hs secret (map param_head (place_parameters ts ps)))
    params_new [] secret secret' k ts us e h = refl
    params_new (p ∷ ps) secret secret' k ts us e h =
        let old : TypeHead = (param_head (place_parameter ts p)).kind in
        let names : List NameNo = both_at slots s (slot_at (is_position hs old) k) in
        let new : ParameterTree = noted_parameter names p in
        let fresh : TypeHead = (param_head (place_parameter us new)).kind in
        let rest : List SlotInfo = params_slots hs secret (map param_head (place_parameters (behind ts (spell_parameter_through p)) ps)) in
        let alike : plain_type old ≡ plain_type fresh = ap kind_of (param_same slots s p names ts us) in
        let n : Noted old.notes fresh.notes names = noted_type p.type_use.base p.type_use.array names (behind ts (spell_marks p.marks)) (behind us (spell_marks new.marks)) (local_notes (place_local_marks ts p.marks)) (local_notes (place_local_marks us new.marks)) (noted_locals ts us p.marks (leading names p.type_use.array)) in
        slots_append k (value_slots hs secret old) rest (value_slots gs secret' fresh) _
        (value_new k secret secret' old fresh e alike n (stands_left k (value_slots hs secret old) rest h))
        (params_new ps secret secret' (k + length (value_slots hs secret old)) (behind ts (spell_parameter_through p)) (behind us (spell_parameter_through new)) e (stands_right k (value_slots hs secret old) rest h))
      where
        kind_of : ParamHead → TypeHead
        kind_of p = p.kind
