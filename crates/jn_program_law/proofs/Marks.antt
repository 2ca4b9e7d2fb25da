-- More marks open more slots.
use Rattle.std.proofs.Common.{◌≡◌, ◌⊎◌, inl, inr, ℕ, zero, suc, length, Bool, true, false, cond, not, ◌&&◌, ◌||◌, List, [], ◌∷◌, ◌++◌, Option, Some, None, refl, sym, ap, ◌∙◌, subst, append_assoc, append-nil}
use Rattle.std.specs.Prelude.{flat_map, map, slice_get}
use Rattle.jn_quals.specs.Qualifier.{Qualifier}
use Rattle.jn_quals.specs.Order.{no_qual}
use Rattle.jn_points.specs.declared.program.SlotInfo.{SlotInfo}
use Rattle.jn_trees.specs.declared.declaration.Modifier.{Modifier}
use Rattle.jn_trees.specs.declared.expression.Identifier.{Identifier}
use Rattle.jn_places.specs.Placed.{PlacedMember, PlacedType, PlacedClass, PlacedInterface, PlacedFile}
use Rattle.jn_heads.specs.declared.head.Notes.{Notes}
use Rattle.jn_heads.specs.declared.head.TypeHead.{TypeHead}
use Rattle.jn_heads.specs.declared.head.ParamHead.{ParamHead}
use Rattle.jn_heads.specs.declared.head.FieldHead.{FieldHead}
use Rattle.jn_heads.specs.declared.head.MethodHead.{MethodHead}
use Rattle.jn_heads.specs.declared.head.ClassHead.{ClassHead}
use Rattle.jn_heads.specs.Heads.{all_heads, object_head, string_head, unwritten_constructor}
use Rattle.jn_heads.specs.Extract.{field_heads, method_heads, has_constructor, with_constructor, heads}
use Rattle.jn_heads.specs.Types.{slot_of, is_written, written_qual, field_qual, receiver_qual, value_slots, params_slots, result_slots, receiver_slots, method_slots, methods_slots, field_slots, fields_slots, class_slots, slots_of_all, is_position, has_receiver}
use Rattle.jn_program_law.specs.FileProgram.{program_of_files}
use Rattle.jn_points.specs.Regular.{Regular}
use Rattle.jn_program_law.proofs.SameSlots.{other_regular}
use Rattle.jn_heads.proofs.PrivateMarks.{private_heads}
use Rattle.jn_heads.specs.Inferred.{Opens, infers, is_open, modifiers_of, field_marks, method_marks, class_marks, marks, slots_by}
use Rattle.jn_program_law.specs.FileProgram.{inferring}
use Rattle.jn_base.specs.declared.infer.Infer.{Infer}
use Rattle.jn_base.specs.declared.infer.Infer.TheVariants.{Private, Package}

pub private_program : (files : List PlacedFile) → inferring Private files ≡ program_of_files files
private_program files = ap (λ (hs : List ClassHead). record (program_of_files files) { slots = slots_of_all (heads files) (all_heads hs) }) (private_heads files)

-- more marks: what is opened wasn't null before
abbrev OpensPlain : List SlotInfo → List SlotInfo → Type 0
OpensPlain [] [] = Unit {0}
OpensPlain [] (y ∷ ys) = ⊥
OpensPlain (x ∷ xs) [] = ⊥
OpensPlain (x ∷ xs) (y ∷ ys) = ((y ≡ x) ⊎ ((y ≡ record { start = no_qual; inferred = true }) × (x.start.null ≡ false))) × OpensPlain xs ys

neither : (a b : Bool) → (a || b) ≡ false → (a ≡ false) × (b ≡ false)
neither true b e = absurd cc
neither false b e = (refl, e)

-- where nothing is written, no position may be null
plain_notes : (n : Notes) → is_written n ≡ false → (n.nullable ≡ false) × (n.monotonic ≡ false)
plain_notes n e =
    let all = neither (n.non_null || n.nullable || n.initialized || n.under || n.unknown) n.monotonic e in
    let known = neither (n.non_null || n.nullable || n.initialized || n.under) n.unknown all.0 in
    let over = neither (n.non_null || n.nullable || n.initialized) n.under known.0 in
    let whole = neither (n.non_null || n.nullable) n.initialized over.0 in
    let null = neither n.non_null n.nullable whole.0 in
    (null.1, all.1)

plain_value : (n : Notes) → is_written n ≡ false → (written_qual n).null ≡ false
plain_value n e = (plain_notes n e).0

plain_field : (n : Notes) → is_written n ≡ false → (field_qual n).null ≡ false
plain_field n e = let h = plain_notes n e in (λ i. h.0 i || h.1 i)

opens_refl : (xs : List SlotInfo) → OpensPlain xs xs
opens_refl [] = tt
opens_refl (x ∷ xs) = (inl refl, opens_refl xs)

opens_both : (as' bs xs ys : List SlotInfo) → OpensPlain as' bs → OpensPlain xs ys → OpensPlain (as' ++ xs) (bs ++ ys)
opens_both [] [] xs ys h k = k
opens_both [] (b ∷ bs) xs ys h k = absurd h
opens_both (a ∷ as') [] xs ys h k = absurd h
opens_both (a ∷ as') (b ∷ bs) xs ys h k = (h.0, opens_both as' bs xs ys h.1 k)

opens_slot : (p q : Bool) (n : Notes) (x : Qualifier) → (p ≡ true → q ≡ true) → (is_written n ≡ false → x.null ≡ false) → OpensPlain (slot_of p n x ∷ []) (slot_of q n x ∷ [])
opens_slot true q n x h k = subst (λ (t : Bool). OpensPlain (slot_of true n x ∷ []) (slot_of t n x ∷ [])) (sym (h refl)) (opens_refl (slot_of true n x ∷ []))
opens_slot false false n x h k = opens_refl (slot_of false n x ∷ [])
opens_slot false true n x h k = by (is_written n) k
  where
    by : (w : Bool) → (w ≡ false → x.null ≡ false) → OpensPlain (record { start = x; inferred = false } ∷ []) (cond (true && not w) (record { start = no_qual; inferred = true }) (record { start = x; inferred = false }) ∷ [])
    by true plain = (inl refl, tt)
    by false plain = (inr (refl, plain refl), tt)

opens_if : (c : Bool) (xs ys : List SlotInfo) → OpensPlain xs ys → OpensPlain (cond c xs []) (cond c ys [])
opens_if true xs ys h = h
opens_if false xs ys h = tt

module _ (hs : List ClassHead) (p q : Bool) (up : p ≡ true → q ≡ true) where
  opens_value : (t : TypeHead) → OpensPlain (value_slots hs p t) (value_slots hs q t)
  opens_value t = opens_if (is_position hs t) _ _ (opens_slot p q t.notes (written_qual t.notes) up (plain_value t.notes))

  opens_params : (ps : List ParamHead) → OpensPlain (params_slots hs p ps) (params_slots hs q ps)
  opens_params [] = tt
  opens_params (x ∷ ps) = opens_both (value_slots hs p x.kind) (value_slots hs q x.kind) (params_slots hs p ps) (params_slots hs q ps) (opens_value x.kind) (opens_params ps)

  opens_result : (t : Option TypeHead) → OpensPlain (result_slots hs p t) (result_slots hs q t)
  opens_result None = tt
  opens_result (Some t) = opens_value t

  opens_method : (h : MethodHead) → OpensPlain (method_slots hs (record h { is_private = p })) (method_slots hs (record h { is_private = q }))
  opens_method h =
      opens_both (receiver_slots (record h { is_private = p })) (receiver_slots (record h { is_private = q })) (params_slots hs p h.params ++ result_slots hs p h.result) (params_slots hs q h.params ++ result_slots hs q h.result)
      (opens_if (has_receiver h) _ _ (opens_slot p q h.receiver (receiver_qual h.receiver) up (λ e. refl)))
      (opens_both (params_slots hs p h.params) (params_slots hs q h.params) (result_slots hs p h.result) (result_slots hs q h.result) (opens_params h.params) (opens_result h.result))

  opens_methods : (ms rest more : List MethodHead) → OpensPlain (methods_slots hs rest) (methods_slots hs more) → OpensPlain (methods_slots hs (map (λ (h : MethodHead). record h { is_private = p }) ms ++ rest)) (methods_slots hs (map (λ (h : MethodHead). record h { is_private = q }) ms ++ more))
  opens_methods [] rest more k = k
  opens_methods (m ∷ ms) rest more k = opens_both (method_slots hs (record m { is_private = p })) (method_slots hs (record m { is_private = q })) _ _ (opens_method m) (opens_methods ms rest more k)

  opens_fields : (fs rest more : List FieldHead) → OpensPlain (fields_slots hs rest) (fields_slots hs more) → OpensPlain (fields_slots hs (map (λ (h : FieldHead). record h { is_private = p }) fs ++ rest)) (fields_slots hs (map (λ (h : FieldHead). record h { is_private = q }) fs ++ more))
  opens_fields [] rest more k = k
  opens_fields (f ∷ fs) rest more k = opens_both (field_slots hs (record f { is_private = p })) (field_slots hs (record f { is_private = q })) _ _ (opens_if (is_position hs f.kind) _ _ (opens_slot p q f.kind.notes (field_qual f.kind.notes) up (plain_field f.kind.notes))) (opens_fields fs rest more k)

more_infers : (interface : Bool) (ms : List Modifier) → infers Private interface ms ≡ true → infers Package interface ms ≡ true
more_infers interface ms e = ap (λ (t : Bool). t || is_open interface ms) e

module _ (hs : List ClassHead) (interface : Bool) where
  members_fields : (ms : List PlacedMember) → OpensPlain (fields_slots hs (flat_map (field_marks Private interface) ms)) (fields_slots hs (flat_map (field_marks Package interface) ms))
  members_fields [] = tt
  members_fields (m ∷ ms) = opens_fields hs (infers Private interface (modifiers_of m)) (infers Package interface (modifiers_of m)) (more_infers interface (modifiers_of m)) (field_heads m) _ _ (members_fields ms)

  members_methods : (ms : List PlacedMember) (rest : List MethodHead) → OpensPlain (methods_slots hs (flat_map (method_marks Private interface) ms ++ rest)) (methods_slots hs (flat_map (method_marks Package interface) ms ++ rest))
  members_methods [] rest = opens_refl (methods_slots hs rest)
  members_methods (m ∷ ms) rest =
      let p = method_marks Private interface m in
      let q = method_marks Package interface m in
      let ps = flat_map (method_marks Private interface) ms in
      let qs = flat_map (method_marks Package interface) ms in
      let k = opens_methods hs (infers Private interface (modifiers_of m)) (infers Package interface (modifiers_of m)) (more_infers interface (modifiers_of m)) (method_heads interface m) (ps ++ rest) (qs ++ rest) (members_methods ms rest) in
      subst (λ (xs : List MethodHead). OpensPlain (methods_slots hs xs) (methods_slots hs ((q ++ qs) ++ rest))) (sym (append_assoc p ps rest))
      (subst (λ (ys : List MethodHead). OpensPlain (methods_slots hs (p ++ (ps ++ rest))) (methods_slots hs ys)) (sym (append_assoc q qs rest)) k)

-- marks change no constructor
some_marks : (q : Bool) (ms rest : List MethodHead) → has_constructor (map (λ (h : MethodHead). record h { is_private = q }) ms ++ rest) ≡ has_constructor (ms ++ rest)
some_marks q [] rest = refl
some_marks q (m ∷ ms) rest = ap (λ (t : Bool). m.ctor || t) (some_marks q ms rest)

behind : (ms xs ys : List MethodHead) → has_constructor xs ≡ has_constructor ys → has_constructor (ms ++ xs) ≡ has_constructor (ms ++ ys)
behind [] xs ys e = e
behind (m ∷ ms) xs ys e = ap (λ (t : Bool). m.ctor || t) (behind ms xs ys e)

same_ctors : (infer : Infer) (interface : Bool) (ms : List PlacedMember) → has_constructor (flat_map (method_marks infer interface) ms) ≡ has_constructor (flat_map (method_heads interface) ms)
same_ctors infer interface [] = refl
same_ctors infer interface (m ∷ ms) =
    some_marks (infers infer interface (modifiers_of m)) (method_heads interface m) (flat_map (method_marks infer interface) ms)
    ∙ behind (method_heads interface m) (flat_map (method_marks infer interface) ms) (flat_map (method_heads interface) ms) (same_ctors infer interface ms)

module _ (hs : List ClassHead) where
  opens_with : (n : Identifier) (xs ys : List MethodHead) → has_constructor xs ≡ has_constructor ys → ((rest : List MethodHead) → OpensPlain (methods_slots hs (xs ++ rest)) (methods_slots hs (ys ++ rest))) → OpensPlain (methods_slots hs (with_constructor n xs)) (methods_slots hs (with_constructor n ys))
  opens_with n xs ys e k = by (has_constructor xs) (has_constructor ys) e
    where
      by : (s t : Bool) → s ≡ t → OpensPlain (methods_slots hs (cond s xs (xs ++ unwritten_constructor n ∷ []))) (methods_slots hs (cond t ys (ys ++ unwritten_constructor n ∷ [])))
      by true true e = subst (λ (zs : List MethodHead). OpensPlain (methods_slots hs zs) (methods_slots hs ys)) (append-nil xs) (subst (λ (zs : List MethodHead). OpensPlain (methods_slots hs (xs ++ [])) (methods_slots hs zs)) (append-nil ys) (k []))
      by true false e = absurd cc
      by false true e = absurd cc
      by false false e = k (unwritten_constructor n ∷ [])

  opens_class : (t : PlacedType) → OpensPlain (class_slots hs (class_marks Private t)) (class_slots hs (class_marks Package t))
  opens_class (PlacedClass ms n parent interfaces members s) =
      let p = flat_map (method_marks Private false) members in
      let q = flat_map (method_marks Package false) members in
      opens_both (fields_slots hs (flat_map (field_marks Private false) members)) (fields_slots hs (flat_map (field_marks Package false) members)) (methods_slots hs (with_constructor n p)) (methods_slots hs (with_constructor n q))
      (members_fields hs false members)
      (opens_with n p q (same_ctors Private false members ∙ sym (same_ctors Package false members)) (members_methods hs false members))
  opens_class (PlacedInterface ms n parents members s) =
      let p = flat_map (method_marks Private true) members in
      let q = flat_map (method_marks Package true) members in
      opens_both (fields_slots hs (flat_map (field_marks Private true) members)) (fields_slots hs (flat_map (field_marks Package true) members)) (methods_slots hs p) (methods_slots hs q)
      (members_fields hs true members)
      (subst (λ (zs : List MethodHead). OpensPlain (methods_slots hs zs) (methods_slots hs q)) (append-nil p) (subst (λ (zs : List MethodHead). OpensPlain (methods_slots hs (p ++ [])) (methods_slots hs zs)) (append-nil q) (members_methods hs true members [])))

  opens_types : (ts : List PlacedType) (xs ys : List ClassHead) → OpensPlain (slots_of_all hs xs) (slots_of_all hs ys) → OpensPlain (slots_of_all hs (map (class_marks Private) ts ++ xs)) (slots_of_all hs (map (class_marks Package) ts ++ ys))
  opens_types [] xs ys k = k
  opens_types (t ∷ ts) xs ys k = opens_both (class_slots hs (class_marks Private t)) (class_slots hs (class_marks Package t)) (slots_of_all hs (map (class_marks Private) ts ++ xs)) (slots_of_all hs (map (class_marks Package) ts ++ ys)) (opens_class t) (opens_types ts xs ys k)

  opens_files : (files : List PlacedFile) → OpensPlain (slots_of_all hs (marks Private files)) (slots_of_all hs (marks Package files))
  opens_files [] = tt
  opens_files (f ∷ files) = opens_types f.types (marks Private files) (marks Package files) (opens_files files)

plain_slots : (files : List PlacedFile) → OpensPlain (slots_by Private files) (slots_by Package files)
plain_slots files =
    let hs = heads files in
    opens_both (class_slots hs object_head) (class_slots hs object_head) (slots_of_all hs (string_head ∷ marks Private files)) (slots_of_all hs (string_head ∷ marks Package files)) (opens_refl (class_slots hs object_head))
    (opens_both (class_slots hs string_head) (class_slots hs string_head) (slots_of_all hs (marks Private files)) (slots_of_all hs (marks Package files)) (opens_refl (class_slots hs string_head)) (opens_files hs files))

-- slots that are opened are as many, and those that aren't inferred are as they were
opens_length : (xs ys : List SlotInfo) → OpensPlain xs ys → length ys ≡ length xs
opens_length [] [] h = refl
opens_length [] (y ∷ ys) h = absurd h
opens_length (x ∷ xs) [] h = absurd h
opens_length (x ∷ xs) (y ∷ ys) h = ap suc (opens_length xs ys h.1)

opens_at : (xs ys : List SlotInfo) (n : ℕ) (info : SlotInfo) → OpensPlain xs ys → slice_get ys n ≡ Some info → info.inferred ≡ false → slice_get xs n ≡ Some info
opens_at [] [] n info h at e = at
opens_at [] (y ∷ ys) n info h at e = absurd h
opens_at (x ∷ xs) [] n info h at e = absurd h
opens_at (x ∷ xs) (y ∷ ys) zero info h at e = by h.0
  where
    by : (y ≡ x) ⊎ ((y ≡ record { start = no_qual; inferred = true }) × (x.start.null ≡ false)) → Some x ≡ Some info
    by (inl same) = sym (ap Some same) ∙ at
    by (inr opened) = absurd (let k : y ≡ info = cc in let i = sym (ap (λ (z : SlotInfo). z.inferred) opened.0) ∙ ap (λ (z : SlotInfo). z.inferred) k ∙ e in cc)
opens_at (x ∷ xs) (y ∷ ys) (suc n) info h at e = opens_at xs ys n info h.1 at e

-- what may be null stays as it was
opens_null : (xs ys : List SlotInfo) (n : ℕ) (info : SlotInfo) → OpensPlain xs ys → slice_get xs n ≡ Some info → info.start.null ≡ true → slice_get ys n ≡ Some info
opens_null [] [] n info h at e = at
opens_null [] (y ∷ ys) n info h at e = absurd h
opens_null (x ∷ xs) [] n info h at e = absurd h
opens_null (x ∷ xs) (y ∷ ys) zero info h at e = by h.0
  where
    by : (y ≡ x) ⊎ ((y ≡ record { start = no_qual; inferred = true }) × (x.start.null ≡ false)) → Some y ≡ Some info
    by (inl same) = ap Some same ∙ at
    by (inr opened) = absurd (let k : x ≡ info = cc in let i = sym opened.1 ∙ ap (λ (z : SlotInfo). z.start.null) k ∙ e in cc)
opens_null (x ∷ xs) (y ∷ ys) (suc n) info h at e = opens_null xs ys n info h.1 at e

forgets : (xs ys : List SlotInfo) → OpensPlain xs ys → Opens xs ys
forgets [] [] h = tt
forgets [] (y ∷ ys) h = absurd h
forgets (x ∷ xs) [] h = absurd h
forgets (x ∷ xs) (y ∷ ys) h = (by h.0, forgets xs ys h.1)
  where
    by : (y ≡ x) ⊎ ((y ≡ record { start = no_qual; inferred = true }) × (x.start.null ≡ false)) → (y ≡ x) ⊎ (y ≡ record { start = no_qual; inferred = true })
    by (inl same) = inl same
    by (inr opened) = inr opened.0

pub open_slots : (files : List PlacedFile) → Opens (slots_by Private files) (slots_by Package files)
open_slots files = forgets (slots_by Private files) (slots_by Package files) (plain_slots files)

pub inferring_regular : (infer : Infer) (files : List PlacedFile) → Regular (program_of_files files) → Regular (inferring infer files)
inferring_regular Private files r = subst Regular (sym (private_program files)) r
inferring_regular Package files r =
    let xs = slots_by Private files in
    let ys = slots_by Package files in
    let P = inferring Private files in
    let before = subst Regular (sym (private_program files)) r in
    other_regular P ys (opens_length xs ys (plain_slots files)) (λ n info at e. opens_at xs ys n info (plain_slots files) at e) (λ n info at e. opens_null xs ys n info (plain_slots files) at e) before
