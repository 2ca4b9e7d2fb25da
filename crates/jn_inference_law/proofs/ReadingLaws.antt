-- A body's least table, and so what it sends, depends on the slots that it reads alone.
use Rattle.std.proofs.Common.{◌≡◌, ℕ, zero, suc, ◌+◌, ◌/◌, ◌%◌, ◌<◌, ◌≤◌, true, cond, eqb, List, [], ◌∷◌, ◌++◌, length, Option, Some, None, ⊎_elim, refl, sym, ap, ◌∙◌, arith, eq-eqb}
use Rattle.std.specs.Prelude.{slice_index, slice_index_or, slice_set, replicate}
use Rattle.std.proofs.lemmas.Bool.{cases_lt, or_left, or_right}
use Rattle.std.proofs.lemmas.List.{get_or_past}
use Rattle.jn_base.specs.declared.number.SlotNo.{SlotNo}
use Rattle.jn_quals.specs.Qualifier.{Qualifier}
use Rattle.jn_quals.specs.Order.{no_qual, free_only, null_or_committed, all_quals, without_null, without_free, is_none}
use Rattle.jn_quals.specs.Word.{unpack}
use Rattle.jn_points.specs.declared.point.Point.{Point}
use Rattle.jn_points.specs.declared.point.PointKind.{PointKind}
use Rattle.jn_points.specs.declared.point.PointKind.TheVariants.{Const, Move, Unary, Binary, Concat, SameRef, FieldRead, FieldWrite, StaticRead, StaticWrite, ElemRead, ElemWrite, ArrayLen, NewArray, ArrayOf, New, CtorCall, Call, StrOp, Print, Cast, TestInst, TestNull, Branch, Goto, Return}
use Rattle.jn_points.specs.declared.program.Field.{Field}
use Rattle.jn_points.specs.declared.program.Method.{Method}
use Rattle.jn_points.specs.declared.program.Program.{Program}
use Rattle.jn_points.specs.Lookup.{ctor_of, field_info, flat_field, method_at, method_in, ref_field, regs_of, body_at, points_of, slots_of, static_of}
use Rattle.jn_sigs.specs.Packed.{unpacked}
use Rattle.jn_sigs.specs.Signature.{slot_qual, slot_quals, field_qual_of, result_of, receiver_of}
use Rattle.jn_sigs.proofs.Slots.{length-unpacked, unpacked-at}
use Rattle.jn_env.specs.Environment.{Env}
use Rattle.jn_env.specs.Keys.{is_key, is_on, fact_keys, own_keys, no_bits}
use Rattle.jn_env.specs.Order.{Table, env_in, qual_at}
use Rattle.jn_transfer.specs.Contributions.{field_slot_of, receiver_slot_of, result_slot_of}
use Rattle.jn_transfer.specs.Least.{all_edges, edges_from, flow_all, round, start_table}
use Rattle.jn_transfer.specs.Transfer.{drop_facts, given_quals, less_null, pad_quals, put, put_to, transfer}
use Rattle.jn_fixpoint.specs.Climb.{rounds}
use Rattle.jn_tables_law.specs.Size.{height}
use Rattle.jn_contrib.specs.Sends.{body_sends}
use Rattle.jn_inference_law.specs.Reading.{Agree, slot_list, slot_lists, given_reads, has_word, kind_reads, points_reads, body_reads}
use Rattle.jn_tables_law.specs.Inferable.{least_table, least_sends}
use Rattle.jn_inference_law.specs.Inference.{words_for}

module _ (s t : List Qualifier) where
  pub agree_left : (xs ys : List ℕ) → Agree s t (xs ++ ys) → Agree s t xs
  agree_left [] ys h = tt
  agree_left (x ∷ xs) ys h = (h.0, agree_left xs ys h.1)

  pub agree_right : (xs ys : List ℕ) → Agree s t (xs ++ ys) → Agree s t ys
  agree_right [] ys h = h
  agree_right (x ∷ xs) ys h = agree_right xs ys h.1

  slot_same : (x : Option SlotNo) → Agree s t (slot_list x) → slot_qual s x ≡ slot_qual t x
  slot_same None h = refl
  slot_same (Some n) h = h.0

  slots_same : (xs : List (Option SlotNo)) → Agree s t (slot_lists xs) → slot_quals s xs ≡ slot_quals t xs
  slots_same [] h = refl
  slots_same (x ∷ xs) h = (λ i. slot_same x (agree_left (slot_list x) (slot_lists xs) h) i ∷ slots_same xs (agree_right (slot_list x) (slot_lists xs) h) i)

  field_same : (o : Option Field) → Agree s t (slot_list (field_slot_of o)) → field_qual_of s o ≡ field_qual_of t o
  field_same None h = refl
  field_same (Some f) h = slot_same f.slot h

  result_same : (o : Option Method) → Agree s t (slot_list (result_slot_of o)) → result_of s o ≡ result_of t o
  result_same None h = refl
  result_same (Some m) h = slot_same m.result_slot h

  receiver_same : (o : Option Method) → Agree s t (slot_list (receiver_slot_of o)) → receiver_of s o ≡ receiver_of t o
  receiver_same None h = refl
  receiver_same (Some m) h = slot_same m.receiver h

  given_same : (o : Option Method) → Agree s t (given_reads o) → given_quals s o ≡ given_quals t o
  given_same o h =
      let r = receiver_same o (agree_left (slot_list (receiver_slot_of o)) (slot_lists (slots_of o)) h) in
      let q = slots_same (slots_of o) (agree_right (slot_list (receiver_slot_of o)) (slot_lists (slots_of o)) h) in
      (λ i. cond (static_of o) (q i) (cond (ctor_of o) free_only (r i) ∷ q i))

  module _ (P : Program) (b : ℕ) where
    edge_same : (k : PointKind) (p : ℕ) (e : Env) → Agree s t (kind_reads P k) → transfer P s b k p e ≡ transfer P t b k p e
    edge_same (Const dst value) p e h = refl
    edge_same (Move dst from bound) p e h = refl
    edge_same (Unary dst neg of) p e h = refl
    edge_same (Binary dst op l r) p e h = refl
    edge_same (Concat dst l r) p e h = refl
    edge_same (SameRef dst eq l r) p e h = refl
    edge_same (FieldRead dst r f) p e h =
        let k : Qualifier = without_null (qual_at e r.reg.0) in
        ap (λ (q : Qualifier). (p + 1, put P b e dst.0 (less_null (is_on (is_key r.reg.0 f.0) (fact_keys P b) e.facts) (cond (ref_field P f.0) (cond (is_none k) no_qual (cond k.free (cond (flat_field P f.0) null_or_committed all_quals) (without_free q))) no_qual))) ∷ []) (field_same (field_info P f.0) h)
    edge_same (FieldWrite r f v) p e h = refl
    edge_same (StaticRead dst f) p e h = refl
    edge_same (StaticWrite f v) p e h = refl
    edge_same (ElemRead dst r i) p e h = refl
    edge_same (ElemWrite r i v) p e h = refl
    edge_same (ArrayLen dst r) p e h = refl
    edge_same (NewArray dst base n) p e h = refl
    edge_same (ArrayOf dst base xs) p e h = refl
    edge_same (New dst m args) p e h = refl
    edge_same (CtorCall m args own) p e h = refl
    edge_same (Call dst m r direct args) p e h = ap (λ (q : Qualifier). (p + 1, put_to P b (drop_facts P b e) dst q) ∷ []) (result_same (method_at P m.0) h)
    edge_same (StrOp dst op of other) p e h = refl
    edge_same (Print of) p e h = refl
    edge_same (Cast dst of c) p e h = refl
    edge_same (TestInst of c og at_yes at_no) p e h = refl
    edge_same (TestNull of og at_null at_value) p e h = refl
    edge_same (Branch of at_yes at_no) p e h = refl
    edge_same (Goto to) p e h = refl
    edge_same (Return v) p e h = refl

    from_same : (pt : Point) (p : ℕ) (o : Option Env) → Agree s t (kind_reads P pt.kind) → edges_from P s b pt p o ≡ edges_from P t b pt p o
    from_same pt p None h = refl
    from_same pt p (Some e) h = edge_same pt.kind p e h

    edges_same : (pts : List Point) (p : ℕ) (T : Table) → Agree s t (points_reads P pts) → all_edges P s b pts p T ≡ all_edges P t b pts p T
    edges_same [] p T h = refl
    edges_same (pt ∷ pts) p T h =
        let a = from_same pt p (env_in T p) (agree_left (kind_reads P pt.kind) (points_reads P pts) h) in
        let c = edges_same pts (p + 1) T (agree_right (kind_reads P pt.kind) (points_reads P pts) h) in
        (λ i. a i ++ c i)

    round_same : (T : Table) → Agree s t (points_reads P (points_of (body_at P b))) → round P s b T ≡ round P t b T
    round_same T h = ap (λ (es : List (ℕ × Env)). flow_all es T) (edges_same (points_of (body_at P b)) 0 T h)

    rounds_same : (n : ℕ) (T : Table) → Agree s t (points_reads P (points_of (body_at P b))) → rounds (round P s b) n T ≡ rounds (round P t b) n T
    rounds_same zero T h = refl
    rounds_same (suc n) T h = ap (round P s b) (rounds_same n T h) ∙ round_same (rounds (round P t b) n T) h

    start_same : Agree s t (given_reads (method_in P b)) → start_table P s b ≡ start_table P t b
    start_same h = ap (λ (qs : List Qualifier). start_by qs) (given_same (method_in P b) h)
      where
        start_by : List Qualifier → Table
        start_by qs = slice_set (replicate (length (points_of (body_at P b))) None) 0 (Some (record { quals = pad_quals qs (regs_of (body_at P b)); facts = no_bits (fact_keys P b); assigned = no_bits (own_keys P b) }))

    pub least_same : Agree s t (body_reads P b) → least_table P s b ≡ least_table P t b
    unfolding least_table
    least_same h =
        let g = agree_left (given_reads (method_in P b)) (points_reads P (points_of (body_at P b))) h in
        let r = agree_right (given_reads (method_in P b)) (points_reads P (points_of (body_at P b))) h in
        ap (rounds (round P s b) (height P b)) (start_same g) ∙ rounds_same (height P b) (start_table P t b) r

    pub sends_same : Agree s t (body_reads P b) → least_sends P s b ≡ least_sends P t b
    unfolding least_sends
    sends_same h = ap (body_sends P b) (least_same h)

-- words that agree where a body reads hold signatures that do
module _ (xs ys : List ℕ) (n : ℕ) where
  slot_agrees : (i : ℕ) → (i / 21 < words_for n → slice_index xs (i / 21) ≡ slice_index ys (i / 21)) → slice_index_or (unpacked xs n) i no_qual ≡ slice_index_or (unpacked ys n) i no_qual
  slot_agrees i h = ⊎_elim there past (cases_lt i n)
    where
      there : i < n → slice_index_or (unpacked xs n) i no_qual ≡ slice_index_or (unpacked ys n) i no_qual
      there lt =
          let inside : i / 21 < words_for n = omega (arith, lt) in
          unpacked-at xs n i lt ∙ ap (λ w. unpack w (i % 21)) (h inside) ∙ sym (unpacked-at ys n i lt)

      past : n ≤ i → slice_index_or (unpacked xs n) i no_qual ≡ slice_index_or (unpacked ys n) i no_qual
      past le = get_or_past (unpacked xs n) i no_qual (omega (arith, le, length-unpacked xs n)) ∙ sym (get_or_past (unpacked ys n) i no_qual (omega (arith, le, length-unpacked ys n)))

  pub words_agree : (is : List ℕ) → ((w : ℕ) → w < words_for n → has_word w is ≡ true → slice_index xs w ≡ slice_index ys w) → Agree (unpacked xs n) (unpacked ys n) is
  words_agree [] h = tt
  words_agree (i ∷ is) h = (
    slot_agrees i (λ lt. h (i / 21) lt (or_left (eqb (i / 21) (i / 21)) (has_word (i / 21) is) (eq-eqb (i / 21) (i / 21) refl))),
    words_agree is (λ w lt e. h w lt (or_right (eqb (i / 21) w) (has_word w is) e)),
  )
