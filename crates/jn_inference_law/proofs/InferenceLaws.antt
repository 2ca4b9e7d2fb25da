-- The laws of inference as a system.
use Rattle.std.proofs.Common.{◌≡◌, ℕ, zero, suc, ◌+◌, ◌/◌, ◌%◌, ◌<◌, ◌≤◌, Bool, true, false, cond, List, [], ◌∷◌, ◌++◌, length, Option, Some, None, inl, inr, ⊎_elim, refl, sym, ap, ◌∙◌, subst, arith}
use Rattle.std.specs.Prelude.{IsTrue, eqb, slice_get, slice_index}
use Rattle.jn_base.specs.declared.number.SlotNo.{SlotNo}
use Rattle.jn_quals.specs.Qualifier.{Qualifier}
use Rattle.jn_quals.specs.Order.{within, null_only, settle, without_null}
use Rattle.jn_quals.specs.Word.{unpack, pack}
use Rattle.jn_quals.proofs.Order.{within_trans}
use Rattle.jn_points.specs.declared.point.Operand.{Operand}
use Rattle.jn_points.specs.declared.point.PointKind.{PointKind}
use Rattle.jn_points.specs.declared.point.PointKind.TheVariants.{Const, Move, Unary, Binary, Concat, SameRef, FieldRead, FieldWrite, StaticRead, StaticWrite, ElemRead, ElemWrite, ArrayLen, NewArray, ArrayOf, New, CtorCall, Call, StrOp, Print, Cast, TestInst, TestNull, Branch, Goto, Return}
use Rattle.jn_points.specs.declared.point.Point.{Point}
use Rattle.std.proofs.lemmas.Bool.{cases_lt, ltb-true}
use Rattle.jn_points.specs.declared.program.Body.{Body}
use Rattle.jn_points.specs.declared.program.SlotInfo.{SlotInfo}
use Rattle.jn_points.specs.declared.program.Program.{Program}
use Rattle.jn_points.specs.Lookup.{field_info, method_at, method_in, slots_of, points_of, body_at}
use Rattle.jn_sigs.specs.Packed.{at_slot, qualifiers_from, unpacked}
use Rattle.jn_env.specs.Environment.{Env}
use Rattle.jn_env.specs.Keys.{is_on, own_keys}
use Rattle.jn_env.specs.Order.{QualsWithin, Table, TableWithin, env_in, qual_at}
use Rattle.jn_env.specs.Weight.{weight}
use Rattle.jn_transfer.specs.Contributions.{IsSent, arg_sends, field_slot_of, is_inferred, kind_sends, receiver_sends, receiver_slot_of, result_slot_of, return_sends, sends, unset_sends}
use Rattle.jn_transfer.specs.Least.{IsLeastTable, round, start_table}
use Rattle.jn_transfer.specs.Sized.{StaysInside}
use Rattle.jn_tables_law.proofs.LeastTables.{least_is}
use Rattle.jn_contrib.specs.Sends.{body_sends, point_sends, sends_from}
use Rattle.jn_tables_law.specs.CoveredSend.{CoveredSend}
use Rattle.jn_tables_law.proofs.Sends.{sent_above}
use Rattle.jn_tables_law.proofs.Tables.{tables_above}
use Rattle.jn_sigtable.specs.System.{IsLawful, Within, Covers, bits_for}
use Rattle.jn_inference_law.specs.Packing.{packed}
use Rattle.jn_inference_law.proofs.PackingLaws.{SendsWithin, SentBelow, packed_has, packed_sends, within_packed, packed_within, words_within, packed_small, packed_once, packed_named}
use Rattle.jn_inference_law.specs.Reading.{body_reads, pair_reads, has_word}
use Rattle.jn_inference_law.proofs.ReadingLaws.{sends_same, words_agree}
use Rattle.jn_transfer.specs.Pairs.{pair_sends}
use Rattle.jn_inference_law.proofs.PairLaws.{pairs_grow, pairs_same, pairs_below}
use Rattle.jn_tables_law.specs.Inferable.{least_table, least_sends, IsInferable}
use Rattle.jn_inference_law.specs.Inference.{words_for, task_reads, inference}
use Rattle.jn_tables_law.specs.Tasks.{is_body_task, task_method, task_sends}

-- what is sent goes to inferred slots
module _ (P : Program) where
  abbrev pub AllInferred : List (ℕ × Qualifier) → Type 0
  AllInferred [] = Unit {0}
  AllInferred (x ∷ xs) = (is_inferred (slice_get P.slots x.0) ≡ true) × AllInferred xs

  append_inferred : (xs ys : List (ℕ × Qualifier)) → AllInferred xs → AllInferred ys → AllInferred (xs ++ ys)
  append_inferred [] ys h k = k
  append_inferred (x ∷ xs) ys h k = (h.0, append_inferred xs ys h.1 k)

  send_inferred : (x : Option SlotNo) (q : Qualifier) → AllInferred (sends P x q)
  send_inferred None q = tt
  send_inferred (Some n) q = go (is_inferred (slice_get P.slots n.0)) refl
    where
      go : (t : Bool) → is_inferred (slice_get P.slots n.0) ≡ t → AllInferred (cond t ((n.0, q) ∷ []) [])
      go true e = (e, tt)
      go false e = tt

  args_inferred : (e : Env) (xs : List (Option SlotNo)) (args : List Operand) → AllInferred (arg_sends P e xs args)
  args_inferred e [] args = tt
  args_inferred e (x ∷ xs) [] = tt
  args_inferred e (x ∷ xs) (a ∷ args) = append_inferred (sends P x (qual_at e a.reg.0)) (arg_sends P e xs args) (send_inferred x (qual_at e a.reg.0)) (args_inferred e xs args)

  receivers_inferred : (e : Env) (slot : Option SlotNo) (r : Option Operand) → AllInferred (receiver_sends P e slot r)
  receivers_inferred e slot None = tt
  receivers_inferred e slot (Some r) = send_inferred slot (without_null (qual_at e r.reg.0))

  returns_inferred : (e : Env) (slot : Option SlotNo) (v : Option Operand) → AllInferred (return_sends P e slot v)
  returns_inferred e slot None = tt
  returns_inferred e slot (Some v) = send_inferred slot (qual_at e v.reg.0)

  unless_inferred : (t : Bool) (x : Option SlotNo) (q : Qualifier) → AllInferred (cond t [] (sends P x q))
  unless_inferred true x q = tt
  unless_inferred false x q = send_inferred x q

  unset_inferred : (fs keys : List ℕ) (bits : List Bool) → AllInferred (unset_sends P fs keys bits)
  unset_inferred [] keys bits = tt
  unset_inferred (f ∷ fs) keys bits =
      append_inferred (cond (is_on (λ k. eqb k f) keys bits) [] (sends P (field_slot_of (field_info P f)) null_only)) (unset_sends P fs keys bits)
      (unless_inferred (is_on (λ k. eqb k f) keys bits) (field_slot_of (field_info P f)) null_only)
      (unset_inferred fs keys bits)

  kinds_inferred : (b : ℕ) (e : Env) (k : PointKind) → AllInferred (kind_sends P b e k)
  kinds_inferred b e (FieldWrite r f v) = send_inferred (field_slot_of (field_info P f.0)) (settle (qual_at e v.reg.0))
  kinds_inferred b e (New dst m args) = args_inferred e (slots_of (method_at P m.0)) args
  kinds_inferred b e (CtorCall m args own) = args_inferred e (slots_of (method_at P m.0)) args
  kinds_inferred b e (Call dst m r direct args) =
      append_inferred (arg_sends P e (slots_of (method_at P m.0)) args) (receiver_sends P e (receiver_slot_of (method_at P m.0)) r)
      (args_inferred e (slots_of (method_at P m.0)) args)
      (receivers_inferred e (receiver_slot_of (method_at P m.0)) r)
  kinds_inferred b e (Return v) =
      append_inferred (return_sends P e (result_slot_of (method_in P b)) v) (unset_sends P (own_keys P b) (own_keys P b) e.assigned)
      (returns_inferred e (result_slot_of (method_in P b)) v)
      (unset_inferred (own_keys P b) (own_keys P b) e.assigned)
  kinds_inferred b e (Const dst value) = tt
  kinds_inferred b e (Move dst from bound) = tt
  kinds_inferred b e (Unary dst neg of) = tt
  kinds_inferred b e (Binary dst op l r) = tt
  kinds_inferred b e (Concat dst l r) = tt
  kinds_inferred b e (SameRef dst eq l r) = tt
  kinds_inferred b e (FieldRead dst r f) = tt
  kinds_inferred b e (StaticRead dst f) = tt
  kinds_inferred b e (StaticWrite f v) = tt
  kinds_inferred b e (ElemRead dst r i) = tt
  kinds_inferred b e (ElemWrite r i v) = tt
  kinds_inferred b e (ArrayLen dst r) = tt
  kinds_inferred b e (NewArray dst base n) = tt
  kinds_inferred b e (ArrayOf dst base xs) = tt
  kinds_inferred b e (StrOp dst op of other) = tt
  kinds_inferred b e (Print of) = tt
  kinds_inferred b e (Cast dst of c) = tt
  kinds_inferred b e (TestInst of c og at_yes at_no) = tt
  kinds_inferred b e (TestNull of og at_null at_value) = tt
  kinds_inferred b e (Branch of at_yes at_no) = tt
  kinds_inferred b e (Goto to) = tt

  point_inferred : (b : ℕ) (pt : Point) (o : Option Env) → AllInferred (point_sends P b pt o)
  point_inferred b pt None = tt
  point_inferred b pt (Some e) = kinds_inferred b e pt.kind

  from_inferred : (b : ℕ) (pts : List Point) (p : ℕ) (T : Table) → AllInferred (sends_from P b pts p T)
  from_inferred b [] p T = tt
  from_inferred b (pt ∷ pts) p T = append_inferred (point_sends P b pt (env_in T p)) (sends_from P b pts (p + 1) T) (point_inferred b pt (env_in T p)) (from_inferred b pts (p + 1) T)

  pub sent_inferred : (s : List Qualifier) (b : ℕ) → AllInferred (least_sends P s b)
  unfolding least_sends
  sent_inferred s b = from_inferred b (points_of (body_at P b)) 0 (least_table P s b)

  inferred_inside : (i : ℕ) (slots : List SlotInfo) → is_inferred (slice_get slots i) ≡ true → i < length slots
  inferred_inside i [] e = absurd cc
  inferred_inside zero (x ∷ slots) e = omega arith
  inferred_inside (suc i) (x ∷ slots) e = let h = inferred_inside i slots e in omega (arith, h)

  inferred_below : (xs : List (ℕ × Qualifier)) → AllInferred xs → SentBelow (words_for (length P.slots)) xs
  inferred_below [] h = tt
  inferred_below (x ∷ xs) h = (let lt = inferred_inside x.0 P.slots h.0 in omega (arith, lt), inferred_below xs h.1)

  pub sent_below : (s : List Qualifier) (b : ℕ) → SentBelow (words_for (length P.slots)) (least_sends P s b)
  sent_below s b = inferred_below (least_sends P s b) (sent_inferred s b)

  inferred_at : (xs : List (ℕ × Qualifier)) (x : ℕ × Qualifier) → AllInferred xs → IsSent x xs → x.0 < length P.slots
  inferred_at [] x h m = absurd m
  inferred_at (y ∷ xs) x h (inl e) = subst (λ (z : ℕ × Qualifier). z.0 < length P.slots) (sym e) (inferred_inside y.0 P.slots h.0)
  inferred_at (y ∷ xs) x h (inr m) = inferred_at xs x h.1 m

  pub sent_inside : (s : List Qualifier) (b : ℕ) (x : ℕ × Qualifier) → IsSent x (least_sends P s b) → x.0 < length P.slots
  sent_inside s b x m = inferred_at (least_sends P s b) x (sent_inferred s b) m

  inferred_among : (xs : List (ℕ × Qualifier)) (x : ℕ × Qualifier) → AllInferred xs → IsSent x xs → is_inferred (slice_get P.slots x.0) ≡ true
  inferred_among [] x h m = absurd m
  inferred_among (y ∷ xs) x h (inl e) = subst (λ (z : ℕ × Qualifier). is_inferred (slice_get P.slots z.0) ≡ true) (sym e) h.0
  inferred_among (y ∷ xs) x h (inr m) = inferred_among xs x h.1 m

  pub inferred_sent : (s : List Qualifier) (b : ℕ) (x : ℕ × Qualifier) → IsSent x (least_sends P s b) → is_inferred (slice_get P.slots x.0) ≡ true
  inferred_sent s b x m = inferred_among (least_sends P s b) x (sent_inferred s b) m

-- greater words hold a greater signature
quals_from_within : (xs ys : List ℕ) (i n : ℕ) → ((k : ℕ) → k < i + n → IsTrue (within (at_slot xs k) (at_slot ys k))) → QualsWithin (qualifiers_from xs i n) (qualifiers_from ys i n)
quals_from_within xs ys i zero h = tt
quals_from_within xs ys i (suc n) h = (h i (omega arith), quals_from_within xs ys (i + 1) n (λ k lt. h k (omega (arith, lt))))

pub quals_within : (xs ys : List ℕ) (n : ℕ) → Covers (words_for n) xs ys → QualsWithin (unpacked xs n) (unpacked ys n)
quals_within xs ys n h = quals_from_within xs ys 0 n (λ k lt. words_within (slice_index xs (k / 21)) (slice_index ys (k / 21)) (k % 21) (h (k / 21) (omega (arith, lt))))

-- what is covered is within all words that have what covers it
sent_at : (ys : List (ℕ × Qualifier)) (W : ℕ → ℕ) (y : ℕ × Qualifier) → SendsWithin ys W → IsSent y ys → Within (pack 0 (y.0 % 21) y.1) (W (y.0 / 21))
sent_at [] W y h m = absurd m
sent_at (z ∷ ys) W y h (inl e) = subst (λ (x : ℕ × Qualifier). Within (pack 0 (x.0 % 21) x.1) (W (x.0 / 21))) (sym e) h.0
sent_at (z ∷ ys) W y h (inr m) = sent_at ys W y h.1 m

covered_within : (xs ys : List (ℕ × Qualifier)) (W : ℕ → ℕ) → ((x : ℕ × Qualifier) → IsSent x xs → CoveredSend x ys) → SendsWithin ys W → SendsWithin xs W
covered_within [] ys W c h = tt
covered_within (x ∷ xs) ys W c h =
    let d = c x (inl refl) in
    let q = within_packed (x.0 % 21) (W (x.0 / 21)) d.qual (sent_at ys W (x.0, d.qual) h d.there) in
    (packed_within (x.0 % 21) (W (x.0 / 21)) x.1 (within_trans x.1 d.qual (unpack (W (x.0 / 21)) (x.0 % 21)) d.above q), covered_within xs ys W (λ y m. c y (inr m)) h)

module _ (P : Program) (can : IsInferable P) where
  sends_grow : (s t : List Qualifier) (b : ℕ) → b < length P.bodies → QualsWithin s t → (x : ℕ × Qualifier) → IsSent x (least_sends P s b) → CoveredSend x (least_sends P t b)
  unfolding least_sends
  sends_grow s t b lt w x m =
      let inside = can.inside b lt in
      sent_above P b (least_table P s b) (least_table P t b) (tables_above P s t b w (least_table P s b) (least_table P t b) inside (least_is P s b inside) (least_is P t b inside)) x m

  module _ (t : ℕ) where
    -- a task below the number of bodies is a body
    low : is_body_task P t ≡ true → t < length P.bodies
    low e = ltb-true t (length P.bodies) e

    below_words : (s : List Qualifier) → SentBelow (words_for (length P.slots)) (task_sends P s t)
    below_words s = by (is_body_task P t)
      where
        by : (c : Bool) → SentBelow (words_for (length P.slots)) (cond c (least_sends P s t) (pair_sends P s (task_method P t)))
        by true = sent_below P s t
        by false = pairs_below P s (task_method P t)

    task_grows : (s u : List Qualifier) → QualsWithin s u → (x : ℕ × Qualifier) → IsSent x (task_sends P s t) → CoveredSend x (task_sends P u t)
    task_grows s u w x = by (is_body_task P t) refl
      where
        by : (c : Bool) → is_body_task P t ≡ c → IsSent x (cond c (least_sends P s t) (pair_sends P s (task_method P t))) → CoveredSend x (cond c (least_sends P u t) (pair_sends P u (task_method P t)))
        by true e m = sends_grow s u t (low e) w x m
        by false e m = pairs_grow P s u w x (task_method P t) m

    task_same : (xs ys : List ℕ) → ((w : ℕ) → w < words_for (length P.slots) → has_word w (task_reads P t) ≡ true → slice_index xs w ≡ slice_index ys w) → task_sends P (unpacked xs (length P.slots)) t ≡ task_sends P (unpacked ys (length P.slots)) t
    task_same xs ys = by (is_body_task P t)
      where
        s : List Qualifier
        s = unpacked xs (length P.slots)

        u : List Qualifier
        u = unpacked ys (length P.slots)

        by : (c : Bool) → ((w : ℕ) → w < words_for (length P.slots) → has_word w (cond c (body_reads P t) (pair_reads P (task_method P t))) ≡ true → slice_index xs w ≡ slice_index ys w) → cond c (least_sends P s t) (pair_sends P s (task_method P t)) ≡ cond c (least_sends P u t) (pair_sends P u (task_method P t))
        by true h = sends_same s u P t (words_agree xs ys (length P.slots) (body_reads P t) h)
        by false h = pairs_same P s u (task_method P t) (words_agree xs ys (length P.slots) (pair_reads P (task_method P t)) h)

  pub inference_lawful : IsLawful (inference P)
  inference_lawful = record {
    monotone = λ t xs ys lt lx ly h w _.
        let s = unpacked xs (length P.slots) in
        let u = unpacked ys (length P.slots) in
        packed_has (task_sends P s t) (bits_for (packed (task_sends P u t)))
        (covered_within (task_sends P s t) (task_sends P u t) (bits_for (packed (task_sends P u t)))
        (task_grows t s u (quals_within xs ys (length P.slots) h))
        (packed_sends (task_sends P u t) (bits_for (packed (task_sends P u t))) (λ v i. omega arith))) w;
    reads_only = λ t xs ys lt lx ly h. ap packed (task_same t xs ys h);
    named = λ t xs lt lx. packed_named (words_for (length P.slots)) (task_sends P (unpacked xs (length P.slots)) t) (below_words t (unpacked xs (length P.slots)));
    once = λ t xs lt lx. packed_once (task_sends P (unpacked xs (length P.slots)) t);
    bounded = λ t xs lt lx small w. let h = packed_small (task_sends P (unpacked xs (length P.slots)) t) w in omega (arith, h);
  }
