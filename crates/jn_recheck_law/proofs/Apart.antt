-- A task stands apart from bits that belong to no slot that it can reach.
use Rattle.std.proofs.Common.{◌≡◌, ℕ, ◌+◌, ◌*◌, ◌/◌, ◌%◌, ◌^◌, ◌<◌, ◌≤◌, Bool, true, false, cond, eqb, List, [], ◌∷◌, ◌++◌, length, Option, Some, None, bit_and, bit_xor, ⊎_elim, sym, ap, ◌∙◌, arith}
use Rattle.std.specs.Prelude.{flat_map, slice_get, slice_index_or}
use Rattle.std.specs.Int.{bit_at}
use Rattle.std.proofs.lemmas.Bool.{cases_lt}
use Rattle.std.proofs.lemmas.Nat.{pow_pos, shr-shr}
use Rattle.std.proofs.lemmas.Nat.Bits.{bit_at-lt, bit_at_above, bit_at_and, bit_at_xor}
use Rattle.jn_base.specs.declared.number.SlotNo.{SlotNo}
use Rattle.jn_quals.specs.Qualifier.{Qualifier}
use Rattle.jn_quals.specs.Order.{no_qual, null_only, settle, without_null}
use Rattle.jn_quals.specs.Word.{pack}
use Rattle.jn_quals.proofs.Words.{pack_small}
use Rattle.jn_points.specs.declared.point.Operand.{Operand}
use Rattle.jn_points.specs.declared.point.Point.{Point}
use Rattle.jn_points.specs.declared.point.PointKind.{PointKind}
use Rattle.jn_points.specs.declared.point.PointKind.TheVariants.{Const, Move, Unary, Binary, Concat, SameRef, FieldRead, FieldWrite, StaticRead, StaticWrite, ElemRead, ElemWrite, ArrayLen, NewArray, ArrayOf, New, CtorCall, Call, StrOp, Print, Cast, TestInst, TestNull, Branch, Goto, Return}
use Rattle.jn_points.specs.declared.program.Method.{Method}
use Rattle.jn_points.specs.declared.program.Program.{Program}
use Rattle.jn_points.specs.Lookup.{body_at, field_info, method_at, method_in, points_of, slots_of}
use Rattle.jn_sigs.specs.Packed.{unpacked}
use Rattle.jn_env.specs.Environment.{Env}
use Rattle.jn_env.specs.Keys.{is_on, own_keys}
use Rattle.jn_env.specs.Order.{Table, env_in, qual_at}
use Rattle.jn_transfer.specs.Contributions.{arg_sends, field_slot_of, is_inferred, kind_sends, receiver_sends, receiver_slot_of, result_slot_of, return_sends, sends, unset_sends}
use Rattle.jn_transfer.specs.Pairs.{override_sends, pair_sends, slot_sends, slots_sends, under}
use Rattle.jn_contrib.specs.Sends.{point_sends, sends_from}
use Rattle.jn_tables_law.specs.Inferable.{least_sends, least_table}
use Rattle.jn_tables_law.specs.Tasks.{is_body_task, task_method, task_sends}
use Rattle.jn_sigtable.specs.System.{Within, bits_for}
use Rattle.jn_sigtable.proofs.Bits.{within_refl}
use Rattle.jn_inference_law.specs.Inference.{inference, task_reads}
use Rattle.jn_inference_law.specs.Packing.{packed}
use Rattle.jn_inference_law.specs.Reading as reading
use Rattle.jn_inference_law.specs.Reading.{body_reads, given_reads, kind_reads, methods_reads, pair_reads, points_reads}
use Rattle.jn_inference_law.proofs.PackingLaws.{SendsWithin, packed_has, packed_low, packed_sends}
use Rattle.jn_recheck_law.specs.Slots.{slot_list, slot_lists}
use Rattle.jn_recheck_law.specs.RuleReads.{field_slots, fields_slots, kind_slots, method_slots, points_slots, rule_reads}
use Rattle.jn_resume.specs.Keepable.{StandsApart}
use Rattle.jn_recheck_law.specs.Unread.{AreUnlost, methods_slots, pair_slots, task_slots}
use Rattle.jn_recheck_law.proofs.Blind.{blind}

-- a bit of a word that none of a slot's three bits is
module _ (lost : ℕ → ℕ) where
  abbrev HasNone : ℕ → Type 0
  HasNone i = lost (i / 21) / 2 ^ (3 * (i % 21)) % 8 ≡ 0

  pub unlost_left : (xs ys : List ℕ) → AreUnlost lost (xs ++ ys) → AreUnlost lost xs
  unlost_left [] ys u = tt
  unlost_left (x ∷ xs) ys u = (u.0, unlost_left xs ys u.1)

  pub unlost_right : (xs ys : List ℕ) → AreUnlost lost (xs ++ ys) → AreUnlost lost ys
  unlost_right [] ys u = u
  unlost_right (x ∷ xs) ys u = unlost_right xs ys u.1

  pub unlost_both : (xs ys : List ℕ) → AreUnlost lost xs → AreUnlost lost ys → AreUnlost lost (xs ++ ys)
  unlost_both [] ys u v = v
  unlost_both (x ∷ xs) ys u v = (u.0, unlost_both xs ys u.1 v)

  -- slots as lists of numbers, said twice
  one_read : (x : Option SlotNo) → AreUnlost lost (slot_list x) → AreUnlost lost (reading.slot_list x)
  one_read None u = tt
  one_read (Some n) u = u

  all_read : (xs : List (Option SlotNo)) → AreUnlost lost (slot_lists xs) → AreUnlost lost (reading.slot_lists xs)
  all_read [] u = tt
  all_read (x ∷ xs) u = unlost_both (reading.slot_list x) (reading.slot_lists xs) (one_read x (unlost_left (slot_list x) (slot_lists xs) u)) (all_read xs (unlost_right (slot_list x) (slot_lists xs) u))

  -- receiver, parameters and result of a method
  module _ (m : Option Method) (u : AreUnlost lost (method_slots m)) where
    receiver_unlost : AreUnlost lost (slot_list (receiver_slot_of m))
    receiver_unlost = unlost_left (slot_list (receiver_slot_of m)) (slot_lists (slots_of m) ++ slot_list (result_slot_of m)) u

    rest_unlost : AreUnlost lost (slot_lists (slots_of m) ++ slot_list (result_slot_of m))
    rest_unlost = unlost_right (slot_list (receiver_slot_of m)) (slot_lists (slots_of m) ++ slot_list (result_slot_of m)) u

    params_unlost : AreUnlost lost (slot_lists (slots_of m))
    params_unlost = unlost_left (slot_lists (slots_of m)) (slot_list (result_slot_of m)) rest_unlost

    result_unlost : AreUnlost lost (slot_list (result_slot_of m))
    result_unlost = unlost_right (slot_lists (slots_of m)) (slot_list (result_slot_of m)) rest_unlost

    given_unlost : AreUnlost lost (given_reads m)
    given_unlost = unlost_both (reading.slot_list (receiver_slot_of m)) (reading.slot_lists (slots_of m)) (one_read (receiver_slot_of m) receiver_unlost) (all_read (slots_of m) params_unlost)

  module _ (P : Program) where
    -- what a task reads is among what it can reach
    kind_unread : (k : PointKind) → AreUnlost lost (kind_slots P k) → AreUnlost lost (kind_reads P k)
    kind_unread (FieldRead dst r f) u = one_read (field_slot_of (field_info P f.0)) u
    kind_unread (Call dst m r direct args) u = one_read (result_slot_of (method_at P m.0)) (result_unlost (method_at P m.0) u)
    kind_unread kind u = tt

    points_unread : (pts : List Point) → AreUnlost lost (points_slots P pts) → AreUnlost lost (points_reads P pts)
    points_unread [] u = tt
    points_unread (pt ∷ pts) u =
        unlost_both (kind_reads P pt.kind) (points_reads P pts)
        (kind_unread pt.kind (unlost_left (kind_slots P pt.kind) (points_slots P pts) u))
        (points_unread pts (unlost_right (kind_slots P pt.kind) (points_slots P pts) u))

    methods_unread : (ks : List ℕ) → AreUnlost lost (methods_slots P ks) → AreUnlost lost (methods_reads P ks)
    methods_unread [] u = tt
    methods_unread (k ∷ ks) u =
        unlost_both (given_reads (method_at P k)) (methods_reads P ks)
        (given_unlost (method_at P k) (unlost_left (method_slots (method_at P k)) (methods_slots P ks) u))
        (methods_unread ks (unlost_right (method_slots (method_at P k)) (methods_slots P ks) u))

    pair_unread : (m : ℕ) → AreUnlost lost (pair_slots P m) → AreUnlost lost (pair_reads P m)
    pair_unread m u =
        unlost_both (reading.slot_list (result_slot_of (method_at P m))) (methods_reads P (under P m))
        (one_read (result_slot_of (method_at P m)) (result_unlost (method_at P m) (unlost_left (method_slots (method_at P m)) (methods_slots P (under P m)) u)))
        (methods_unread (under P m) (unlost_right (method_slots (method_at P m)) (methods_slots P (under P m)) u))

    -- the three parts of what a body can reach
    module _ (b : ℕ) (u : AreUnlost lost (rule_reads P b)) where
      own_unlost : AreUnlost lost (method_slots (method_in P b))
      own_unlost = unlost_left (method_slots (method_in P b)) (points_slots P (points_of (body_at P b)) ++ fields_slots P (own_keys P b)) u

      others : AreUnlost lost (points_slots P (points_of (body_at P b)) ++ fields_slots P (own_keys P b))
      others = unlost_right (method_slots (method_in P b)) (points_slots P (points_of (body_at P b)) ++ fields_slots P (own_keys P b)) u

      points_unlost : AreUnlost lost (points_slots P (points_of (body_at P b)))
      points_unlost = unlost_left (points_slots P (points_of (body_at P b))) (fields_slots P (own_keys P b)) others

      fields_unlost : AreUnlost lost (fields_slots P (own_keys P b))
      fields_unlost = unlost_right (points_slots P (points_of (body_at P b))) (fields_slots P (own_keys P b)) others

      body_unread : AreUnlost lost (body_reads P b)
      body_unread = unlost_both (given_reads (method_in P b)) (points_reads P (points_of (body_at P b))) (given_unlost (method_in P b) own_unlost) (points_unread (points_of (body_at P b)) points_unlost)

    task_unread : (t : ℕ) → AreUnlost lost (task_slots P t) → AreUnlost lost (task_reads P t)
    task_unread t = by (is_body_task P t)
      where
        by : (c : Bool) → AreUnlost lost (cond c (rule_reads P t) (pair_slots P (task_method P t))) → AreUnlost lost (cond c (body_reads P t) (pair_reads P (task_method P t)))
        by true u = body_unread t u
        by false u = pair_unread (task_method P t) u

    -- and so is what it sends to
    abbrev AllSpared : List (ℕ × Qualifier) → Type 0
    AllSpared [] = Unit {0}
    AllSpared (x ∷ xs) = HasNone x.0 × AllSpared xs

    both_spared : (xs ys : List (ℕ × Qualifier)) → AllSpared xs → AllSpared ys → AllSpared (xs ++ ys)
    both_spared [] ys h k = k
    both_spared (x ∷ xs) ys h k = (h.0, both_spared xs ys h.1 k)

    one_spared : (x : Option SlotNo) (q : Qualifier) → AreUnlost lost (slot_list x) → AllSpared (sends P x q)
    one_spared None q u = tt
    one_spared (Some n) q u = go (is_inferred (slice_get P.slots n.0))
      where
        go : (t : Bool) → AllSpared (cond t ((n.0, q) ∷ []) [])
        go true = (u.0, tt)
        go false = tt

    args_spared : (e : Env) (xs : List (Option SlotNo)) (args : List Operand) → AreUnlost lost (slot_lists xs) → AllSpared (arg_sends P e xs args)
    args_spared e [] args u = tt
    args_spared e (x ∷ xs) [] u = tt
    args_spared e (x ∷ xs) (a ∷ args) u =
        both_spared (sends P x (qual_at e a.reg.0)) (arg_sends P e xs args)
        (one_spared x (qual_at e a.reg.0) (unlost_left (slot_list x) (slot_lists xs) u))
        (args_spared e xs args (unlost_right (slot_list x) (slot_lists xs) u))

    receivers_spared : (e : Env) (slot : Option SlotNo) (r : Option Operand) → AreUnlost lost (slot_list slot) → AllSpared (receiver_sends P e slot r)
    receivers_spared e slot None u = tt
    receivers_spared e slot (Some r) u = one_spared slot (without_null (qual_at e r.reg.0)) u

    returns_spared : (e : Env) (slot : Option SlotNo) (v : Option Operand) → AreUnlost lost (slot_list slot) → AllSpared (return_sends P e slot v)
    returns_spared e slot None u = tt
    returns_spared e slot (Some v) u = one_spared slot (qual_at e v.reg.0) u

    unless_spared : (t : Bool) (x : Option SlotNo) (q : Qualifier) → AreUnlost lost (slot_list x) → AllSpared (cond t [] (sends P x q))
    unless_spared true x q u = tt
    unless_spared false x q u = one_spared x q u

    unset_spared : (fs keys : List ℕ) (bits : List Bool) → AreUnlost lost (fields_slots P fs) → AllSpared (unset_sends P fs keys bits)
    unset_spared [] keys bits u = tt
    unset_spared (f ∷ fs) keys bits u =
        both_spared (cond (is_on (λ k. eqb k f) keys bits) [] (sends P (field_slot_of (field_info P f)) null_only)) (unset_sends P fs keys bits)
        (unless_spared (is_on (λ k. eqb k f) keys bits) (field_slot_of (field_info P f)) null_only (unlost_left (field_slots P f) (fields_slots P fs) u))
        (unset_spared fs keys bits (unlost_right (field_slots P f) (fields_slots P fs) u))

    module _ (b : ℕ) (own : AreUnlost lost (method_slots (method_in P b))) (fields : AreUnlost lost (fields_slots P (own_keys P b))) where
      kinds_spared : (e : Env) (k : PointKind) → AreUnlost lost (kind_slots P k) → AllSpared (kind_sends P b e k)
      kinds_spared e (FieldWrite r f v) u = one_spared (field_slot_of (field_info P f.0)) (settle (qual_at e v.reg.0)) u
      kinds_spared e (New dst m args) u = args_spared e (slots_of (method_at P m.0)) args (params_unlost (method_at P m.0) u)
      kinds_spared e (CtorCall m args own) u = args_spared e (slots_of (method_at P m.0)) args (params_unlost (method_at P m.0) u)
      kinds_spared e (Call dst m r direct args) u =
          both_spared (arg_sends P e (slots_of (method_at P m.0)) args) (receiver_sends P e (receiver_slot_of (method_at P m.0)) r)
          (args_spared e (slots_of (method_at P m.0)) args (params_unlost (method_at P m.0) u))
          (receivers_spared e (receiver_slot_of (method_at P m.0)) r (receiver_unlost (method_at P m.0) u))
      kinds_spared e (Return v) u =
          both_spared (return_sends P e (result_slot_of (method_in P b)) v) (unset_sends P (own_keys P b) (own_keys P b) e.assigned)
          (returns_spared e (result_slot_of (method_in P b)) v (result_unlost (method_in P b) own))
          (unset_spared (own_keys P b) (own_keys P b) e.assigned fields)
      kinds_spared e (Const dst value) u = tt
      kinds_spared e (Move dst from bound) u = tt
      kinds_spared e (Unary dst neg of) u = tt
      kinds_spared e (Binary dst op l r) u = tt
      kinds_spared e (Concat dst l r) u = tt
      kinds_spared e (SameRef dst eq l r) u = tt
      kinds_spared e (FieldRead dst r f) u = tt
      kinds_spared e (StaticRead dst f) u = tt
      kinds_spared e (StaticWrite f v) u = tt
      kinds_spared e (ElemRead dst r i) u = tt
      kinds_spared e (ElemWrite r i v) u = tt
      kinds_spared e (ArrayLen dst r) u = tt
      kinds_spared e (NewArray dst base n) u = tt
      kinds_spared e (ArrayOf dst base xs) u = tt
      kinds_spared e (StrOp dst op of other) u = tt
      kinds_spared e (Print of) u = tt
      kinds_spared e (Cast dst of c) u = tt
      kinds_spared e (TestInst of c og at_yes at_no) u = tt
      kinds_spared e (TestNull of og at_null at_value) u = tt
      kinds_spared e (Branch of at_yes at_no) u = tt
      kinds_spared e (Goto to) u = tt

      point_spared : (pt : Point) (o : Option Env) → AreUnlost lost (kind_slots P pt.kind) → AllSpared (point_sends P b pt o)
      point_spared pt None u = tt
      point_spared pt (Some e) u = kinds_spared e pt.kind u

      from_spared : (pts : List Point) (p : ℕ) (T : Table) → AreUnlost lost (points_slots P pts) → AllSpared (sends_from P b pts p T)
      from_spared [] p T u = tt
      from_spared (pt ∷ pts) p T u =
          both_spared (point_sends P b pt (env_in T p)) (sends_from P b pts (p + 1) T)
          (point_spared pt (env_in T p) (unlost_left (kind_slots P pt.kind) (points_slots P pts) u))
          (from_spared pts (p + 1) T (unlost_right (kind_slots P pt.kind) (points_slots P pts) u))

    body_spared : (s : List Qualifier) (b : ℕ) → AreUnlost lost (rule_reads P b) → AllSpared (least_sends P s b)
    unfolding least_sends
    body_spared s b u = from_spared b (own_unlost b u) (fields_unlost b u) (points_of (body_at P b)) 0 (least_table P s b) (points_unlost b u)

    -- of an overriding method
    module _ (s : List Qualifier) where
      slot_spared : (x y : Option SlotNo) → AreUnlost lost (slot_list y) → AllSpared (slot_sends P s x y)
      slot_spared None y u = tt
      slot_spared (Some n) y u = one_spared y (slice_index_or s n.0 no_qual) u

      slots_spared : (xs ys : List (Option SlotNo)) → AreUnlost lost (slot_lists ys) → AllSpared (slots_sends P s xs ys)
      slots_spared [] ys u = tt
      slots_spared (x ∷ xs) [] u = tt
      slots_spared (x ∷ xs) (y ∷ ys) u =
          both_spared (slot_sends P s x y) (slots_sends P s xs ys)
          (slot_spared x y (unlost_left (slot_list y) (slot_lists ys) u))
          (slots_spared xs ys (unlost_right (slot_list y) (slot_lists ys) u))

      override_spared : (over lower : Option Method) → AreUnlost lost (method_slots over) → AreUnlost lost (method_slots lower) → AllSpared (override_sends P s over lower)
      override_spared over lower u v =
          let a = slots_sends P s (slots_of lower) (slots_of over) in
          let b = slot_sends P s (receiver_slot_of lower) (receiver_slot_of over) in
          both_spared (a ++ b) (slot_sends P s (result_slot_of over) (result_slot_of lower))
          (both_spared a b (slots_spared (slots_of lower) (slots_of over) (params_unlost over u)) (slot_spared (receiver_slot_of lower) (receiver_slot_of over) (receiver_unlost over u)))
          (slot_spared (result_slot_of over) (result_slot_of lower) (result_unlost lower v))

      all_spared : (m : ℕ) (ks : List ℕ) → AreUnlost lost (method_slots (method_at P m)) → AreUnlost lost (methods_slots P ks) → AllSpared (flat_map (λ k. override_sends P s (method_at P m) (method_at P k)) ks)
      all_spared m [] u v = tt
      all_spared m (k ∷ ks) u v =
          both_spared (override_sends P s (method_at P m) (method_at P k)) (flat_map (λ k. override_sends P s (method_at P m) (method_at P k)) ks)
          (override_spared (method_at P m) (method_at P k) u (unlost_left (method_slots (method_at P k)) (methods_slots P ks) v))
          (all_spared m ks u (unlost_right (method_slots (method_at P k)) (methods_slots P ks) v))

    task_spared : (s : List Qualifier) (t : ℕ) → AreUnlost lost (task_slots P t) → AllSpared (task_sends P s t)
    task_spared s t = by (is_body_task P t)
      where
        by : (c : Bool) → AreUnlost lost (cond c (rule_reads P t) (pair_slots P (task_method P t))) → AllSpared (cond c (least_sends P s t) (pair_sends P s (task_method P t)))
        by true u = body_spared s t u
        by false u = all_spared s (task_method P t) (under P (task_method P t)) (unlost_left (method_slots (method_at P (task_method P t))) (methods_slots P (under P (task_method P t))) u) (unlost_right (method_slots (method_at P (task_method P t))) (methods_slots P (under P (task_method P t))) u)

-- packed bits of slots that are spared are none of these
bit_of : (n k j : ℕ) → n / 2 ^ k / 2 ^ j % 2 ≡ bit_at n (k + j)
bit_of n k j = ap (λ (x : ℕ). x % 2) (shr-shr n k j)

none_of_three : (n k i : ℕ) → n / 2 ^ k % 8 ≡ 0 → k ≤ i → i < k + 3 → bit_at n i ≡ 0
none_of_three n k i e low high =
    ⊎_elim
    (λ (a : i < k + 1). at 0 (omega (arith, a, low)) (omega (arith, e)))
    (λ (a : k + 1 ≤ i). ⊎_elim
    (λ (c : i < k + 2). at 1 (omega (arith, a, c)) (omega (arith, e)))
    (λ (c : k + 2 ≤ i). at 2 (omega (arith, c, high)) (omega (arith, e)))
    (cases_lt i (k + 2)))
    (cases_lt i (k + 1))
  where
    at : (j : ℕ) → i ≡ k + j → n / 2 ^ k / 2 ^ j % 2 ≡ 0 → bit_at n i ≡ 0
    at j s z = ap (bit_at n) s ∙ sym (bit_of n k j) ∙ z

-- the bits that none of these masks has
abbrev clear_of : ℕ → ℕ → ℕ
clear_of bits mask = bit_xor bits (bit_and bits mask)

clear_bit : (bits mask i : ℕ) → bit_at mask i ≡ 0 → bit_at bits i ≤ bit_at (clear_of bits mask) i
clear_bit bits mask i z = omega (arith, z, bit_at_xor bits (bit_and bits mask) i, bit_at_and bits mask i, bit_at-lt bits i)

masked_bit : (bits mask i : ℕ) → bit_at mask i ≡ 1 → bit_at (clear_of bits mask) i ≡ 0
masked_bit bits mask i z = omega (arith, z, bit_at_xor bits (bit_and bits mask) i, bit_at_and bits mask i, bit_at-lt bits i)

spared_within : (bits mask j : ℕ) (q : Qualifier) → mask / 2 ^ (3 * j) % 8 ≡ 0 → Within (pack 0 j q) bits → Within (pack 0 j q) (clear_of bits mask)
spared_within bits mask j q z h i =
    ⊎_elim
    (λ (a : i < 3 * j). let e = packed_low j i q a in omega (arith, e))
    (λ (a : 3 * j ≤ i). ⊎_elim
    (λ (c : i < 3 * j + 3). let p = clear_bit bits mask i (none_of_three mask (3 * j) i z a c) in let k = h i in omega (arith, p, k))
    (λ (c : 3 * j + 3 ≤ i). let e = bit_at_above (pack 0 j q) (3 * j + 3) i (pack_small 0 j (3 * j + 3) q (pow_pos (3 * j + 3)) (omega arith)) c in omega (arith, e))
    (cases_lt i (3 * j + 3)))
    (cases_lt i (3 * j))

module _ (P : Program) (lost : ℕ → ℕ) where
  narrowed : (O : ℕ → ℕ) (xs : List (ℕ × Qualifier)) → AllSpared lost P xs → SendsWithin xs O → SendsWithin xs (λ w. clear_of (O w) (lost w))
  narrowed O [] h s = tt
  narrowed O (x ∷ xs) h s = (spared_within (O (x.0 / 21)) (lost (x.0 / 21)) (x.0 % 21) x.1 h.0 s.0, narrowed O xs h.1 s.1)

  none_packed : (xs : List (ℕ × Qualifier)) → AllSpared lost P xs → (w i : ℕ) → bit_at (lost w) i ≡ 1 → bit_at (bits_for (packed xs) w) i ≡ 0
  none_packed xs h w i z =
      let O : ℕ → ℕ = bits_for (packed xs) in
      let all = packed_has xs (λ v. clear_of (O v) (lost v)) (narrowed O xs h (packed_sends xs O (λ v. within_refl (O v)))) w i in
      let none = masked_bit (O w) (lost w) i z in
      omega (arith, all, none)

pub apart : (P : Program) (lost : ℕ → ℕ) (t : ℕ) → AreUnlost lost (task_slots P t) → StandsApart (inference P) lost t
apart P lost t u = record {
  blind = blind P lost t (task_unread lost P t u);
  silent = λ xs long w lt i z. none_packed P lost (task_sends P (unpacked xs (length P.slots)) t) (task_spared lost P (unpacked xs (length P.slots)) t u) w i z;
}
