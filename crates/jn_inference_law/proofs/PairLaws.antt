-- What overriding methods send: it grows with the signature, depends on the slots that they read alone, and goes to inferred slots.
use Rattle.std.proofs.Common.{◌≡◌, ℕ, zero, suc, ◌<◌, inl, inr, Bool, true, false, cond, List, [], ◌∷◌, ◌++◌, length, Option, Some, None, refl, sym, ap, subst, arith}
use Rattle.std.specs.Prelude.{IsTrue, flat_map, slice_get, slice_index_or}
use Rattle.jn_base.specs.declared.number.SlotNo.{SlotNo}
use Rattle.jn_quals.specs.Qualifier.{Qualifier}
use Rattle.jn_quals.specs.Order.{no_qual, within}
use Rattle.jn_points.specs.declared.program.Method.{Method}
use Rattle.jn_points.specs.declared.program.SlotInfo.{SlotInfo}
use Rattle.jn_points.specs.declared.program.Program.{Program}
use Rattle.jn_points.specs.Lookup.{method_at, slots_of}
use Rattle.jn_env.specs.Order.{QualsWithin}
use Rattle.jn_env.proofs.Order.{quals_at}
use Rattle.jn_transfer.specs.Contributions.{IsSent, is_inferred, receiver_slot_of, result_slot_of, sends}
use Rattle.jn_tables_law.specs.CoveredSend.{CoveredSend}
use Rattle.jn_tables_law.proofs.Sends.{both_covered, if_inferred}
use Rattle.jn_transfer.specs.Pairs.{under, slot_sends, slots_sends, override_sends, pair_sends}
use Rattle.jn_inference_law.specs.Inference.{words_for}
use Rattle.jn_inference_law.specs.Reading.{Agree, slot_list, slot_lists, given_reads, methods_reads, pair_reads}
use Rattle.jn_inference_law.proofs.PackingLaws.{SentBelow}
use Rattle.jn_inference_law.proofs.ReadingLaws.{agree_left, agree_right}

sends_above : (P : Program) (slot : Option SlotNo) (p q : Qualifier) (x : ℕ × Qualifier) → IsTrue (within p q) → IsSent x (sends P slot p) → CoveredSend x (sends P slot q)
sends_above P None p q x w m = absurd m
sends_above P (Some n) p q x w m = if_inferred (is_inferred (slice_get P.slots n.0)) n.0 p q x w m

module _ (P : Program) where
  -- it grows with the signature
  module _ (s t : List Qualifier) (w : QualsWithin s t) (z : ℕ × Qualifier) where
    slot_above : (x y : Option SlotNo) → IsSent z (slot_sends P s x y) → CoveredSend z (slot_sends P t x y)
    slot_above None y m = absurd m
    slot_above (Some n) y m = sends_above P y (slice_index_or s n.0 no_qual) (slice_index_or t n.0 no_qual) z (quals_at s t n.0 w) m

    slots_above : (xs ys : List (Option SlotNo)) → IsSent z (slots_sends P s xs ys) → CoveredSend z (slots_sends P t xs ys)
    slots_above [] ys m = absurd m
    slots_above (x ∷ xs) [] m = absurd m
    slots_above (x ∷ xs) (y ∷ ys) m = both_covered z (slot_sends P s x y) (slots_sends P s xs ys) (slot_sends P t x y) (slots_sends P t xs ys) (slot_above x y) (slots_above xs ys) m

    override_above : (over lower : Option Method) → IsSent z (override_sends P s over lower) → CoveredSend z (override_sends P t over lower)
    override_above over lower m =
        let a = slots_sends P s (slots_of lower) (slots_of over) in
        let b = slot_sends P s (receiver_slot_of lower) (receiver_slot_of over) in
        let c = slots_sends P t (slots_of lower) (slots_of over) in
        let d = slot_sends P t (receiver_slot_of lower) (receiver_slot_of over) in
        both_covered z (a ++ b) (slot_sends P s (result_slot_of over) (result_slot_of lower)) (c ++ d) (slot_sends P t (result_slot_of over) (result_slot_of lower))
        (both_covered z a b c d (slots_above (slots_of lower) (slots_of over)) (slot_above (receiver_slot_of lower) (receiver_slot_of over)))
        (slot_above (result_slot_of over) (result_slot_of lower))
        m

    all_above : (m : ℕ) (ks : List ℕ) → IsSent z (flat_map (λ k. override_sends P s (method_at P m) (method_at P k)) ks) → CoveredSend z (flat_map (λ k. override_sends P t (method_at P m) (method_at P k)) ks)
    all_above m [] h = absurd h
    all_above m (k ∷ ks) h =
        both_covered z (override_sends P s (method_at P m) (method_at P k)) (flat_map (λ k. override_sends P s (method_at P m) (method_at P k)) ks) (override_sends P t (method_at P m) (method_at P k)) (flat_map (λ k. override_sends P t (method_at P m) (method_at P k)) ks)
        (override_above (method_at P m) (method_at P k)) (all_above m ks) h

    pub pairs_grow : (m : ℕ) → IsSent z (pair_sends P s m) → CoveredSend z (pair_sends P t m)
    pairs_grow m h = all_above m (under P m) h

  -- it depends on what it reads alone
  module _ (s t : List Qualifier) where
    slot_as : (x y : Option SlotNo) → Agree s t (slot_list x) → slot_sends P s x y ≡ slot_sends P t x y
    slot_as None y h = refl
    slot_as (Some n) y h = ap (sends P y) h.0

    slots_as : (xs ys : List (Option SlotNo)) → Agree s t (slot_lists xs) → slots_sends P s xs ys ≡ slots_sends P t xs ys
    slots_as [] ys h = refl
    slots_as (x ∷ xs) [] h = refl
    slots_as (x ∷ xs) (y ∷ ys) h =
        let a = slot_as x y (agree_left s t (slot_list x) (slot_lists xs) h) in
        let b = slots_as xs ys (agree_right s t (slot_list x) (slot_lists xs) h) in
        (λ i. a i ++ b i)

    override_as : (over lower : Option Method) → Agree s t (slot_list (result_slot_of over)) → Agree s t (given_reads lower) → override_sends P s over lower ≡ override_sends P t over lower
    override_as over lower r h =
        let a = slots_as (slots_of lower) (slots_of over) (agree_right s t (slot_list (receiver_slot_of lower)) (slot_lists (slots_of lower)) h) in
        let b = slot_as (receiver_slot_of lower) (receiver_slot_of over) (agree_left s t (slot_list (receiver_slot_of lower)) (slot_lists (slots_of lower)) h) in
        let c = slot_as (result_slot_of over) (result_slot_of lower) r in
        (λ i. a i ++ b i ++ c i)

    all_as : (m : ℕ) (ks : List ℕ) → Agree s t (slot_list (result_slot_of (method_at P m))) → Agree s t (methods_reads P ks) → flat_map (λ k. override_sends P s (method_at P m) (method_at P k)) ks ≡ flat_map (λ k. override_sends P t (method_at P m) (method_at P k)) ks
    all_as m [] r h = refl
    all_as m (k ∷ ks) r h =
        let a = override_as (method_at P m) (method_at P k) r (agree_left s t (given_reads (method_at P k)) (methods_reads P ks) h) in
        let b = all_as m ks r (agree_right s t (given_reads (method_at P k)) (methods_reads P ks) h) in
        (λ i. a i ++ b i)

    pub pairs_same : (m : ℕ) → Agree s t (pair_reads P m) → pair_sends P s m ≡ pair_sends P t m
    pairs_same m h =
        let reads = methods_reads P (under P m) in
        all_as m (under P m) (agree_left s t (slot_list (result_slot_of (method_at P m))) reads h) (agree_right s t (slot_list (result_slot_of (method_at P m))) reads h)

  -- it goes to inferred slots alone
  abbrev pub Inferred : List (ℕ × Qualifier) → Type 0
  Inferred [] = Unit {0}
  Inferred (x ∷ xs) = (is_inferred (slice_get P.slots x.0) ≡ true) × Inferred xs

  both_inferred : (xs ys : List (ℕ × Qualifier)) → Inferred xs → Inferred ys → Inferred (xs ++ ys)
  both_inferred [] ys h k = k
  both_inferred (x ∷ xs) ys h k = (h.0, both_inferred xs ys h.1 k)

  one_inferred : (x : Option SlotNo) (q : Qualifier) → Inferred (sends P x q)
  one_inferred None q = tt
  one_inferred (Some n) q = go (is_inferred (slice_get P.slots n.0)) refl
    where
      go : (t : Bool) → is_inferred (slice_get P.slots n.0) ≡ t → Inferred (cond t ((n.0, q) ∷ []) [])
      go true e = (e, tt)
      go false e = tt

  module _ (s : List Qualifier) where
    slot_inferred : (x y : Option SlotNo) → Inferred (slot_sends P s x y)
    slot_inferred None y = tt
    slot_inferred (Some n) y = one_inferred y (slice_index_or s n.0 no_qual)

    slots_inferred : (xs ys : List (Option SlotNo)) → Inferred (slots_sends P s xs ys)
    slots_inferred [] ys = tt
    slots_inferred (x ∷ xs) [] = tt
    slots_inferred (x ∷ xs) (y ∷ ys) = both_inferred (slot_sends P s x y) (slots_sends P s xs ys) (slot_inferred x y) (slots_inferred xs ys)

    override_inferred : (over lower : Option Method) → Inferred (override_sends P s over lower)
    override_inferred over lower =
        let a = slots_sends P s (slots_of lower) (slots_of over) in
        let b = slot_sends P s (receiver_slot_of lower) (receiver_slot_of over) in
        both_inferred (a ++ b) (slot_sends P s (result_slot_of over) (result_slot_of lower))
        (both_inferred a b (slots_inferred (slots_of lower) (slots_of over)) (slot_inferred (receiver_slot_of lower) (receiver_slot_of over)))
        (slot_inferred (result_slot_of over) (result_slot_of lower))

    all_inferred : (m : ℕ) (ks : List ℕ) → Inferred (flat_map (λ k. override_sends P s (method_at P m) (method_at P k)) ks)
    all_inferred m [] = tt
    all_inferred m (k ∷ ks) = both_inferred (override_sends P s (method_at P m) (method_at P k)) (flat_map (λ k. override_sends P s (method_at P m) (method_at P k)) ks) (override_inferred (method_at P m) (method_at P k)) (all_inferred m ks)

  among : (xs : List (ℕ × Qualifier)) (x : ℕ × Qualifier) → Inferred xs → IsSent x xs → is_inferred (slice_get P.slots x.0) ≡ true
  among [] x h m = absurd m
  among (y ∷ xs) x h (inl e) = subst (λ (z : ℕ × Qualifier). is_inferred (slice_get P.slots z.0) ≡ true) (sym e) h.0
  among (y ∷ xs) x h (inr m) = among xs x h.1 m

  pub pairs_inferred : (s : List Qualifier) (m : ℕ) (x : ℕ × Qualifier) → IsSent x (pair_sends P s m) → is_inferred (slice_get P.slots x.0) ≡ true
  pairs_inferred s m x h = among (pair_sends P s m) x (all_inferred s m (under P m)) h

  there_inside : (i : ℕ) (slots : List SlotInfo) → is_inferred (slice_get slots i) ≡ true → i < length slots
  there_inside i [] e = absurd cc
  there_inside zero (x ∷ slots) e = omega arith
  there_inside (suc i) (x ∷ slots) e = let h = there_inside i slots e in omega (arith, h)

  pub pairs_inside : (s : List Qualifier) (m : ℕ) (x : ℕ × Qualifier) → IsSent x (pair_sends P s m) → x.0 < length P.slots
  pairs_inside s m x h = there_inside x.0 P.slots (pairs_inferred s m x h)

  below_words : (xs : List (ℕ × Qualifier)) → Inferred xs → SentBelow (words_for (length P.slots)) xs
  below_words [] h = tt
  below_words (x ∷ xs) h = (let lt = there_inside x.0 P.slots h.0 in omega (arith, lt), below_words xs h.1)

  pub pairs_below : (s : List Qualifier) (m : ℕ) → SentBelow (words_for (length P.slots)) (pair_sends P s m)
  pairs_below s m = below_words (pair_sends P s m) (all_inferred s m (under P m))
