-- Words of signatures have at most three bits for each slot, and so has what workers can raise.
use Rattle.std.proofs.Common.{◌≡◌, ⊎_elim, Bool, true, false, cond, ℕ, zero, suc, ◌+◌, ◌-◌, ◌*◌, ◌^◌, ◌<◌, ◌≤◌, min, List, [], ◌∷◌, length, get_or, refl, sym, ap, ◌∙◌, subst, arith, mul-le-mul_left, zero-mul}
use Rattle.std.specs.Prelude.{IsTrue, replicate, slice_index}
use Rattle.std.specs.Int.{bit_at}
use Rattle.std.proofs.lemmas.Bool.{cases_lt}
use Rattle.std.proofs.lemmas.Nat.{pow_pos}
use Rattle.std.proofs.lemmas.Nat.Bits.{bit_at_or, bit_at-lt, bit_at-zero, bit_at_above}
use Rattle.std.proofs.lemmas.List.{get_or_past, length-replicate}
use Rattle.jn_quals.specs.Qualifier.{Qualifier, to_bits}
use Rattle.jn_quals.specs.Order.{no_qual, all_quals, within}
use Rattle.jn_quals.specs.Word.{pack}
use Rattle.jn_quals.proofs.Order.{within_of}
use Rattle.jn_quals.proofs.Words.{pack_small}
use Rattle.jn_points.specs.declared.program.Program.{Program}
use Rattle.jn_sigs.specs.Packed.{ArePacked, at_slot, unpacked}
use Rattle.jn_sigs.specs.Signature.{start_signature}
use Rattle.jn_env.specs.Order.{QualsWithin}
use Rattle.jn_sigtable.specs.System.{IsClosed as IsClosedWords, least, limit_of, ones_below, ones_in, risen}
use Rattle.jn_sigtable.proofs.LeastWords.{least_is_least, ones_in_le}
use Rattle.jn_transfer.specs.Contributions.{IsSent}
use Rattle.jn_transfer.specs.Pairs.{pair_sends}
use Rattle.jn_inference_law.specs.Inference.{inference, words_for}
use Rattle.jn_tables_law.specs.Tasks.{is_body_task, task_count, task_method, task_sends}
use Rattle.jn_tables_law.specs.Inferable.{least_sends, IsInferable}
use Rattle.jn_inference_law.proofs.PairLaws.{pairs_inside}
use Rattle.jn_inference_law.specs.Packing.{packed}
use Rattle.jn_inference_law.proofs.PackingLaws.{packed_has, packed_low}
use Rattle.jn_inference_law.proofs.InferenceLaws.{inference_lawful, sent_inside}
use Rattle.jn_inference_law.proofs.WordsOf.{laid, words_of, length-words_of, words_of-at, words_of-word}
use Rattle.jn_inference_law.proofs.LeastSignature.{length-start, start_covered, within_sent}

-- ---- bits of one word
-- a number whose bits stand at three places alone
three_places : (k low a : ℕ) → ((i : ℕ) → i < low → bit_at a i ≡ 0) → ((i : ℕ) → low + 3 ≤ i → bit_at a i ≡ 0) → ones_below k a ≤ min 3 (k - low)
unfolding ones_below
three_places zero low a below above = omega arith
three_places (suc k) low a below above =
    let p = three_places k low a below above in
    let q = bit_at-lt a k in
    ⊎_elim
    (λ (h : k < low). let z = below k h in omega arith)
    (λ (h : low ≤ k). ⊎_elim (λ (f : k < low + 3). omega arith) (λ (f : low + 3 ≤ k). let z = above k f in omega arith) (cases_lt k (low + 3)))
    (cases_lt k low)

pack_ones : (k j : ℕ) (q : Qualifier) → ones_below k (pack 0 j q) ≤ 3
pack_ones k j q =
    let small : pack 0 j q < 2 ^ (3 * j + 3) = pack_small 0 j (3 * j + 3) q (pow_pos (3 * j + 3)) (omega arith) in
    let p = three_places k (3 * j) (pack 0 j q) (λ i low. packed_low j i q low) (λ i high. bit_at_above (pack 0 j q) (3 * j + 3) i small high) in
    omega arith

pack_more : (k word j : ℕ) (q : Qualifier) → ones_below k (pack word j q) ≤ ones_below k word + ones_below k (pack 0 j q)
unfolding ones_below
pack_more zero word j q = omega arith
pack_more (suc k) word j q =
    let p = pack_more k word j q in
    let a = bit_at_or word (to_bits q * 2 ^ (3 * j)) k in
    let b = bit_at_or 0 (to_bits q * 2 ^ (3 * j)) k in
    let z = bit_at-zero k in
    omega arith

no_ones : (k a : ℕ) → ((i : ℕ) → bit_at a i ≡ 0) → ones_below k a ≡ 0
unfolding ones_below
no_ones zero a f = refl
no_ones (suc k) a f = let p = no_ones k a f in let q = f k in omega arith

pack_none : (k j : ℕ) → ones_below k (pack 0 j no_qual) ≡ 0
pack_none k j =
    no_ones k (pack 0 j no_qual) (λ i.
    let a = bit_at_or 0 (to_bits no_qual * 2 ^ (3 * j)) i in
    let z = bit_at-zero i in
    let e : to_bits no_qual * 2 ^ (3 * j) ≡ 0 = zero-mul (2 ^ (3 * j)) in
    let f : bit_at (to_bits no_qual * 2 ^ (3 * j)) i ≡ bit_at 0 i = ap (λ (n : ℕ). bit_at n i) e in
    omega arith)

laid_ones : (q : ℕ → Qualifier) (n m : ℕ) → ((j : ℕ) → m ≤ j → q j ≡ no_qual) → ones_below 64 (laid q n) ≤ 3 * min n m
unfolding laid
laid_ones q zero m f = let z = no_ones 64 0 bit_at-zero in omega arith
laid_ones q (suc n) m f =
    let p = laid_ones q n m f in
    let s = pack_more 64 (laid q n) n (q n) in
    ⊎_elim
    (λ (h : n < m). let t = pack_ones 64 n (q n) in omega arith)
    (λ (h : m ≤ n). let t : ones_below 64 (pack 0 n (q n)) ≡ 0 = ap (λ (x : Qualifier). ones_below 64 (pack 0 n x)) (f n h) ∙ pack_none 64 n in omega arith)
    (cases_lt n m)

-- ---- bits of all words
words_ones : (t : List Qualifier) (n : ℕ) → n ≤ words_for (length t) → ones_in n (words_of t) ≤ 3 * min (21 * n) (length t)
unfolding ones_in
words_ones t zero le = omega arith
words_ones t (suc n) le =
    let p = words_ones t n (omega arith) in
    let q = laid_ones (λ j. get_or t (21 * n + j) no_qual) 21 (length t - 21 * n) (λ j past. get_or_past t (21 * n + j) no_qual (omega arith)) in
    let e : ones_below 64 (slice_index (words_of t) n) ≡ ones_below 64 (laid (λ j. get_or t (21 * n + j) no_qual) 21) = ap (ones_below 64) (words_of-word t n (omega arith)) in
    omega arith

-- ---- every bit of every slot
full : ℕ → List Qualifier
full n = replicate n all_quals

full_length : (n : ℕ) → length (full n) ≡ n
unfolding full
full_length n = length-replicate n all_quals

within_all : (q : Qualifier) → IsTrue (within q all_quals)
within_all q = within_of q all_quals (record { null = λ _. refl; committed = λ _. refl; free = λ _. refl })

full_at : (n i : ℕ) → i < n → get_or (full n) i no_qual ≡ all_quals
unfolding full
full_at zero i lt = absurd (omega arith)
full_at (suc n) zero lt = refl
full_at (suc n) (suc i) lt = full_at n i (omega arith)

full_has : (s : List Qualifier) → QualsWithin s (full (length s))
unfolding full
full_has [] = tt
full_has (q ∷ s) = (within_all q, full_has s)

module _ (P : Program) (can : IsInferable P) where
  -- what a task sends goes to slots that are there
  task_inside : (s : List Qualifier) (t : ℕ) (x : ℕ × Qualifier) → IsSent x (task_sends P s t) → x.0 < length P.slots
  task_inside s t x = by (is_body_task P t)
    where
      by : (d : Bool) → IsSent x (cond d (least_sends P s t) (pair_sends P s (task_method P t))) → x.0 < length P.slots
      by true m = sent_inside P s t x m
      by false m = pairs_inside P s (task_method P t) x m

  full_closed : IsClosedWords (inference P) (words_of (full (length P.slots)))
  full_closed =
      let n : ℕ = length P.slots in
      let t : List Qualifier = full n in
      let sends : ℕ → List (ℕ × Qualifier) = λ b. task_sends P (unpacked (words_of t) n) b in
      record {
        count = length-words_of t ∙ ap words_for (full_length n);
        closed = λ b lt w _. packed_has (sends b) (slice_index (words_of t)) (within_sent (sends b) (words_of t) (λ x m.
            let there : x.0 < n = task_inside (unpacked (words_of t) n) b x m in
            let is : at_slot (words_of t) x.0 ≡ all_quals = words_of-at t x.0 (let l = full_length n in omega arith) ∙ full_at n x.0 there in
            subst (λ (q : Qualifier). IsTrue (within x.1 q)) (sym is) (within_all x.1))) w;
      }

  pub limit_is_small : (start : List ℕ) → ArePacked start (length P.slots) → unpacked start (length P.slots) ≡ start_signature P → limit_of (inference P) start ≤ task_count P * (1 + 3 * length P.slots)
  limit_is_small start packed starts =
      let n : ℕ = length P.slots in
      let t : List Qualifier = full n in
      let long : length t ≡ n = full_length n in
      let is = least_is_least (inference P) (inference_lawful P can) start packed.enough (λ w. let h = packed.top w in omega arith) in
      let under : QualsWithin (start_signature P) t = subst (λ (m : ℕ). QualsWithin (start_signature P) (full m)) (length-start P) (full_has (start_signature P)) in
      let p = ones_in_le (words_for n) (least (inference P) start) (words_of t) (is.below (words_of t) full_closed (start_covered P can start packed starts t long under)) in
      let e : words_for (length t) ≡ words_for n = ap words_for long in
      let q = words_ones t (words_for n) (omega arith) in
      let few : risen (inference P) start (least (inference P) start) ≤ 3 * n = omega arith in
      mul-le-mul_left (task_count P) (omega arith)
