-- The packed words of a least signature are the least words.
use Rattle.std.proofs.Common.{◌≡◌, ℕ, ◌+◌, ◌*◌, ◌/◌, ◌%◌, ◌<◌, ◌≤◌, Bool, true, false, cond, List, [], ◌∷◌, length, get_or, inl, inr, ⊎_elim, sym, ap, ◌∙◌, subst, arith}
use Rattle.std.specs.Prelude.{IsTrue, slice_index}
use Rattle.std.proofs.lemmas.Bool.{cases_lt}
use Rattle.std.proofs.lemmas.List.{ext_get_or}
use Rattle.std.proofs.lemmas.Nat.Bits.{same_from_bits}
use Rattle.jn_quals.specs.Qualifier.{Qualifier}
use Rattle.jn_quals.specs.Order.{no_qual, within}
use Rattle.jn_quals.specs.Word.{unpack, pack}
use Rattle.jn_quals.proofs.Order.{nothing_within, within_refl}
use Rattle.jn_points.specs.declared.program.Program.{Program}
use Rattle.jn_sigs.specs.Packed.{ArePacked, at_slot, unpacked}
use Rattle.jn_sigs.specs.Signature.{start_signature}
use Rattle.jn_sigs.proofs.Slots.{unpacked-at}
use Rattle.jn_transfer.specs.Contributions.{IsSent}
use Rattle.jn_transfer.specs.Pairs.{pair_sends}
use Rattle.jn_tables_law.specs.Inferable.{IsInferable, least_sends}
use Rattle.jn_tables_law.specs.Tasks.{is_body_task, task_count, task_method, task_sends}
use Rattle.jn_sigtable.specs.System.{Covers, IsClosed, IsLeast, Within, bits_for, least}
use Rattle.jn_sigtable.proofs.Bits.{within_refl as word_refl, within_trans}
use Rattle.jn_sigtable.proofs.LeastWords.{least_is_least}
use Rattle.jn_inference_law.specs.Inference.{inference, words_for}
use Rattle.jn_inference_law.specs.Packing.{packed}
use Rattle.jn_inference_law.specs.Solution.{IsLeastSignature}
use Rattle.jn_inference_law.proofs.InferenceLaws.{inference_lawful, sent_inside}
use Rattle.jn_inference_law.proofs.LeastSignature.{least_signature, least_unique, within_sent}
use Rattle.jn_inference_law.proofs.PackingLaws.{SendsWithin, packed_has, packed_sends, within_packed, words_within}
use Rattle.jn_inference_law.proofs.PairLaws.{pairs_inside}
use Rattle.jn_inference_law.proofs.WordsOf.{word_within}

-- what is sent into a slot stands in the packed bits of its word
bits_of_sent : (xs : List (ℕ × Qualifier)) (O : ℕ → ℕ) (x : ℕ × Qualifier) → SendsWithin xs O → IsSent x xs → Within (pack 0 (x.0 % 21) x.1) (O (x.0 / 21))
bits_of_sent [] O x h m = absurd m
bits_of_sent (y ∷ xs) O x h (inl e) = subst (λ (z : ℕ × Qualifier). Within (pack 0 (z.0 % 21) z.1) (O (z.0 / 21))) (sym e) h.0
bits_of_sent (y ∷ xs) O x h (inr m) = bits_of_sent xs O x h.1 m

module _ (P : Program) (can : IsInferable P) (start : List ℕ) (packed_start : ArePacked start (length P.slots)) (starts : unpacked start (length P.slots) ≡ start_signature P)
    (s : List Qualifier) (is : IsLeastSignature P s) (words : List ℕ) (packed_words : ArePacked words (length P.slots)) (holds : unpacked words (length P.slots) ≡ s) where
  abbrev L : List ℕ
  L = least (inference P) start

  one : IsLeast (inference P) start L
  one = least_is_least (inference P) (inference_lawful P can) start packed_start.enough (λ w. let h = packed_start.top w in omega (arith, h))

  same_quals : unpacked words (length P.slots) ≡ unpacked L (length P.slots)
  same_quals = holds ∙ least_unique P s (unpacked L (length P.slots)) is (least_signature P can start packed_start starts)

  slot_same : (i : ℕ) → i < length P.slots → at_slot words i ≡ at_slot L i
  slot_same i lt = sym (unpacked-at words (length P.slots) i lt) ∙ ap (λ (u : List Qualifier). get_or u i no_qual) same_quals ∙ unpacked-at L (length P.slots) i lt

  -- each word is within the least one
  slot_within : (i : ℕ) → IsTrue (within (at_slot words i) (at_slot L i))
  slot_within i = ⊎_elim
      (λ (lt : i < length P.slots). subst (λ (q : Qualifier). IsTrue (within (at_slot words i) q)) (slot_same i lt) (within_refl (at_slot words i)))
      (λ (le : length P.slots ≤ i). subst (λ (q : Qualifier). IsTrue (within q (at_slot L i))) (sym (packed_words.empty i le)) (nothing_within (at_slot L i)))
      (cases_lt i (length P.slots))

  below : (w : ℕ) → Within (slice_index words w) (slice_index L w)
  below w = word_within (slice_index words w) (slice_index L w) (packed_words.top w) (λ j low.
      let d : (21 * w + j) / 21 ≡ w = omega (arith, low) in
      let r : (21 * w + j) % 21 ≡ j = omega (arith, low) in
      let e : (ws : List ℕ) → at_slot ws (21 * w + j) ≡ unpack (slice_index ws w) j = λ ws i. unpack (slice_index ws (d i)) (r i) in
      subst (λ (z : Qualifier). IsTrue (within z (unpack (slice_index L w) j))) (e words) (subst (λ (z : Qualifier). IsTrue (within (at_slot words (21 * w + j)) z)) (e L) (slot_within (21 * w + j))))

  -- they are closed
  inside : (t : ℕ) (x : ℕ × Qualifier) → IsSent x (task_sends P (unpacked L (length P.slots)) t) → x.0 < length P.slots
  inside t x = by (is_body_task P t)
    where
      by : (c : Bool) → IsSent x (cond c (least_sends P (unpacked L (length P.slots)) t) (pair_sends P (unpacked L (length P.slots)) (task_method P t))) → x.0 < length P.slots
      by true m = sent_inside P (unpacked L (length P.slots)) t x m
      by false m = pairs_inside P (unpacked L (length P.slots)) (task_method P t) x m

  stands : (t : ℕ) → t < task_count P → (x : ℕ × Qualifier) → IsSent x (task_sends P (unpacked L (length P.slots)) t) → IsTrue (within x.1 (at_slot words x.0))
  stands t lt x m =
      let there : x.0 < length P.slots = inside t x m in
      let low : x.0 / 21 < words_for (length P.slots) = omega (arith, there) in
      let xs = task_sends P (unpacked L (length P.slots)) t in
      let O : ℕ → ℕ = bits_for (packed xs) in
      let bits : Within (pack 0 (x.0 % 21) x.1) (O (x.0 / 21)) = bits_of_sent xs O x (packed_sends xs O (λ v. word_refl (O v))) m in
      let up : Within (pack 0 (x.0 % 21) x.1) (slice_index L (x.0 / 21)) = within_trans _ (O (x.0 / 21)) _ bits (one.closed.closed t lt (x.0 / 21) low) in
      subst (λ (q : Qualifier). IsTrue (within x.1 q)) (sym (slot_same x.0 there)) (within_packed (x.0 % 21) (slice_index L (x.0 / 21)) x.1 up)

  closed : IsClosed (inference P) words
  closed = record {
    count = packed_words.enough;
    closed = λ t lt w _. subst (λ (u : List Qualifier). Within (bits_for (packed (task_sends P u t)) w) (slice_index words w)) (sym same_quals)
        (packed_has (task_sends P (unpacked L (length P.slots)) t) (slice_index words) (within_sent (task_sends P (unpacked L (length P.slots)) t) words (stands t lt)) w);
  }

  -- and have all bits of the start
  starts_in : Covers (words_for (length P.slots)) start words
  starts_in w lt = word_within (slice_index start w) (slice_index words w) (packed_start.top w) (λ j low.
      let d : (21 * w + j) / 21 ≡ w = omega (arith, low) in
      let r : (21 * w + j) % 21 ≡ j = omega (arith, low) in
      let e : (ws : List ℕ) → at_slot ws (21 * w + j) ≡ unpack (slice_index ws w) j = λ ws i. unpack (slice_index ws (d i)) (r i) in
      subst (λ (z : Qualifier). IsTrue (within z (unpack (slice_index words w) j))) (e start) (subst (λ (z : Qualifier). IsTrue (within (at_slot start (21 * w + j)) z)) (e words) (start_within (21 * w + j))))
    where
      start_within : (i : ℕ) → IsTrue (within (at_slot start i) (at_slot words i))
      start_within i = ⊎_elim
          (λ (lt : i < length P.slots).
          let into : i / 21 < words_for (length P.slots) = omega (arith, lt) in
          subst (λ (q : Qualifier). IsTrue (within (at_slot start i) q)) (sym (slot_same i lt)) (words_within (slice_index start (i / 21)) (slice_index L (i / 21)) (i % 21) (one.above (i / 21) into)))
          (λ (le : length P.slots ≤ i). subst (λ (q : Qualifier). IsTrue (within q (at_slot words i))) (sym (packed_start.empty i le)) (nothing_within (at_slot words i)))
          (cases_lt i (length P.slots))

  pub words_are_least : words ≡ least (inference P) start
  words_are_least =
      ext_get_or 0 words L (packed_words.enough ∙ sym one.closed.count) (λ w lt.
      let into : w < words_for (length P.slots) = subst (λ (n : ℕ). w < n) packed_words.enough lt in
      same_from_bits (slice_index words w) (slice_index L w) (λ i.
      let p = below w i in
      let q = one.below words closed starts_in w into i in
      omega (arith, p, q)))
