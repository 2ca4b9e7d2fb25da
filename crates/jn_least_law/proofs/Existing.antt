-- The least words above the packed start hold the least signature.
use Rattle.std.proofs.Common.{◌≡◌, ◌⊎◌, inl, inr, ⊎_elim, ℕ, zero, suc, ◌+◌, ◌*◌, ◌/◌, ◌%◌, ◌^◌, ◌<◌, ◌≤◌, List, length, get_or, refl, sym, ap, ◌∙◌, subst, arith}
use Rattle.std.proofs.lemmas.Bool.{cases_lt}
use Rattle.std.proofs.lemmas.List.{get_or_past}
use Rattle.jn_quals.specs.Qualifier.{Qualifier, of_bits}
use Rattle.jn_quals.specs.Order.{no_qual, join}
use Rattle.jn_quals.specs.Word.{unpack}
use Rattle.jn_quals.proofs.Words.{pack_other, pack_same, pack_small}
use Rattle.jn_points.specs.Regular.{Regular}
use Rattle.jn_points.specs.declared.program.Program.{Program}
use Rattle.jn_sigs.specs.Packed.{ArePacked, at_slot, unpacked}
use Rattle.jn_sigs.specs.Signature.{start_signature}
use Rattle.jn_tables_law.proofs.Inferring.{regular_inferable}
use Rattle.jn_inference_law.specs.Inference.{inference, words_for}
use Rattle.jn_inference_law.specs.Solution.{IsLeastSignature}
use Rattle.jn_inference_law.proofs.LeastSignature.{least_signature, length-start}
use Rattle.jn_inference_law.proofs.WordsOf.{laid, length-words_of, words_of, words_of-unpacked, words_of-word}
use Rattle.jn_sigtable.specs.System.{least}

nothing_packed : (j : ℕ) → unpack 0 j ≡ no_qual
nothing_packed j = let e : 0 / 2 ^ (3 * j) ≡ 0 = omega arith in ap (λ m. of_bits (m % 8)) e

-- a word of n qualifiers has none after them
laid_after : (q : ℕ → Qualifier) (n j : ℕ) → n ≤ j → unpack (laid q n) j ≡ no_qual
unfolding laid
laid_after q zero j le = nothing_packed j
laid_after q (suc n) j le = pack_other (laid q n) n j (q n) (λ e. omega (arith, e, le)) ∙ laid_after q n j (omega (arith, le))

-- nor where the list has none
laid_none : (q : ℕ → Qualifier) (n j : ℕ) → q j ≡ no_qual → unpack (laid q n) j ≡ no_qual
unfolding laid
laid_none q zero j e = nothing_packed j
laid_none q (suc n) j e = by (cases_lt j n) (laid_none q n j e)
  where
    joined : (p : Qualifier) → join no_qual p ≡ p
    joined p = refl

    by : (j < n) ⊎ (n ≤ j) → unpack (laid q n) j ≡ no_qual → unpack (laid q (suc n)) j ≡ no_qual
    by (inl low) rest = pack_other (laid q n) n j (q n) (λ same. omega (arith, same, low)) ∙ rest
    by (inr high) rest = ⊎_elim
        (λ (over : n < j). laid_after q (suc n) j (omega (arith, over)))
        (λ (under : j ≤ n).
        let same : j ≡ n = omega (arith, under, high) in
        ap (unpack (laid q (suc n))) same ∙ pack_same (laid q n) n (q n) ∙ ap (λ p. join p (q n)) (laid_after q n n (omega arith)) ∙ joined (q n) ∙ ap q (sym same) ∙ e)
        (cases_lt n j)

laid_small : (q : ℕ → Qualifier) (n : ℕ) → n ≤ 21 → laid q n < 2 ^ 63
unfolding laid
laid_small q zero le = omega arith
laid_small q (suc n) le = pack_small (laid q n) n 63 (q n) (laid_small q n (omega (arith, le))) (omega (arith, le))

module _ (t : List Qualifier) where
  empty_after : (i : ℕ) → length t ≤ i → at_slot (words_of t) i ≡ no_qual
  empty_after i past = ⊎_elim
      (λ inside.
      let split : 21 * (i / 21) + i % 21 ≡ i = omega arith in
      ap (λ w. unpack w (i % 21)) (words_of-word t (i / 21) inside)
      ∙ laid_none (λ j. get_or t (21 * (i / 21) + j) no_qual) 21 (i % 21) (ap (λ k. get_or t k no_qual) split ∙ get_or_past t i no_qual past))
      (λ outside. ap (λ w. unpack w (i % 21)) (get_or_past (words_of t) (i / 21) 0 (let long = length-words_of t in omega (arith, outside, long))) ∙ nothing_packed (i % 21))
      (cases_lt (i / 21) (words_for (length t)))

  word_small : (w : ℕ) → get_or (words_of t) w 0 < 2 ^ 63
  word_small w = ⊎_elim
      (λ inside. subst (λ n. n < 2 ^ 63) (sym (words_of-word t w inside)) (laid_small (λ j. get_or t (21 * w + j) no_qual) 21 (omega arith)))
      (λ outside. let none = get_or_past (words_of t) w 0 (let long = length-words_of t in omega (arith, outside, long)) in subst (λ n. n < 2 ^ 63) (sym none) (omega arith))
      (cases_lt w (words_for (length t)))

  are_packed : ArePacked (words_of t) (length t)
  are_packed = record { enough = length-words_of t; empty = empty_after; top = word_small }

module _ (P : Program) (R : Regular P) where
  abbrev start : List ℕ
  start = words_of (start_signature P)

  pub exists : (s : List Qualifier) × IsLeastSignature P s
  exists =
      let long = length-start P in
      let packed : ArePacked start (length P.slots) = subst (ArePacked start) long (are_packed (start_signature P)) in
      let view : unpacked start (length P.slots) ≡ start_signature P = subst (λ n. unpacked start n ≡ start_signature P) long (words_of-unpacked (start_signature P)) in
      (unpacked (least (inference P) start) (length P.slots), least_signature P (regular_inferable P R) start packed view)
