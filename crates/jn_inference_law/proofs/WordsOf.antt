-- The words of a list of qualifiers.
use Rattle.std.proofs.Common.{◌≡◌, ◌⊎◌, inl, inr, ⊎_elim, ℕ, zero, suc, ◌+◌, ◌*◌, ◌/◌, ◌%◌, ◌^◌, ◌<◌, ◌≤◌, List, length, map, get_or, refl, sym, ap, ◌∙◌, subst, lit<, arith}
use Rattle.std.specs.Prelude.{IsTrue}
use Rattle.std.specs.Int.{bit_at}
use Rattle.std.specs.List.{range_with_len}
use Rattle.std.proofs.lemmas.Bool.{cases_lt}
use Rattle.std.proofs.lemmas.Nat.{mod_below}
use Rattle.std.proofs.lemmas.Nat.Bits.{bit_at_above}
use Rattle.std.proofs.lemmas.List.{ext_get_or}
use Rattle.std.proofs.lemmas.List.FromFn.{get_or-map-range_with_len, length-map-range_with_len}
use Rattle.jn_quals.specs.Qualifier.{Qualifier, of_bits, to_bits}
use Rattle.jn_quals.specs.Order.{no_qual, within, join}
use Rattle.jn_quals.specs.Word.{unpack, pack}
use Rattle.jn_quals.proofs.Bits.{to-of_bits}
use Rattle.jn_quals.proofs.Words.{pack_same, pack_other}
use Rattle.jn_sigs.specs.Packed.{at_slot, unpacked}
use Rattle.jn_sigs.proofs.Slots.{length-unpacked, unpacked-at}
use Rattle.jn_sigtable.specs.System.{Within}
use Rattle.jn_inference_law.specs.Inference.{words_for}
use Rattle.jn_inference_law.proofs.PackingLaws.{packed_within, packed_high, word_bit}

-- the first n of these qualifiers in one word
unfoldable pub laid : (ℕ → Qualifier) → ℕ → ℕ
laid q zero = 0
laid q (suc n) = pack (laid q n) n (q n)

zero_unpacked : (j : ℕ) → unpack 0 j ≡ no_qual
zero_unpacked j = let e : 0 / 2 ^ (3 * j) ≡ 0 = omega arith in ap (λ m. of_bits (m % 8)) e

laid_past : (q : ℕ → Qualifier) (n j : ℕ) → n ≤ j → unpack (laid q n) j ≡ no_qual
unfolding laid
laid_past q zero j le = zero_unpacked j
laid_past q (suc n) j le = pack_other (laid q n) n j (q n) (λ e. omega (arith, e, le)) ∙ laid_past q n j (omega (arith, le))

laid_at : (q : ℕ → Qualifier) (n j : ℕ) → j < n → unpack (laid q n) j ≡ q j
unfolding laid
laid_at q zero j lt = absurd (omega (arith, lt))
laid_at q (suc n) j lt = go (laid_at q n j) (cases_lt j n)
  where
    joined : (p : Qualifier) → join no_qual p ≡ p
    joined p = refl

    go : (j < n → unpack (laid q n) j ≡ q j) → (j < n) ⊎ (n ≤ j) → unpack (laid q (suc n)) j ≡ q j
    go rest (inl low) = pack_other (laid q n) n j (q n) (λ e. omega (arith, e, low)) ∙ rest low
    go rest (inr high) =
        let e : j ≡ n = omega (arith, lt, high) in
        ap (unpack (laid q (suc n))) e ∙ pack_same (laid q n) n (q n) ∙ ap (λ p. join p (q n)) (laid_past q n n (omega arith)) ∙ joined (q n) ∙ ap q (sym e)

module _ (t : List Qualifier) where
  word_of : ℕ → ℕ
  word_of w = laid (λ j. get_or t (21 * w + j) no_qual) 21

  pub words_of : List ℕ
  words_of = map word_of (range_with_len 0 (words_for (length t)))

  pub length-words_of : length words_of ≡ words_for (length t)
  unfolding words_of
  length-words_of = length-map-range_with_len word_of 0 (words_for (length t))

  pub words_of-word : (w : ℕ) → w < words_for (length t) → get_or words_of w 0 ≡ laid (λ j. get_or t (21 * w + j) no_qual) 21
  unfolding words_of word_of
  words_of-word w lt = get_or-map-range_with_len word_of 0 (words_for (length t)) w w 0 lt (omega arith)

  pub words_of-at : (i : ℕ) → i < length t → at_slot words_of i ≡ get_or t i no_qual
  unfolding words_of word_of
  words_of-at i lt =
      let inside : i / 21 < words_for (length t) = omega (arith, lt) in
      let index : i % 21 < 21 = mod_below i 21 (lit< tt) in
      let e : 21 * (i / 21) + i % 21 ≡ i = omega arith in
      ap (λ w. unpack w (i % 21)) (get_or-map-range_with_len word_of 0 (words_for (length t)) (i / 21) (i / 21) 0 inside (omega arith))
      ∙ laid_at (λ j. get_or t (21 * (i / 21) + j) no_qual) 21 (i % 21) index
      ∙ ap (λ k. get_or t k no_qual) e

  pub words_of-unpacked : unpacked words_of (length t) ≡ t
  words_of-unpacked =
      let long = length-unpacked words_of (length t) in
      ext_get_or no_qual _ _ long (λ i lt.
      let below : i < length t = omega (arith, lt, long) in
      unpacked-at words_of (length t) i below ∙ words_of-at i below)

-- a word of 63 bits is within another where its qualifiers are
low_bit : (m k : ℕ) → k < 3 → bit_at (to_bits (of_bits (m % 8))) k ≡ m / 2 ^ k % 2
low_bit m zero lt = ap (λ n. bit_at n 0) (to-of_bits (m % 8) (mod_below m 8 (lit< tt))) ∙ omega arith
low_bit m (suc zero) lt = ap (λ n. bit_at n 1) (to-of_bits (m % 8) (mod_below m 8 (lit< tt))) ∙ omega arith
low_bit m (suc (suc zero)) lt = ap (λ n. bit_at n 2) (to-of_bits (m % 8) (mod_below m 8 (lit< tt))) ∙ omega arith
low_bit m (suc (suc (suc k))) lt = absurd (omega (arith, lt))

pub word_within : (a b : ℕ) → a < 2 ^ 63 → ((j : ℕ) → j < 21 → IsTrue (within (unpack a j) (unpack b j))) → Within a b
word_within a b small h i = ⊎_elim low high (cases_lt i 63)
  where
    high : 63 ≤ i → bit_at a i ≤ bit_at b i
    high le = let z = bit_at_above a 63 i small le in omega (arith, z)

    low : i < 63 → bit_at a i ≤ bit_at b i
    low lt =
        let j = i / 3 in
        let k = i % 3 in
        let index : k < 3 = mod_below i 3 (lit< tt) in
        let inside : j < 21 = omega (arith, lt) in
        let e : i ≡ 3 * j + k = omega arith in
        let p = packed_within j b (unpack a j) (h j inside) (3 * j + k) in
        let q = packed_high j k (unpack a j) in
        let r = low_bit (a / 2 ^ (3 * j)) k index in
        let s = word_bit a j k in
        let d : bit_at a (3 * j + k) ≤ bit_at b (3 * j + k) = omega arith in
        subst (λ n. bit_at a n ≤ bit_at b n) (sym e) d
