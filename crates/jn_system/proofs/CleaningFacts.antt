-- Clean words hold the same signature, with zero in each bit of no slot.
use Rattle.std.proofs.Common.{◌≡◌, ℕ, ◌+◌, ◌-◌, ◌*◌, ◌/◌, ◌%◌, ◌^◌, ◌<◌, ◌≤◌, min, List, length, get_or, ⊎_elim, sym, ap, ◌∙◌, subst, lit<, arith}
use Rattle.std.specs.Prelude.{slice_index}
use Rattle.std.proofs.Math.Nat.{pow-le-pow_right}
use Rattle.std.proofs.Math.Pow.{mod-mod-pow}
use Rattle.std.proofs.lemmas.Bool.{cases_lt}
use Rattle.std.proofs.lemmas.Nat.{field_of, mod_below, pow_pos, shr_below}
use Rattle.std.proofs.lemmas.List.{ext_get_or, get_or_past}
use Rattle.std.proofs.lemmas.List.FromFn.{get_or-map-range_with_len, length-map-range_with_len}
use Rattle.jn_quals.specs.Qualifier.{of_bits}
use Rattle.jn_quals.specs.Order.{no_qual}
use Rattle.jn_quals.specs.Word.{unpack}
use Rattle.jn_sigs.specs.Packed.{ArePacked, at_slot, unpacked}
use Rattle.jn_sigs.proofs.Slots.{length-unpacked, unpacked-at}
use Rattle.jn_inference_law.specs.Inference.{words_for}
use Rattle.jn_system.specs.Cleaning.{clean, cleaned}

kept : (u j word : ℕ) → j < u → unpack (word % 2 ^ (3 * u)) j ≡ unpack word j
kept u j word lt =
    let e : 3 * u ≡ (3 * (u - j - 1) + 3) + 3 * j = omega (arith, lt) in
    ap (λ k. of_bits (word % 2 ^ k / 2 ^ (3 * j) % 8)) e
    ∙ ap (λ m. of_bits (m % 8)) (field_of word (3 * (u - j - 1) + 3) (3 * j))
    ∙ ap of_bits (mod-mod-pow (word / 2 ^ (3 * j)) (3 * (u - j - 1)) 3)

gone : (u j word : ℕ) → u ≤ j → unpack (word % 2 ^ (3 * u)) j ≡ no_qual
gone u j word le =
    let below : word % 2 ^ (3 * u) < 2 ^ (3 * u) = mod_below word (2 ^ (3 * u)) (pow_pos (3 * u)) in
    let more : 2 ^ (3 * u) ≤ 2 ^ (0 + 3 * j) = pow-le-pow_right (lit< tt) (omega (arith, le)) in
    let small : word % 2 ^ (3 * u) / 2 ^ (3 * j) < 2 ^ 0 = shr_below (word % 2 ^ (3 * u)) 0 (3 * j) (omega (arith, below, more)) in
    let none : word % 2 ^ (3 * u) / 2 ^ (3 * j) ≡ 0 = omega (arith, small) in
    ap (λ m. of_bits (m % 8)) none

zero_unpacked : (j : ℕ) → unpack 0 j ≡ no_qual
zero_unpacked j = gone 0 j 0 (omega arith)

module _ (slots : ℕ) (words : List ℕ) where
  pub length-cleaned : length (cleaned slots words) ≡ words_for slots
  length-cleaned = length-map-range_with_len (λ w. clean slots w (slice_index words w)) 0 (words_for slots)

  pub cleaned-at : (w : ℕ) → w < words_for slots → get_or (cleaned slots words) w 0 ≡ clean slots w (slice_index words w)
  cleaned-at w lt = get_or-map-range_with_len (λ v. clean slots v (slice_index words v)) 0 (words_for slots) w w 0 lt (omega arith)

  slot_kept : (i : ℕ) → i < slots → at_slot (cleaned slots words) i ≡ at_slot words i
  slot_kept i lt =
      ap (λ w. unpack w (i % 21)) (cleaned-at (i / 21) (omega (arith, lt)))
      ∙ kept (min 21 (slots - 21 * (i / 21))) (i % 21) (slice_index words (i / 21)) (omega (arith, lt))

  slot_gone : (i : ℕ) → slots ≤ i → at_slot (cleaned slots words) i ≡ no_qual
  slot_gone i le = ⊎_elim there past (cases_lt (i / 21) (words_for slots))
    where
      there : i / 21 < words_for slots → at_slot (cleaned slots words) i ≡ no_qual
      there lt =
          ap (λ w. unpack w (i % 21)) (cleaned-at (i / 21) lt)
          ∙ gone (min 21 (slots - 21 * (i / 21))) (i % 21) (slice_index words (i / 21)) (omega (arith, le, lt))

      past : words_for slots ≤ i / 21 → at_slot (cleaned slots words) i ≡ no_qual
      past far =
          ap (λ w. unpack w (i % 21)) (get_or_past (cleaned slots words) (i / 21) 0 (omega (arith, far, length-cleaned)))
          ∙ zero_unpacked (i % 21)

  small : (w : ℕ) → get_or (cleaned slots words) w 0 < 2 ^ 63
  small w = ⊎_elim there past (cases_lt w (words_for slots))
    where
      there : w < words_for slots → get_or (cleaned slots words) w 0 < 2 ^ 63
      there lt =
          let u = min 21 (slots - 21 * w) in
          let below : slice_index words w % 2 ^ (3 * u) < 2 ^ (3 * u) = mod_below (slice_index words w) (2 ^ (3 * u)) (pow_pos (3 * u)) in
          let few : 3 * u ≤ 63 = omega arith in
          let more : 2 ^ (3 * u) ≤ 2 ^ 63 = pow-le-pow_right (lit< tt) {j = 63} few in
          subst (λ n. n < 2 ^ 63) (sym (cleaned-at w lt)) (omega (arith, below, more))

      past : words_for slots ≤ w → get_or (cleaned slots words) w 0 < 2 ^ 63
      past far = subst (λ n. n < 2 ^ 63) (sym (get_or_past (cleaned slots words) w 0 (omega (arith, far, length-cleaned)))) (lit< tt)

  pub cleaned_packed : ArePacked (cleaned slots words) slots
  cleaned_packed = record { enough = length-cleaned; empty = slot_gone; top = small }

  pub cleaned_unpacked : unpacked (cleaned slots words) slots ≡ unpacked words slots
  cleaned_unpacked =
      let long = length-unpacked (cleaned slots words) slots in
      let old = length-unpacked words slots in
      ext_get_or no_qual _ _ (long ∙ sym old) (λ i lt.
      let below : i < slots = omega (arith, lt, long) in
      unpacked-at (cleaned slots words) slots i below ∙ slot_kept i below ∙ sym (unpacked-at words slots i below))

  -- as any list of clean words
  pub clean_packed : (list : List ℕ) → list ≡ cleaned slots words → ArePacked list slots
  clean_packed list e = subst (λ ws. ArePacked ws slots) (sym e) cleaned_packed

  pub clean_unpacked : (list : List ℕ) → list ≡ cleaned slots words → unpacked list slots ≡ unpacked words slots
  clean_unpacked list e = ap (λ ws. unpacked ws slots) e ∙ cleaned_unpacked
