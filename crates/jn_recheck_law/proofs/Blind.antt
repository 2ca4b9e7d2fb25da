-- A task is blind for bits that belong to no slot that it reads.
use Rattle.std.proofs.Common.{◌≡◌, ℕ, ◌+◌, ◌*◌, ◌/◌, ◌%◌, ◌^◌, ◌<◌, ◌≤◌, Bool, true, false, cond, List, [], ◌∷◌, length, ⊎_elim, sym, ap, ◌∙◌, arith}
use Rattle.std.specs.Prelude.{slice_index, slice_index_or}
use Rattle.std.specs.Int.{bit_at}
use Rattle.std.proofs.lemmas.Bool.{cases_lt}
use Rattle.std.proofs.lemmas.List.{get_or_past}
use Rattle.std.proofs.lemmas.Nat.{shr-shr}
use Rattle.jn_quals.specs.Order.{no_qual}
use Rattle.jn_quals.specs.Qualifier.{of_bits}
use Rattle.jn_points.specs.declared.program.Program.{Program}
use Rattle.jn_sigs.specs.Packed.{unpacked}
use Rattle.jn_sigs.proofs.Slots.{length-unpacked, unpacked-at}
use Rattle.jn_transfer.specs.Pairs.{pair_sends}
use Rattle.jn_tables_law.specs.Inferable.{least_sends}
use Rattle.jn_tables_law.specs.Tasks.{is_body_task, task_method}
use Rattle.jn_inference_law.specs.Inference.{inference, task_reads, words_for}
use Rattle.jn_inference_law.specs.Packing.{packed}
use Rattle.jn_inference_law.specs.Reading.{Agree, body_reads, pair_reads}
use Rattle.jn_inference_law.proofs.PairLaws.{pairs_same}
use Rattle.jn_inference_law.proofs.ReadingLaws.{sends_same}
use Rattle.jn_resume.specs.Keepable.{IsBlind}
use Rattle.jn_recheck_law.specs.Unread.{AreUnlost}

three : (m : ℕ) → m % 8 ≡ m % 2 + 2 * (m / 2 % 2) + 4 * (m / 4 % 2)
three m = omega arith

bit_of : (n k j : ℕ) → n / 2 ^ k / 2 ^ j % 2 ≡ bit_at n (k + j)
bit_of n k j = ap (λ (x : ℕ). x % 2) (shr-shr n k j)

same_three : (x y l k : ℕ) → ((i : ℕ) → bit_at l i ≡ 0 → bit_at x i ≡ bit_at y i) → l / 2 ^ k % 8 ≡ 0 → x / 2 ^ k % 8 ≡ y / 2 ^ k % 8
same_three x y l k h e =
    let a : x / 2 ^ k % 2 ≡ y / 2 ^ k % 2 = bit k (omega (arith, e)) in
    let b : x / 2 ^ k / 2 % 2 ≡ y / 2 ^ k / 2 % 2 = bit_of x k 1 ∙ bit (k + 1) (sym (bit_of l k 1) ∙ omega (arith, e)) ∙ sym (bit_of y k 1) in
    let c : x / 2 ^ k / 4 % 2 ≡ y / 2 ^ k / 4 % 2 = bit_of x k 2 ∙ bit (k + 2) (sym (bit_of l k 2) ∙ omega (arith, e)) ∙ sym (bit_of y k 2) in
    three (x / 2 ^ k) ∙ (λ i. a i + 2 * b i + 4 * c i) ∙ sym (three (y / 2 ^ k))
  where
    bit : (i : ℕ) → bit_at l i ≡ 0 → bit_at x i ≡ bit_at y i
    bit i z = h i z

module _ (xs ys : List ℕ) (n : ℕ) (lost : ℕ → ℕ) (h : (w : ℕ) → w < words_for n → (i : ℕ) → bit_at (lost w) i ≡ 0 → bit_at (slice_index xs w) i ≡ bit_at (slice_index ys w) i) where
  slot_agrees : (i : ℕ) → lost (i / 21) / 2 ^ (3 * (i % 21)) % 8 ≡ 0 → slice_index_or (unpacked xs n) i no_qual ≡ slice_index_or (unpacked ys n) i no_qual
  slot_agrees i e = ⊎_elim there past (cases_lt i n)
    where
      there : i < n → slice_index_or (unpacked xs n) i no_qual ≡ slice_index_or (unpacked ys n) i no_qual
      there lt =
          let inside : i / 21 < words_for n = omega (arith, lt) in
          unpacked-at xs n i lt ∙ ap of_bits (same_three (slice_index xs (i / 21)) (slice_index ys (i / 21)) (lost (i / 21)) (3 * (i % 21)) (h (i / 21) inside) e) ∙ sym (unpacked-at ys n i lt)

      past : n ≤ i → slice_index_or (unpacked xs n) i no_qual ≡ slice_index_or (unpacked ys n) i no_qual
      past le = get_or_past (unpacked xs n) i no_qual (omega (arith, le, length-unpacked xs n)) ∙ sym (get_or_past (unpacked ys n) i no_qual (omega (arith, le, length-unpacked ys n)))

  reads_agree : (is : List ℕ) → AreUnlost lost is → Agree (unpacked xs n) (unpacked ys n) is
  reads_agree [] u = tt
  reads_agree (i ∷ is) u = (slot_agrees i u.0, reads_agree is u.1)

pub blind : (P : Program) (lost : ℕ → ℕ) (t : ℕ) → AreUnlost lost (task_reads P t) → IsBlind (inference P) lost t
blind P lost t u = λ xs ys long_xs long_ys h. ap packed (by xs ys h (is_body_task P t) u)
  where
    by : (xs ys : List ℕ) → ((w : ℕ) → w < words_for (length P.slots) → (i : ℕ) → bit_at (lost w) i ≡ 0 → bit_at (slice_index xs w) i ≡ bit_at (slice_index ys w) i) → (c : Bool) → AreUnlost lost (cond c (body_reads P t) (pair_reads P (task_method P t)))
        → cond c (least_sends P (unpacked xs (length P.slots)) t) (pair_sends P (unpacked xs (length P.slots)) (task_method P t)) ≡ cond c (least_sends P (unpacked ys (length P.slots)) t) (pair_sends P (unpacked ys (length P.slots)) (task_method P t))
    by xs ys h true v = sends_same (unpacked xs (length P.slots)) (unpacked ys (length P.slots)) P t (reads_agree xs ys (length P.slots) lost h (body_reads P t) v)
    by xs ys h false v = pairs_same P (unpacked xs (length P.slots)) (unpacked ys (length P.slots)) (task_method P t) (reads_agree xs ys (length P.slots) lost h (pair_reads P (task_method P t)) v)
