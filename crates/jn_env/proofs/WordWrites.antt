-- Words in which some bits are turned.
use Rattle.std.proofs.Common.{◌≡◌, ℕ, ◌+◌, ◌*◌, ◌%◌, ◌^◌, ◌<◌, ◌≤◌, ◌⊎◌, inl, inr, Bool, true, false, bit_xor, refl, sym, ap, ◌∙◌, lit<, arith}
use Rattle.std.proofs.lemmas.Bool.{cases_order}
use Rattle.std.proofs.lemmas.Nat.{xor_lt, shl_whole, shl_below}
use Rattle.std.proofs.Math.Nat.{pow-le-pow_right}
use mathlib.Core.Bool.{beq}
use Rattle.jn_quals.specs.Qualifier.{Qualifier, to_bits}
use Rattle.jn_quals.specs.Word.{unpack}
use Rattle.jn_quals.proofs.Order.{same_qual}
use Rattle.jn_quals.proofs.Words.{of-to_bits, to_bits_small}
use Rattle.jn_env.specs.Packed.{bit}
use Rattle.jn_env.proofs.WordBits.{differ, xor_bit, shifted_at, shifted_below, shifted_above, low_first, low_second, low_third}

differ_true : (x w : Bool) → beq x w ≡ false → differ x true ≡ w
differ_true true true ne = cc
differ_true true false ne = refl
differ_true false true ne = refl
differ_true false false ne = cc

differ_false : (x : Bool) → differ x false ≡ x
differ_false true = refl
differ_false false = refl

differ_twice : (x y : Bool) → differ x (differ x y) ≡ y
differ_twice true true = refl
differ_twice true false = refl
differ_twice false y = refl

fits : (d w k : ℕ) → d < 2 ^ w → w + k ≤ 63 → d * 2 ^ k < 2 ^ 63
fits d w k lt le =
    let below : d * 2 ^ k < 2 ^ (w + k) = shl_below d w k lt in
    let more : 2 ^ (w + k) ≤ 2 ^ 63 = pow-le-pow_right (lit< tt) le in
    omega (arith, below, more)

-- a single bit
module _ (word at : ℕ) (lt : at < 63) where
  abbrev pub turned : ℕ
  turned = bit_xor word (1 * 2 ^ at % 2 ^ 64)

  turned_is : turned ≡ bit_xor word (1 * 2 ^ at)
  turned_is = ap (λ n. bit_xor word n) (shl_whole 1 1 at 64 (lit< tt) (omega (arith, lt)))

  pub turned_here : (w : Bool) → beq (bit word at) w ≡ false → bit turned at ≡ w
  turned_here w ne =
      let here : at + 0 ≡ at = omega arith in
      let one : bit (1 * 2 ^ at) at ≡ true = ap (bit (1 * 2 ^ at)) (sym here) ∙ shifted_at 1 at 0 in
      ap (λ n. bit n at) turned_is ∙ xor_bit word (1 * 2 ^ at) at ∙ ap (differ (bit word at)) one ∙ differ_true (bit word at) w ne

  none : (j : ℕ) → (j ≡ at) ⊎ ((j < at) ⊎ (at < j)) → (j ≡ at → ⊥) → bit (1 * 2 ^ at) j ≡ false
  none j (inl e) ne = absurd (ne e)
  none j (inr (inl before)) ne = shifted_below 1 at j before
  none j (inr (inr behind)) ne = shifted_above 1 1 at j (lit< tt) (omega (arith, behind))

  pub turned_other : (j : ℕ) → (j ≡ at → ⊥) → bit turned j ≡ bit word j
  turned_other j ne =
      ap (λ n. bit n j) turned_is ∙ xor_bit word (1 * 2 ^ at) j ∙ ap (differ (bit word j)) (none j (cases_order j at) ne) ∙ differ_false (bit word j)

  pub turned_small : word < 2 ^ 63 → turned < 2 ^ 63
  turned_small small = rw turned_is (xor_lt 63 word (1 * 2 ^ at) small (fits 1 1 at (lit< tt) (omega (arith, lt))))

-- the three bits of a qualifier
module _ (word k d : ℕ) (q : Qualifier) (lt : k < 21) (is : d ≡ bit_xor (to_bits (unpack word k)) (to_bits q)) where
  abbrev pub requalified : ℕ
  requalified = bit_xor word (d * 2 ^ (3 * k) % 2 ^ 64)

  d_small : d < 2 ^ 3
  d_small = rw is (xor_lt 3 (to_bits (unpack word k)) (to_bits q) (to_bits_small (unpack word k)) (to_bits_small q))

  requalified_is : requalified ≡ bit_xor word (d * 2 ^ (3 * k))
  requalified_is = ap (λ n. bit_xor word n) (shl_whole d 3 (3 * k) 64 d_small (omega (arith, lt)))

  each : (i : ℕ) (x y : Bool) → bit (to_bits (unpack word k)) i ≡ x → bit word (3 * k + i) ≡ x → bit (to_bits q) i ≡ y → bit requalified (3 * k + i) ≡ y
  each i x y old at new =
      let m = 3 * k in
      let change : bit d i ≡ differ x y = ap (λ n. bit n i) is ∙ xor_bit (to_bits (unpack word k)) (to_bits q) i ∙ ap (λ z. differ z (bit (to_bits q) i)) old ∙ ap (differ x) new in
      ap (λ n. bit n (m + i)) requalified_is ∙ xor_bit word (d * 2 ^ m) (m + i) ∙ ap (differ (bit word (m + i))) (shifted_at d m i ∙ change) ∙ ap (λ z. differ z (differ x y)) at ∙ differ_twice x y

  pub requalified_here : unpack requalified k ≡ q
  requalified_here =
      let m = 3 * k in
      let old = unpack word k in
      let start : m + 0 ≡ m = omega arith in
      let first : bit requalified m ≡ q.null = ap (bit requalified) (sym start) ∙ each 0 old.null q.null (ap (λ p. p.null) (of-to_bits old)) (ap (bit word) start ∙ sym (low_first word m)) (ap (λ p. p.null) (of-to_bits q)) in
      let second : bit requalified (m + 1) ≡ q.committed = each 1 old.committed q.committed (ap (λ p. p.committed) (of-to_bits old)) (sym (low_second word m)) (ap (λ p. p.committed) (of-to_bits q)) in
      let third : bit requalified (m + 2) ≡ q.free = each 2 old.free q.free (ap (λ p. p.free) (of-to_bits old)) (sym (low_third word m)) (ap (λ p. p.free) (of-to_bits q)) in
      same_qual (unpack requalified k) q (low_first requalified m ∙ first) (low_second requalified m ∙ second) (low_third requalified m ∙ third)

  kept : (j : ℕ) → bit (d * 2 ^ (3 * k)) j ≡ false → bit requalified j ≡ bit word j
  kept j no_change = ap (λ n. bit n j) requalified_is ∙ xor_bit word (d * 2 ^ (3 * k)) j ∙ ap (differ (bit word j)) no_change ∙ differ_false (bit word j)

  pub requalified_before : (j : ℕ) → j < 3 * k → bit requalified j ≡ bit word j
  requalified_before j before = kept j (shifted_below d (3 * k) j before)

  pub requalified_behind : (j : ℕ) → 3 * k + 2 < j → bit requalified j ≡ bit word j
  requalified_behind j behind = kept j (shifted_above d 3 (3 * k) j d_small (omega (arith, behind)))

  pub requalified_small : word < 2 ^ 63 → requalified < 2 ^ 63
  requalified_small small = rw requalified_is (xor_lt 63 word (d * 2 ^ (3 * k)) small (fits d 3 (3 * k) d_small (omega (arith, lt))))
