-- The bits of words.
use Rattle.std.proofs.Common.{◌≡◌, ℕ, zero, suc, ◌+◌, ◌-◌, ◌*◌, ◌/◌, ◌%◌, ◌^◌, ◌<◌, ◌≤◌, Bool, true, false, not, ◌||◌, nat_eq, bit_or, bit_xor, refl, sym, ap, ◌∙◌, mul_assoc, lit<, arith}
use Rattle.std.proofs.lemmas.Nat.{or_shr, or_mod, xor_shr, xor_mod, shl-shr, shr-shr, shl_below, shr_below, mod_below, pow-add}
use Rattle.std.proofs.Math.Nat.{pow-le-pow_right, zero-div}
use Rattle.jn_env.specs.Packed.{bit}

abbrev pub differ : Bool → Bool → Bool
differ true b = not b
differ false b = b

below_2 : (P : ℕ → Type 0) → P 0 → P 1 → (n : ℕ) → n < 2 → P n
below_2 P p0 p1 zero lt = p0
below_2 P p0 p1 (suc zero) lt = p1
below_2 P p0 p1 (suc (suc n)) lt = absurd (omega arith)

or_two : (a : ℕ) → a < 2 → (b : ℕ) → b < 2 → nat_eq (bit_or a b) 1 ≡ (nat_eq a 1 || nat_eq b 1)
or_two = below_2 (λ a. (b : ℕ) → b < 2 → nat_eq (bit_or a b) 1 ≡ (nat_eq a 1 || nat_eq b 1))
    (below_2 (λ b. nat_eq (bit_or 0 b) 1 ≡ (nat_eq 0 1 || nat_eq b 1)) refl refl)
    (below_2 (λ b. nat_eq (bit_or 1 b) 1 ≡ (nat_eq 1 1 || nat_eq b 1)) refl refl)

xor_two : (a : ℕ) → a < 2 → (b : ℕ) → b < 2 → nat_eq (bit_xor a b) 1 ≡ differ (nat_eq a 1) (nat_eq b 1)
xor_two = below_2 (λ a. (b : ℕ) → b < 2 → nat_eq (bit_xor a b) 1 ≡ differ (nat_eq a 1) (nat_eq b 1))
    (below_2 (λ b. nat_eq (bit_xor 0 b) 1 ≡ differ (nat_eq 0 1) (nat_eq b 1)) refl refl)
    (below_2 (λ b. nat_eq (bit_xor 1 b) 1 ≡ differ (nat_eq 1 1) (nat_eq b 1)) refl refl)

same_two : (a : ℕ) → a < 2 → (b : ℕ) → b < 2 → nat_eq a 1 ≡ nat_eq b 1 → a ≡ b
same_two = below_2 (λ a. (b : ℕ) → b < 2 → nat_eq a 1 ≡ nat_eq b 1 → a ≡ b)
    (below_2 (λ b. nat_eq 0 1 ≡ nat_eq b 1 → 0 ≡ b) (λ e. refl) (λ e. absurd (cc)))
    (below_2 (λ b. nat_eq 1 1 ≡ nat_eq b 1 → 1 ≡ b) (λ e. absurd (cc)) (λ e. refl))

small : (n : ℕ) → n % 2 < 2
small n = mod_below n 2 (lit< tt)

pub or_bit : (a b j : ℕ) → bit (bit_or a b) j ≡ (bit a j || bit b j)
or_bit a b j =
    ap (λ n. nat_eq (n % 2) 1) (or_shr a b j)
    ∙ ap (λ n. nat_eq n 1) (or_mod (a / 2 ^ j) (b / 2 ^ j) 1)
    ∙ or_two (a / 2 ^ j % 2) (small (a / 2 ^ j)) (b / 2 ^ j % 2) (small (b / 2 ^ j))

pub xor_bit : (a b j : ℕ) → bit (bit_xor a b) j ≡ differ (bit a j) (bit b j)
xor_bit a b j =
    ap (λ n. nat_eq (n % 2) 1) (xor_shr a b j)
    ∙ ap (λ n. nat_eq n 1) (xor_mod (a / 2 ^ j) (b / 2 ^ j) 1)
    ∙ xor_two (a / 2 ^ j % 2) (small (a / 2 ^ j)) (b / 2 ^ j % 2) (small (b / 2 ^ j))

pub zero_bit : (j : ℕ) → bit 0 j ≡ false
zero_bit j = ap (λ n. nat_eq (n % 2) 1) (zero-div (2 ^ j))

-- the bits of what is shifted
pub shifted_at : (d k i : ℕ) → bit (d * 2 ^ k) (k + i) ≡ bit d i
shifted_at d k i = ap (λ n. nat_eq (n % 2) 1) (sym (shr-shr (d * 2 ^ k) k i) ∙ ap (λ n. n / 2 ^ i) (shl-shr d k))

even : (n : ℕ) → n * 2 % 2 ≡ 0
even n = omega arith

pow_split : (d e j : ℕ) → d * 2 ^ ((e + 1) + j) ≡ d * 2 ^ e * 2 * 2 ^ j
pow_split d e j =
    ap (λ n. d * n) (pow-add 2 (e + 1) j ∙ ap (λ n. n * 2 ^ j) (pow-add 2 e 1))
    ∙ sym (mul_assoc d (2 ^ e * 2) (2 ^ j))
    ∙ ap (λ n. n * 2 ^ j) (sym (mul_assoc d (2 ^ e) 2))

pub shifted_below : (d k j : ℕ) → j < k → bit (d * 2 ^ k) j ≡ false
shifted_below d k j lt =
    let e = k - j - 1 in
    let sum : k ≡ (e + 1) + j = omega (arith, lt) in
    let whole : d * 2 ^ k ≡ d * 2 ^ e * 2 * 2 ^ j = ap (λ n. d * 2 ^ n) sum ∙ pow_split d e j in
    ap (λ n. nat_eq (n / 2 ^ j % 2) 1) whole
    ∙ ap (λ n. nat_eq (n % 2) 1) (shl-shr (d * 2 ^ e * 2) j)
    ∙ ap (λ n. nat_eq n 1) (even (d * 2 ^ e))

pub shifted_above : (d w k j : ℕ) → d < 2 ^ w → w + k ≤ j → bit (d * 2 ^ k) j ≡ false
shifted_above d w k j lt le =
    let below : d * 2 ^ k < 2 ^ (w + k) = shl_below d w k lt in
    let more : 2 ^ (w + k) ≤ 2 ^ (0 + j) = pow-le-pow_right (lit< tt) (omega (arith, le)) in
    let gone : d * 2 ^ k / 2 ^ j < 2 ^ 0 = shr_below (d * 2 ^ k) 0 j (omega (arith, below, more)) in
    let is : d * 2 ^ k / 2 ^ j ≡ 0 = omega (arith, gone) in
    ap (λ n. nat_eq (n % 2) 1) is

next_bit : (a j : ℕ) → bit (a / 2 ^ 1) j ≡ bit a (j + 1)
next_bit a j =
    let e : 1 + j ≡ j + 1 = omega arith in
    ap (λ n. nat_eq (n % 2) 1) (shr-shr a 1 j ∙ ap (λ k. a / 2 ^ k) e)

-- words with the same bits are one
pub same_word : (n a b : ℕ) → a < 2 ^ n → b < 2 ^ n → ((j : ℕ) → j < n → bit a j ≡ bit b j) → a ≡ b
same_word zero a b lt below same = omega (arith, lt, below)
same_word (suc n) a b lt below same =
    let split : suc n ≡ n + 1 = omega arith in
    let first : a / 1 % 2 ≡ b / 1 % 2 = same_two (a / 1 % 2) (small (a / 1)) (b / 1 % 2) (small (b / 1)) (same 0 (omega arith)) in
    let fits : a < 2 ^ (n + 1) = rw (sym split) lt in
    let fits_too : b < 2 ^ (n + 1) = rw (sym split) below in
    let rest : a / 2 ^ 1 ≡ b / 2 ^ 1 = same_word n (a / 2 ^ 1) (b / 2 ^ 1) (shr_below a n 1 fits) (shr_below b n 1 fits_too) (λ j at. next_bit a j ∙ same (j + 1) (omega (arith, at)) ∙ sym (next_bit b j)) in
    let rest_is : a / 2 ≡ b / 2 = rest in
    omega (arith, first, rest_is)

-- the three bits of a qualifier's place
module _ (word m : ℕ) where
  pub low_first : nat_eq (word / 2 ^ m % 8 / 1 % 2) 1 ≡ bit word m
  low_first = let n = word / 2 ^ m in let e : n % 8 / 1 % 2 ≡ n % 2 = omega arith in ap (λ k. nat_eq k 1) e

  pub low_second : nat_eq (word / 2 ^ m % 8 / 2 % 2) 1 ≡ bit word (m + 1)
  low_second = let n = word / 2 ^ m in let e : n % 8 / 2 % 2 ≡ n / 2 % 2 = omega arith in ap (λ k. nat_eq k 1) e ∙ ap (λ k. nat_eq (k % 2) 1) (shr-shr word m 1)

  pub low_third : nat_eq (word / 2 ^ m % 8 / 4 % 2) 1 ≡ bit word (m + 2)
  low_third = let n = word / 2 ^ m in let e : n % 8 / 4 % 2 ≡ n / 4 % 2 = omega arith in ap (λ k. nat_eq k 1) e ∙ ap (λ k. nat_eq (k % 2) 1) (shr-shr word m 2)
