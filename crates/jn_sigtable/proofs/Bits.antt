-- Bits within bits, and the masks of one bit.
use Rattle.std.proofs.Common.{◌≡◌, ◌≢◌, ℕ, ◌+◌, ◌-◌, ◌*◌, ◌/◌, ◌%◌, ◌^◌, ◌<◌, bit_or, bit_and, sym, ap, ◌∙◌, arith, mod-lt, div-add-mod', w64}
use Rattle.std.specs.Int.{bit_at}
use Rattle.std.proofs.lemmas.Nat.Bits.{bit_at_or, bit_at_and, bit_at-lt, bit_at-zero, bit_at_clear_same, bit_at_clear_other, bit_at_ones, bit_at_set_same, bit_at_set_other, same_from_bits}
use native.Mathlib.Decide.{ℕ_discrete}
use mathlib.Core.Logic.{dite}
use Rattle.jn_sigtable.specs.System.{Within}
use Rattle.jn_sigtable.specs.Machine.{all_but, one_at}

pub within_refl : (a : ℕ) → Within a a
within_refl a i = omega arith

pub within_trans : (a b c : ℕ) → Within a b → Within b c → Within a c
within_trans a b c h k i = let p = h i in let q = k i in omega arith

pub within_or_l : (a b : ℕ) → Within a (bit_or a b)
within_or_l a b i = omega (arith, bit_at_or a b i)

pub within_or_r : (a b : ℕ) → Within b (bit_or a b)
within_or_r a b i = omega (arith, bit_at_or a b i)

pub or_within : (a b c : ℕ) → Within a c → Within b c → Within (bit_or a b) c
or_within a b c h k i = let p = h i in let q = k i in omega (arith, bit_at_or a b i)

pub zero_within : (a : ℕ) → Within 0 a
zero_within a i = omega (arith, bit_at-zero i)

pub place_below : (b : ℕ) → b % 64 < 64
place_below b = let h : 0 < 64 = omega arith in mod-lt b h

pub cleared_same : (n b : ℕ) → bit_at (bit_and n (all_but (b % 64))) (b % 64) ≡ 0
cleared_same n b = bit_at_clear_same w64 n (b % 64) (place_below b)

pub cleared_other : (n b i : ℕ) → i < 64 → i ≢ b % 64 → bit_at (bit_and n (all_but (b % 64))) i ≡ bit_at n i
cleared_other n b i h ne = bit_at_clear_other w64 n (b % 64) (place_below b) i h ne

pub all_but_injective : (b c : ℕ) → all_but (b % 64) ≡ all_but (c % 64) → b % 64 ≡ c % 64
all_but_injective b c e =
    dite (ℕ_discrete (b % 64) (c % 64)) (λ same. same)
    (λ ne.
    let n : ℕ = 2 ^ 64 - 1 in
    let zero_there : bit_at (bit_and n (all_but (b % 64))) (b % 64) ≡ 0 = cleared_same n b in
    let one_there : bit_at (bit_and n (all_but (c % 64))) (b % 64) ≡ bit_at n (b % 64) = cleared_other n c (b % 64) (place_below b) ne in
    let ones : bit_at n (b % 64) ≡ 1 = bit_at_ones 64 (b % 64) (place_below b) in
    let bad : 0 ≡ 1 = sym zero_there ∙ (ap (λ (k : ℕ). bit_at (bit_and n k) (b % 64)) e ∙ (one_there ∙ ones)) in
    absurd (omega arith))

pub same_number : (b c : ℕ) → b / 64 ≡ c / 64 → b % 64 ≡ c % 64 → b ≡ c
same_number b c d r = let p = div-add-mod' b 64 in let q = div-add-mod' c 64 in sym p ∙ (λ i. d i * 64 + r i) ∙ q

pub same_body : (m b c : ℕ) → m + b / 64 ≡ m + c / 64 → all_but (b % 64) ≡ all_but (c % 64) → b ≡ c
same_body m b c w e = let d : b / 64 ≡ c / 64 = omega arith in same_number b c d (all_but_injective b c e)

pub one_same : (b : ℕ) → bit_at (one_at (b % 64)) (b % 64) ≡ 1
one_same b = bit_at_set_same w64 0 (b % 64) (place_below b)

pub one_other : (b i : ℕ) → i ≢ b % 64 → bit_at (one_at (b % 64)) i ≡ 0
one_other b i ne = bit_at_set_other w64 0 (b % 64) (place_below b) i ne ∙ bit_at-zero i

-- the test `n & (1 << x) == 0`
pub masked_zero : (n b : ℕ) → bit_and n (one_at (b % 64)) ≡ 0 → bit_at n (b % 64) ≡ 0
masked_zero n b e =
    let p : bit_at (bit_and n (one_at (b % 64))) (b % 64) ≡ 0 = ap (λ (y : ℕ). bit_at y (b % 64)) e ∙ bit_at-zero (b % 64) in
    let q = bit_at_and n (one_at (b % 64)) (b % 64) in
    let r = one_same b in
    omega arith

pub masked_some : (n b : ℕ) → bit_and n (one_at (b % 64)) ≢ 0 → bit_at n (b % 64) ≡ 1
masked_some n b ne =
    dite (ℕ_discrete (bit_at n (b % 64)) 1) (λ e. e)
    (λ other.
    let z : bit_at n (b % 64) ≡ 0 = let l = bit_at-lt n (b % 64) in omega arith in
    let each : (i : ℕ) → bit_at (bit_and n (one_at (b % 64))) i ≡ bit_at 0 i = λ i.
    dite (ℕ_discrete i (b % 64))
    (λ e. let q = bit_at_and n (one_at (b % 64)) i in let z' : bit_at n i ≡ 0 = ap (bit_at n) e ∙ z in let w = bit_at-zero i in omega arith)
    (λ apart. let q = bit_at_and n (one_at (b % 64)) i in let o = one_other b i apart in let w = bit_at-zero i in omega arith) in
    absurd (ne (same_from_bits (bit_and n (one_at (b % 64))) 0 each)))
