-- What is packed is joined to what stood at its index, and nothing else changes.
use Rattle.std.proofs.Common.{◌≡◌, ℕ, ◌+◌, ◌-◌, ◌*◌, ◌/◌, ◌%◌, ◌^◌, ◌<◌, ◌≤◌, ◌⊎◌, inl, inr, Bool, true, false, cond, bit_or, refl, sym, ap, ◌∙◌, mul_assoc, lit<, arith}
use Rattle.std.proofs.lemmas.Bool.{cases_order}
use Rattle.std.proofs.lemmas.Nat.{or_lt, or_comm, or_shr, or_mod, shl-shr, shl_below, shr_below, shl_whole, mod_below, pow-add}
use Rattle.std.proofs.Math.Nat.{pow-le-pow_right}
use Rattle.jn_quals.specs.Qualifier.{Qualifier, of_bits, to_bits}
use Rattle.jn_quals.specs.Order.{join}
use Rattle.jn_quals.specs.Word.{unpack, pack}
use Rattle.jn_quals.proofs.Bits.{join_bits}

pub of-to_bits : (q : Qualifier) → of_bits (to_bits q) ≡ q
of-to_bits q = bits q.null q.committed q.free
  where
    bits : (x y z : Bool) → of_bits (cond x 1 0 + cond y 2 0 + cond z 4 0) ≡ record { null = x; committed = y; free = z }
    bits true true true = refl
    bits true true false = refl
    bits true false true = refl
    bits true false false = refl
    bits false true true = refl
    bits false true false = refl
    bits false false true = refl
    bits false false false = refl

pub to_bits_small : (q : Qualifier) → to_bits q < 8
to_bits_small q = bits q.null q.committed q.free
  where
    bits : (x y z : Bool) → cond x 1 0 + cond y 2 0 + cond z 4 0 < 8
    bits true true true = lit< tt
    bits true true false = lit< tt
    bits true false true = lit< tt
    bits true false false = lit< tt
    bits false true true = lit< tt
    bits false true false = lit< tt
    bits false false true = lit< tt
    bits false false false = lit< tt

-- what stands at an index of a union
or_at : (word more k : ℕ) → bit_or word more / 2 ^ k % 8 ≡ bit_or (word / 2 ^ k % 8) (more / 2 ^ k % 8)
or_at word more k = ap (λ n. n % 8) (or_shr word more k) ∙ or_mod (word / 2 ^ k) (more / 2 ^ k) 3

pub pack_same : (word index : ℕ) (q : Qualifier) → unpack (pack word index q) index ≡ join (unpack word index) q
pack_same word index q =
    let b = to_bits q in
    let k = 3 * index in
    let here : b * 2 ^ k / 2 ^ k % 8 ≡ b = ap (λ n. n % 8) (shl-shr b k) ∙ mod_whole b (to_bits_small q) in
    let old = word / 2 ^ k % 8 in
    let small : old < 8 = mod_below (word / 2 ^ k) 8 (lit< tt) in
    ap of_bits (or_at word (b * 2 ^ k) k ∙ ap (λ n. bit_or old n) here)
    ∙ join_bits old small b (to_bits_small q)
    ∙ ap (λ r. join (of_bits old) r) (of-to_bits q)
  where
    mod_whole : (n : ℕ) → n < 8 → n % 8 ≡ n
    mod_whole n lt = omega (arith, lt)

pow_split : (b d k : ℕ) → b * 2 ^ ((d + 3) + k) ≡ b * 2 ^ d * 8 * 2 ^ k
pow_split b d k =
    ap (λ n. b * n) (pow-add 2 (d + 3) k ∙ ap (λ n. n * 2 ^ k) (pow-add 2 d 3))
    ∙ sym (mul_assoc b (2 ^ d * 8) (2 ^ k))
    ∙ ap (λ n. n * 2 ^ k) (sym (mul_assoc b (2 ^ d) 8))

eights : (n : ℕ) → n * 8 % 8 ≡ 0
eights n = omega arith

-- bits at one index are none at another
apart_zero : (b i j : ℕ) → b < 8 → (i < j) ⊎ (j < i) → b * 2 ^ (3 * i) / 2 ^ (3 * j) % 8 ≡ 0
apart_zero b i j small (inl lt) =
    let k = 3 * i in
    let below : b * 2 ^ k < 2 ^ (3 + k) = shl_below b 3 k small in
    let more : 2 ^ (3 + k) ≤ 2 ^ (0 + 3 * j) = pow-le-pow_right (lit< tt) (omega (arith, lt)) in
    let gone : b * 2 ^ k / 2 ^ (3 * j) < 2 ^ 0 = shr_below (b * 2 ^ k) 0 (3 * j) (omega (arith, below, more)) in
    let is : b * 2 ^ k / 2 ^ (3 * j) ≡ 0 = omega (arith, gone) in
    ap (λ n. n % 8) is
apart_zero b i j small (inr lt) =
    let d = 3 * i - 3 * j - 3 in
    let sum : 3 * i ≡ (d + 3) + 3 * j = omega (arith, lt) in
    let whole : b * 2 ^ (3 * i) ≡ b * 2 ^ d * 8 * 2 ^ (3 * j) = ap (λ n. b * 2 ^ n) sum ∙ pow_split b d (3 * j) in
    ap (λ n. n / 2 ^ (3 * j) % 8) whole ∙ ap (λ n. n % 8) (shl-shr (b * 2 ^ d * 8) (3 * j)) ∙ eights (b * 2 ^ d)

pub pack_other : (word index other : ℕ) (q : Qualifier) → (index ≡ other → ⊥) → unpack (pack word index q) other ≡ unpack word other
pack_other word index other q apart =
    let old = word / 2 ^ (3 * other) % 8 in
    let none_there = apart_zero (to_bits q) index other (to_bits_small q) (sides (cases_order index other)) in
    ap of_bits (or_at word (to_bits q * 2 ^ (3 * index)) (3 * other) ∙ ap (λ n. bit_or old n) none_there ∙ or_comm old 0)
  where
    sides : (index ≡ other) ⊎ ((index < other) ⊎ (other < index)) → (index < other) ⊎ (other < index)
    sides (inl e) = absurd (apart e)
    sides (inr s) = s

pub pack_small : (word index width : ℕ) (q : Qualifier) → word < 2 ^ width → 3 * index + 3 ≤ width → pack word index q < 2 ^ width
pack_small word index width q lt le =
    let k = 3 * index in
    let below : to_bits q * 2 ^ k < 2 ^ (3 + k) = shl_below (to_bits q) 3 k (to_bits_small q) in
    let more : 2 ^ (3 + k) ≤ 2 ^ width = pow-le-pow_right (lit< tt) (omega (arith, le)) in
    or_lt width word (to_bits q * 2 ^ k) lt (omega (arith, below, more))

pub shifted : (q : Qualifier) (b index : ℕ) → b ≡ to_bits q → index < 21 → b * 2 ^ (3 * index) % 2 ^ 64 ≡ to_bits q * 2 ^ (3 * index)
shifted q b index e lt = ap (λ n. n * 2 ^ (3 * index) % 2 ^ 64) e ∙ shl_whole (to_bits q) 3 (3 * index) 64 (to_bits_small q) (omega (arith, lt))
