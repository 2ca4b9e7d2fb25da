-- What the bits of a qualifier mean, one number below 8 after another.
use Rattle.std.proofs.Common.{◌≡◌, ℕ, zero, suc, ◌<◌, nat_eq, bit_and, bit_or, ◌/◌, refl, arith}
use Rattle.jn_quals.specs.Qualifier.{of_bits, to_bits}
use Rattle.jn_quals.specs.Order.{join, within, settle}

below_8 : (P : ℕ → Type 0) → P 0 → P 1 → P 2 → P 3 → P 4 → P 5 → P 6 → P 7 → (n : ℕ) → n < 8 → P n
below_8 P p0 p1 p2 p3 p4 p5 p6 p7 zero lt = p0
below_8 P p0 p1 p2 p3 p4 p5 p6 p7 (suc zero) lt = p1
below_8 P p0 p1 p2 p3 p4 p5 p6 p7 (suc (suc zero)) lt = p2
below_8 P p0 p1 p2 p3 p4 p5 p6 p7 (suc (suc (suc zero))) lt = p3
below_8 P p0 p1 p2 p3 p4 p5 p6 p7 (suc (suc (suc (suc zero)))) lt = p4
below_8 P p0 p1 p2 p3 p4 p5 p6 p7 (suc (suc (suc (suc (suc zero))))) lt = p5
below_8 P p0 p1 p2 p3 p4 p5 p6 p7 (suc (suc (suc (suc (suc (suc zero)))))) lt = p6
below_8 P p0 p1 p2 p3 p4 p5 p6 p7 (suc (suc (suc (suc (suc (suc (suc zero))))))) lt = p7
below_8 P p0 p1 p2 p3 p4 p5 p6 p7 (suc (suc (suc (suc (suc (suc (suc (suc n)))))))) lt = absurd (omega arith)

abbrev Joins : ℕ → ℕ → Type 0
Joins a b = of_bits (bit_or a b) ≡ join (of_bits a) (of_bits b)

pub join_bits : (a : ℕ) → a < 8 → (b : ℕ) → b < 8 → Joins a b
join_bits = below_8 (λ a. (b : ℕ) → b < 8 → Joins a b)
    (below_8 (Joins 0) refl refl refl refl refl refl refl refl)
    (below_8 (Joins 1) refl refl refl refl refl refl refl refl)
    (below_8 (Joins 2) refl refl refl refl refl refl refl refl)
    (below_8 (Joins 3) refl refl refl refl refl refl refl refl)
    (below_8 (Joins 4) refl refl refl refl refl refl refl refl)
    (below_8 (Joins 5) refl refl refl refl refl refl refl refl)
    (below_8 (Joins 6) refl refl refl refl refl refl refl refl)
    (below_8 (Joins 7) refl refl refl refl refl refl refl refl)

abbrev Included : ℕ → ℕ → Type 0
Included a b = nat_eq (bit_or a b) b ≡ within (of_bits a) (of_bits b)

pub within_bits : (a : ℕ) → a < 8 → (b : ℕ) → b < 8 → Included a b
within_bits = below_8 (λ a. (b : ℕ) → b < 8 → Included a b)
    (below_8 (Included 0) refl refl refl refl refl refl refl refl)
    (below_8 (Included 1) refl refl refl refl refl refl refl refl)
    (below_8 (Included 2) refl refl refl refl refl refl refl refl)
    (below_8 (Included 3) refl refl refl refl refl refl refl refl)
    (below_8 (Included 4) refl refl refl refl refl refl refl refl)
    (below_8 (Included 5) refl refl refl refl refl refl refl refl)
    (below_8 (Included 6) refl refl refl refl refl refl refl refl)
    (below_8 (Included 7) refl refl refl refl refl refl refl refl)

pub settle_bits : (a : ℕ) → a < 8 → of_bits (bit_or (bit_and a 3) (bit_and a 4 / 2)) ≡ settle (of_bits a)
settle_bits = below_8 (λ a. of_bits (bit_or (bit_and a 3) (bit_and a 4 / 2)) ≡ settle (of_bits a)) refl refl refl refl refl refl refl refl

pub to-of_bits : (a : ℕ) → a < 8 → to_bits (of_bits a) ≡ a
to-of_bits = below_8 (λ a. to_bits (of_bits a) ≡ a) refl refl refl refl refl refl refl refl
