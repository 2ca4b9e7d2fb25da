-- With all bits set every body is due.
use Rattle.std.proofs.Common.{◌≡◌, ℕ, zero, suc, ◌+◌, ◌/◌, ◌%◌, ◌<◌, List, refl, ap, ◌∙◌, arith, mod-lt, replicate}
use Rattle.std.specs.Prelude.{slice_index}
use Rattle.std.specs.Int.{bit_at}
use Rattle.std.proofs.lemmas.Nat.Bits.{bit_at_ones}
use Rattle.jn_worklist.specs.Plans.{IsDue}

at_ones : (n k i : ℕ) → i < n → slice_index (replicate n k) i ≡ k
at_ones zero k i h = absurd (omega arith)
at_ones (suc n) k zero h = refl
at_ones (suc n) k (suc i) h = at_ones n k i (omega arith)

pub all_due : (dirty : List ℕ) (bodies : ℕ) → dirty ≡ replicate ((bodies + 63) / 64) 18446744073709551615 → (b : ℕ) → b < bodies → IsDue dirty b
all_due dirty bodies e b inside =
    let there : slice_index dirty (b / 64) ≡ 18446744073709551615 = ap (λ (l : List ℕ). slice_index l (b / 64)) e ∙ at_ones ((bodies + 63) / 64) 18446744073709551615 (b / 64) (omega arith) in
    ap (λ (y : ℕ). bit_at y (b % 64)) there ∙ bit_at_ones 64 (b % 64) (mod-lt b (omega arith))
