-- Bits are set one by one.
use Rattle.std.proofs.Common.{◌≡◌, ℕ, zero, suc, ◌+◌, ◌-◌, ◌<◌, Bool, true, false, List, ◌∷◌, ◌++◌, replicate, refl, ap, ◌∙◌, arith}
use Rattle.std.specs.Prelude.{slice_set}

-- so many bits, of which the first are set
abbrev pub first_set : ℕ → ℕ → List Bool
first_set i count = replicate i true ++ replicate (count - i) false

set_next : (i k : ℕ) → slice_set (replicate i true ++ replicate (suc k) false) i true ≡ replicate (suc i) true ++ replicate k false
set_next zero k = refl
set_next (suc i) k = ap (λ bits. true ∷ bits) (set_next i k)

pub set_more : (i count : ℕ) → i < count → slice_set (first_set i count) i true ≡ first_set (i + 1) count
set_more i count lt =
    let next : i + 1 ≡ suc i = omega arith in
    let left : count - i ≡ suc (count - suc i) = omega (arith, lt) in
    rw next (ap (λ k. slice_set (replicate i true ++ replicate k false) i true) left ∙ set_next i (count - suc i))
