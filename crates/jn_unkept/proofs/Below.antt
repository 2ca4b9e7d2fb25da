-- The last of the numbers below another.
use Rattle.std.proofs.Common.{◌≡◌, ℕ, zero, suc, ◌-◌, ◌<◌, Bool, false, cond, Option, Some, sym, ap, ◌∙◌, arith}
use Rattle.jn_unkept.specs.Making.{last_below}

-- one that doesn't meet the test is left
pub step_below : (f : ℕ → Bool) (n : ℕ) (x : Option ℕ) → 0 < n → f (n - 1) ≡ false → last_below f n ≡ x → last_below f (n - 1) ≡ x
step_below f zero x lt not_so e = absurd (omega (arith, lt))
step_below f (suc k) x lt not_so e =
    let one : suc k - 1 ≡ k = omega arith in
    ap (last_below f) one ∙ sym (ap (λ (c : Bool). cond c (Some k) (last_below f k)) (ap f (sym one) ∙ not_so)) ∙ e
