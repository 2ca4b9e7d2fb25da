-- How much stands.
use Rattle.std.proofs.Common.{◌≡◌, ℕ, ◌+◌, ◌-◌, Bool, true, false, ◌⊎◌, inl, inr, refl, sym, ◌∙◌, arith}
use Rattle.std.specs.Prelude.{◌==◌, nat_le}
use Rattle.std.proofs.lemmas.Bool.{cases_Bool, eq-eqb, eqb-true, leb-false, leb-true}

-- nothing is left of a bound where two numbers come to it
pub none_left : (n a b : ℕ) → (((n - a) - b) == 0) ≡ nat_le n (a + b)
none_left n a b = by (cases_Bool (nat_le n (a + b)))
  where
    other : (found : Bool) → ((n - a) - b == 0) ≡ found → nat_le n (a + b) ≡ false → ((n - a) - b == 0) ≡ false
    other false e less = e
    other true e less = let none = eqb-true ((n - a) - b) 0 e in let lt = leb-false n (a + b) less in absurd (omega (arith, none, lt))

    by : (nat_le n (a + b) ≡ true) ⊎ (nat_le n (a + b) ≡ false) → (((n - a) - b) == 0) ≡ nat_le n (a + b)
    by (inl e) = let le = leb-true n (a + b) e in eq-eqb ((n - a) - b) 0 (omega (arith, le)) ∙ sym e
    by (inr e) = other (((n - a) - b) == 0) refl e ∙ sym e
