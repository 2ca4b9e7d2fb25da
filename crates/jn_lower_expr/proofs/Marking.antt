-- Marks of the numbers that are taken.
use Rattle.std.proofs.Common.{◌≡◌, ◌<◌, ◌+◌, ℕ, zero, suc, Bool, true, false, List, [], ◌∷◌, ◌++◌, length, reverse, refl, sym, ap, ◌∙◌, get_or, set, arith}
use Rattle.std.specs.Prelude.{eqb, ◌||◌}
use Rattle.jn_lowering.specs.Temporaries.{is_among}
use Rattle.jn_lower_expr.specs.Marking.{AreMarks}

-- one more that isn't marked
pub pad : (xs : List Bool) (n : ℕ) → get_or (xs ++ false ∷ []) n false ≡ get_or xs n false
pad [] zero = refl
pad [] (suc n) = refl
pad (x ∷ xs) zero = refl
pad (x ∷ xs) (suc n) = pad xs n

same_suc : (n i : ℕ) → eqb (suc n) (suc i) ≡ eqb n i
same_suc n i = grind arith

same_no : (n : ℕ) → eqb (suc n) 0 ≡ false
same_no n = grind arith

no_same : (i : ℕ) → eqb 0 (suc i) ≡ false
no_same i = grind arith

put : (xs : List Bool) (i n : ℕ) → i < length xs → get_or (set xs i true) n false ≡ (eqb n i || get_or xs n false)
put [] i n lt = absurd (omega (arith, lt))
put (x ∷ xs) zero zero lt = refl
put (x ∷ xs) zero (suc n) lt = sym (ap (λ b. b || get_or xs n false) (same_no n))
put (x ∷ xs) (suc i) zero lt = sym (ap (λ b. b || x) (no_same i))
put (x ∷ xs) (suc i) (suc n) lt = put xs i n (omega (arith, lt)) ∙ sym (ap (λ b. b || get_or xs n false) (same_suc n i))

-- one more is taken, and its mark set
pub one_more : (taken : List ℕ) (marks : List Bool) (i : ℕ) → i < length marks → AreMarks taken marks → AreMarks (i ∷ taken) (set marks i true)
one_more taken marks i lt are n = ap (λ b. eqb n i || b) (are n) ∙ sym (put marks i n lt)
