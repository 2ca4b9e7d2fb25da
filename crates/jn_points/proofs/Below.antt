-- Numbers below one more.
use Rattle.std.proofs.Common.{◌≡◌, ℕ, suc, ◌+◌, Bool, true, false, ◌||◌, List, [], ◌∷◌, ◌++◌, refl, arith, ap, ◌∙◌}
use Rattle.jn_points.specs.Members.{below, some_of}

or_assoc : (a b c : Bool) → (a || (b || c)) ≡ ((a || b) || c)
or_assoc true b c = refl
or_assoc false b c = refl

or_none : (a : Bool) → (a || false) ≡ a
or_none true = refl
or_none false = refl

some_last : (f : ℕ → Bool) (xs : List ℕ) (n : ℕ) → some_of f (xs ++ n ∷ []) ≡ (some_of f xs || f n)
some_last f [] n = or_none (f n)
some_last f (x ∷ xs) n = ap (λ b. f x || b) (some_last f xs n) ∙ or_assoc (f x) (some_of f xs) (f n)

pub some_below_more : (f : ℕ → Bool) (n : ℕ) → some_of f (below (n + 1)) ≡ (some_of f (below n) || f n)
some_below_more f n = let e : n + 1 ≡ suc n = omega arith in rw e (some_last f (below n) n)
