-- Operands of two points, pair by pair.
use Rattle.std.proofs.Common.{◌≡◌, ◌⊎◌, ⊎_elim, ℕ, ◌≤◌, List, [], ◌∷◌, ◌++◌, length, drop, refl, sym, ap, ◌∙◌, arith}
use Rattle.std.proofs.lemmas.List.{append-nil, drop_all}
use Rattle.jn_points.specs.declared.point.Operand.{Operand}
use Rattle.jn_unkept.specs.declared.alike.Pair.{Pair}
use Rattle.jn_unkept.specs.Alike.{paired}

no_lefts : (i j : ℕ) (xs ys : List Operand) → xs ≡ [] → paired i xs j ys ≡ []
no_lefts i j xs ys e = ap (λ (zs : List Operand). paired i zs j ys) e

no_rights_left : (i j : ℕ) (xs : List Operand) → paired i xs j [] ≡ []
no_rights_left i j [] = refl
no_rights_left i j (x ∷ xs) = refl

no_rights : (i j : ℕ) (xs ys : List Operand) → ys ≡ [] → paired i xs j ys ≡ []
no_rights i j xs ys e = ap (paired i xs j) e ∙ no_rights_left i j xs

-- all pairs are there when the shorter list ends
pub pairs_done : (i j : ℕ) (xs ys : List Operand) (n end : ℕ) (old new : List Pair) → end ≤ n → (length xs ≤ end) ⊎ (length ys ≤ end)
    → new ++ paired i (drop n xs) j (drop n ys) ≡ old ++ paired i xs j ys → new ≡ old ++ paired i xs j ys
pairs_done i j xs ys n end old new le one h =
    sym (append-nil new)
    ∙ ap (λ (zs : List Pair). new ++ zs) (sym (⊎_elim
    (λ l. no_lefts i j (drop n xs) (drop n ys) (drop_all n xs (omega (arith, le, l))))
    (λ l. no_rights i j (drop n xs) (drop n ys) (drop_all n ys (omega (arith, le, l))))
    one))
    ∙ h
