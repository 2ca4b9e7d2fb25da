-- Lists of words: all of them zero, or one of them written.
use Rattle.std.proofs.Common.{◌≡◌, ◌≢◌, ℕ, ◌<◌, ◌⊎◌, inl, inr, List, length, get_or, set, replicate, ap, ◌∙◌, arith, get_or-set_same, get_or-set_other}
use Rattle.std.proofs.lemmas.Bool.{cases_order}
use Rattle.std.proofs.lemmas.List.{get_or-replicate, get_or_past, length-replicate}

-- words of zeros
abbrev pub zeros : ℕ → List ℕ
zeros n = replicate n 0

pub length_zeros : (n : ℕ) → length (zeros n) ≡ n
length_zeros n = length-replicate n _

pub zero_at : (n k : ℕ) → get_or (zeros n) k 0 ≡ 0
zero_at n k = sides (cases_order k n)
  where
    sides : (k ≡ n) ⊎ ((k < n) ⊎ (n < k)) → get_or (zeros n) k 0 ≡ 0
    sides (inl e) = get_or_past (replicate n 0) k 0 (omega (arith, e, length_zeros n))
    sides (inr (inl lt)) = get_or-replicate n k 0 0 lt
    sides (inr (inr lt)) = get_or_past (replicate n 0) k 0 (omega (arith, lt, length_zeros n))

-- words below a number stay so where one below it is written
pub set_below : (words : List ℕ) (at v most : ℕ) → at < length words → v < most → ((i : ℕ) → get_or words i 0 < most) → (i : ℕ) → get_or (set words at v) i 0 < most
set_below words at v most there small below i = sides (cases_order i at)
  where
    elsewhere : i ≢ at → get_or (set words at v) i 0 < most
    elsewhere ne = let e = get_or-set_other words at i v 0 ne in rw e (below i)

    sides : (i ≡ at) ⊎ ((i < at) ⊎ (at < i)) → get_or (set words at v) i 0 < most
    sides (inl e) =
        let f : get_or (set words at v) i 0 ≡ v = ap (λ k. get_or (set words at v) k 0) e ∙ get_or-set_same words at v 0 there in
        rw f small
    sides (inr (inl before)) = elsewhere (λ h. omega (arith, before, h))
    sides (inr (inr behind)) = elsewhere (λ h. omega (arith, behind, h))
