-- Two lists, one place after another.
use Rattle.std.proofs.Common.{◌≡◌, ℕ, zero, suc, ◌<◌, List, [], ◌∷◌, ◌++◌, length, take, drop, refl, sym, ap, arith}
use Rattle.std.specs.Prelude.{slice_set, slice_index_or}

-- two lists put together, place by place
module _ {A : Type 0} (f : A → A → A) where
  abbrev pub zip_both : List A → List A → List A
  zip_both [] bs = bs
  zip_both (a ∷ as') [] = a ∷ as'
  zip_both (a ∷ as') (b ∷ bs) = f a b ∷ zip_both as' bs

  abbrev pub so_far : List A → List A → ℕ → List A
  so_far xs ys i = zip_both (take i xs) (take i ys) ++ drop i xs

  pub length-so_far : (xs ys : List A) (i : ℕ) → length xs ≡ length ys → length (so_far xs ys i) ≡ length xs
  length-so_far xs ys zero l = refl
  length-so_far [] [] (suc i) l = refl
  length-so_far [] (y ∷ ys) (suc i) l = absurd (omega (arith, l))
  length-so_far (x ∷ xs) [] (suc i) l = absurd (omega (arith, l))
  length-so_far (x ∷ xs) (y ∷ ys) (suc i) l = let e : length xs ≡ length ys = omega (arith, l) in ap suc (length-so_far xs ys i e)

  pub so_far_at : (xs ys : List A) (i : ℕ) (d : A) → length xs ≡ length ys → slice_index_or (so_far xs ys i) i d ≡ slice_index_or xs i d
  so_far_at xs ys zero d l = refl
  so_far_at [] [] (suc i) d l = refl
  so_far_at [] (y ∷ ys) (suc i) d l = absurd (omega (arith, l))
  so_far_at (x ∷ xs) [] (suc i) d l = absurd (omega (arith, l))
  so_far_at (x ∷ xs) (y ∷ ys) (suc i) d l = so_far_at xs ys i d (omega (arith, l))

  pub so_far_step : (xs ys : List A) (i : ℕ) (d : A) → length xs ≡ length ys → i < length xs → slice_set (so_far xs ys i) i (f (slice_index_or xs i d) (slice_index_or ys i d)) ≡ so_far xs ys (suc i)
  so_far_step [] ys i d l lt = absurd (omega (arith, lt))
  so_far_step (x ∷ xs) [] i d l lt = absurd (omega (arith, l))
  so_far_step (x ∷ xs) (y ∷ ys) zero d l lt = refl
  so_far_step (x ∷ xs) (y ∷ ys) (suc i) d l lt = ap (λ zs. f x y ∷ zs) (so_far_step xs ys i d (omega (arith, l)) (omega (arith, lt)))

  pub so_far_all : (xs ys : List A) (n : ℕ) → length xs ≡ length ys → n ≡ length xs → so_far xs ys n ≡ zip_both xs ys
  so_far_all [] [] zero l e = refl
  so_far_all [] [] (suc n) l e = refl
  so_far_all [] (y ∷ ys) n l e = absurd (omega (arith, l))
  so_far_all (x ∷ xs) [] n l e = absurd (omega (arith, l))
  so_far_all (x ∷ xs) (y ∷ ys) zero l e = absurd (omega (arith, e))
  so_far_all (x ∷ xs) (y ∷ ys) (suc n) l e = let k : length xs ≡ length ys = omega (arith, l) in let m : n ≡ length xs = omega (arith, e) in ap (λ zs. f x y ∷ zs) (so_far_all xs ys n k m)

  pub length-zip_both : (xs ys : List A) → length xs ≡ length ys → length (zip_both xs ys) ≡ length xs
  length-zip_both [] [] l = refl
  length-zip_both [] (y ∷ ys) l = absurd (omega (arith, l))
  length-zip_both (x ∷ xs) [] l = refl
  length-zip_both (x ∷ xs) (y ∷ ys) l = let e : length xs ≡ length ys = omega (arith, l) in ap suc (length-zip_both xs ys e)

  pub zip_both_at : (xs ys : List A) (i : ℕ) (d : A) → length xs ≡ length ys → f d d ≡ d → slice_index_or (zip_both xs ys) i d ≡ f (slice_index_or xs i d) (slice_index_or ys i d)
  zip_both_at [] [] i d l e = sym e
  zip_both_at [] (y ∷ ys) i d l e = absurd (omega (arith, l))
  zip_both_at (x ∷ xs) [] i d l e = absurd (omega (arith, l))
  zip_both_at (x ∷ xs) (y ∷ ys) zero d l e = refl
  zip_both_at (x ∷ xs) (y ∷ ys) (suc i) d l e = zip_both_at xs ys i d (omega (arith, l)) e
