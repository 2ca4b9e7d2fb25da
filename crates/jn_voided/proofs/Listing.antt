-- Lists that are made point by point.
use Rattle.std.proofs.Common.{◌≡◌, ◌⊎◌, inl, inr, ℕ, zero, suc, ◌+◌, ◌<◌, ◌≤◌, List, [], ◌∷◌, ◌++◌, length, refl, sym, ap, ◌∙◌, subst, arith, length-append}
use Rattle.std.specs.Prelude.{slice_index_or}
use Rattle.std.proofs.lemmas.Bool.{cases_lt}

-- what holds at the first points
pub record AreFirst {A : Type 0} (f : ℕ → A) (d : A) (n : ℕ) (xs : List A) : Type 0 where
  pub many : length xs ≡ n
  pub each : (p : ℕ) → p < n → slice_index_or xs p d ≡ f p

module _ {A : Type 0} (d : A) where
  at_front : (xs : List A) (x : A) (p : ℕ) → p < length xs → slice_index_or (xs ++ x ∷ []) p d ≡ slice_index_or xs p d
  at_front [] x p lt = absurd (omega (arith, lt))
  at_front (y ∷ xs) x zero lt = refl
  at_front (y ∷ xs) x (suc p) lt = at_front xs x p (omega (arith, lt))

  at_end : (xs : List A) (x : A) → slice_index_or (xs ++ x ∷ []) (length xs) d ≡ x
  at_end [] x = refl
  at_end (y ∷ xs) x = at_end xs x

  pub beyond : (xs : List A) (p : ℕ) → length xs ≤ p → slice_index_or xs p d ≡ d
  beyond [] p le = refl
  beyond (x ∷ xs) zero le = absurd (omega (arith, le))
  beyond (x ∷ xs) (suc p) le = beyond xs p (omega (arith, le))

module _ {A : Type 0} (f : ℕ → A) (d : A) where
  pub none_first : (xs : List A) → xs ≡ [] → AreFirst f d 0 xs
  none_first xs none = record { many = ap length none; each = λ p lt. absurd (omega (arith, lt)) }

  -- and one more
  pub one_more : (n : ℕ) (xs more : List A) (x : A) → AreFirst f d n xs → x ≡ f n → more ≡ xs ++ x ∷ [] → AreFirst f d (n + 1) more
  one_more n xs more x first same is = subst (AreFirst f d (n + 1)) (sym is) (record {
    many = length-append xs (x ∷ []) ∙ ap (λ k. k + 1) first.many;
    each = λ p lt. by p lt (cases_lt p n);
  })
    where
      by : (p : ℕ) → p < n + 1 → (p < n) ⊎ (n ≤ p) → slice_index_or (xs ++ x ∷ []) p d ≡ f p
      by p lt (inl less) =
          let long = first.many in
          at_front d xs x p (omega (arith, less, long)) ∙ first.each p less
      by p lt (inr le) =
          let long = first.many in
          let here : length xs ≡ p = omega (arith, long, lt, le) in
          let end : n ≡ p = omega (arith, lt, le) in
          subst (λ k. slice_index_or (xs ++ x ∷ []) k d ≡ f p) here (at_end d xs x ∙ same ∙ ap f end)

  -- all of them, where nothing is after them
  pub all_points : (n : ℕ) (xs : List A) → AreFirst f d n xs → ((p : ℕ) → n ≤ p → f p ≡ d) → (p : ℕ) → slice_index_or xs p d ≡ f p
  all_points n xs first behind p = by (cases_lt p n)
    where
      by : (p < n) ⊎ (n ≤ p) → slice_index_or xs p d ≡ f p
      by (inl less) = first.each p less
      by (inr le) =
          let long = first.many in
          beyond d xs p (omega (arith, long, le)) ∙ sym (behind p le)
