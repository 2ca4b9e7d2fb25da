-- Masks that have no bit of any slot of lists.
use Rattle.std.proofs.Common.{◌≡◌, ℕ, ◌+◌, ◌<◌, Bool, true, false, List, ◌∷◌, ◌++◌, length, drop, get_or, refl, sym, ap, ◌∙◌, subst}
use Rattle.std.specs.Prelude.{◌↔◌, ◌&&◌}
use Rattle.std.proofs.lemmas.List.{drop_more}
use Rattle.jn_recheck_law.specs.Unread.{AreUnlost}
use Rattle.jn_recheck_law.proofs.Apart.{unlost_both, unlost_left, unlost_right}

pub never : false ≡ true → ⊥
never e = cc

module _ (bits : ℕ → ℕ) where
  pub clear_two : (xs ys : List ℕ) (a b : Bool) → (a ≡ true) ↔ AreUnlost bits xs → (b ≡ true) ↔ AreUnlost bits ys → ((a && b) ≡ true) ↔ AreUnlost bits (xs ++ ys)
  clear_two xs ys true true x y = ((λ e. unlost_both bits xs ys (x.0 refl) (y.0 refl)), (λ u. refl))
  clear_two xs ys true false x y = ((λ e. absurd (never e)), (λ u. y.1 (unlost_right bits xs ys u)))
  clear_two xs ys false b x y = ((λ e. absurd (never e)), (λ u. x.1 (unlost_left bits xs ys u)))

  regroup : (a b c : Bool) → (a && b && c) ≡ (a && (b && c))
  regroup true b c = refl
  regroup false b c = refl

  pub clear_three : (xs ys zs : List ℕ) (a b c r : Bool) → r ≡ (a && b && c) → (a ≡ true) ↔ AreUnlost bits xs → (b ≡ true) ↔ AreUnlost bits ys → (c ≡ true) ↔ AreUnlost bits zs → (r ≡ true) ↔ AreUnlost bits (xs ++ (ys ++ zs))
  clear_three xs ys zs a b c r is x y z =
      let all = clear_two xs (ys ++ zs) a (b && c) x (clear_two ys zs b c y z) in
      ((λ e. all.0 (sym (is ∙ regroup a b c) ∙ e)), (λ u. is ∙ regroup a b c ∙ all.1 u))

  module _ {A : Type 0} (F : List A → List ℕ) (f : A → List ℕ) (more : (x : A) (xs : List A) → F (x ∷ xs) ≡ f x ++ F xs) (xs : List A) where
    -- what the first so many items leave to be shown
    abbrev pub LeftClear : ℕ → Type 0
    LeftClear i = AreUnlost bits (F xs) ↔ AreUnlost bits (F (drop i xs))

    opened : (d : A) (i : ℕ) → i < length xs → F (drop i xs) ≡ f (get_or xs i d) ++ F (drop (i + 1) xs)
    opened d i lt = ap F (drop_more xs i d lt) ∙ more (get_or xs i d) (drop (i + 1) xs)

    pub one_gone : (d : A) (i : ℕ) → i < length xs → LeftClear i → AreUnlost bits (f (get_or xs i d)) → LeftClear (i + 1)
    one_gone d i lt left a = (
      (λ h. unlost_right bits (f (get_or xs i d)) (F (drop (i + 1) xs)) (subst (AreUnlost bits) (opened d i lt) (left.0 h))),
      (λ h. left.1 (subst (AreUnlost bits) (sym (opened d i lt)) (unlost_both bits (f (get_or xs i d)) (F (drop (i + 1) xs)) a h))),
    )

    pub one_differs : (d : A) (i : ℕ) → i < length xs → LeftClear i → (AreUnlost bits (f (get_or xs i d)) → ⊥) → (false ≡ true) ↔ AreUnlost bits (F xs)
    one_differs d i lt left a = (
      (λ e. absurd (never e)),
      (λ h. absurd (a (unlost_left bits (f (get_or xs i d)) (F (drop (i + 1) xs)) (subst (AreUnlost bits) (opened d i lt) (left.0 h))))),
    )
