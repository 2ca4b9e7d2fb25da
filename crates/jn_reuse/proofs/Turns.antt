-- Lists that are gone through item by item, as long as items are alike.
use Rattle.std.proofs.Common.{◌≡◌, ℕ, ◌+◌, ◌<◌, true, false, List, ◌∷◌, length, drop, get_or, sym, subst}
use Rattle.std.proofs.lemmas.List.{drop_more}
use Rattle.std.specs.Prelude.{◌↔◌}
use Rattle.jn_recheck_law.specs.Alike.{AllAlike}
use Rattle.jn_recheck_law.proofs.Seeing.{alike_long}

never : false ≡ true → ⊥
never e = cc

module _ {A : Type 0} (R : ℕ → A → A → Type 0) (xs ys : List A) where
  -- what the first so many items leave to be shown
  abbrev pub LeftAlike : ℕ → Type 0
  LeftAlike i = AllAlike R 0 xs ys ↔ AllAlike R i (drop i xs) (drop i ys)

  pub none_gone : LeftAlike 0
  none_gone = ((λ h. h), (λ h. h))

  opened : (d : A) (i : ℕ) → i < length xs → i < length ys → AllAlike R i (drop i xs) (drop i ys) → R i (get_or xs i d) (get_or ys i d) × AllAlike R (i + 1) (drop (i + 1) xs) (drop (i + 1) ys)
  opened d i lx ly h = subst (λ us. AllAlike R i (get_or xs i d ∷ drop (i + 1) xs) us) (drop_more ys i d ly) (subst (λ us. AllAlike R i us (drop i ys)) (drop_more xs i d lx) h)

  closed : (d : A) (i : ℕ) → i < length xs → i < length ys → R i (get_or xs i d) (get_or ys i d) → AllAlike R (i + 1) (drop (i + 1) xs) (drop (i + 1) ys) → AllAlike R i (drop i xs) (drop i ys)
  closed d i lx ly r h = subst (λ us. AllAlike R i us (drop i ys)) (sym (drop_more xs i d lx)) (subst (λ us. AllAlike R i (get_or xs i d ∷ drop (i + 1) xs) us) (sym (drop_more ys i d ly)) (r, h))

  pub one_gone : (d : A) (i : ℕ) → i < length xs → i < length ys → LeftAlike i → R i (get_or xs i d) (get_or ys i d) → LeftAlike (i + 1)
  one_gone d i lx ly left r = ((λ h. (opened d i lx ly (left.0 h)).1), (λ h. left.1 (closed d i lx ly r h)))

  pub one_differs : (d : A) (i : ℕ) → i < length xs → i < length ys → LeftAlike i → (R i (get_or xs i d) (get_or ys i d) → ⊥) → (false ≡ true) ↔ AllAlike R 0 xs ys
  one_differs d i lx ly left r = ((λ e. absurd (never e)), (λ h. absurd (r (opened d i lx ly (left.0 h)).0)))

  pub lengths_differ : (length xs ≡ length ys → ⊥) → (false ≡ true) ↔ AllAlike R 0 xs ys
  lengths_differ h = ((λ e. absurd (never e)), (λ a. absurd (h (alike_long R 0 xs ys a))))
