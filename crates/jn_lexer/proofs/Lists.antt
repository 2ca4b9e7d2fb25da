-- Fronts of lists.
use Rattle.std.proofs.Common.{◌≡◌, ℕ, suc, ◌+◌, ◌<◌, ◌≤◌, Bool, true, false, cond, List, [], ◌∷◌, ◌++◌, length, take, drop, refl, sym, ap, ◌∙◌, subst, arith}
use Rattle.std.specs.List.{prefix_len}
use Rattle.std.specs.Prelude.{get_or, nat_eq, slice_get, Some}
use Rattle.std.proofs.lemmas.Bool.{eqb-true}
use Rattle.jn_lexer.specs.Characters.{AllAre, BeginsNot}

-- the front that passes
pub prefix_passes : (p : ℕ → Bool) (xs : List ℕ) → AllAre p (take (prefix_len p xs) xs)
prefix_passes p [] = tt
prefix_passes p (x ∷ xs) = here (prefix_passes p xs) (p x) refl
  where
    here : AllAre p (take (prefix_len p xs) xs) → (b : Bool) → p x ≡ b → AllAre p (take (cond b (1 + prefix_len p xs) 0) (x ∷ xs))
    here ih true e = let one : 1 + prefix_len p xs ≡ suc (prefix_len p xs) = omega arith in subst (λ n. AllAre p (take n (x ∷ xs))) (sym one) (e, ih)
    here ih false e = tt

pub prefix_longest : (p : ℕ → Bool) (xs ws rest : List ℕ) → xs ≡ ws ++ rest → AllAre p ws → length ws ≤ prefix_len p xs
prefix_longest p xs [] rest e a = omega arith
prefix_longest p [] (w ∷ ws) rest e a = cc
prefix_longest p (x ∷ xs) (w ∷ ws) rest e a =
    let same : x ≡ w = cc in
    let tail : xs ≡ ws ++ rest = cc in
    let px : p x ≡ true = subst (λ y. p y ≡ true) (sym same) a.0 in
    let ih = prefix_longest p xs ws rest tail a.1 in
    let n : cond (p x) (1 + prefix_len p xs) 0 ≡ 1 + prefix_len p xs = ap (λ b. cond b (1 + prefix_len p xs) 0) px in
    omega (arith, ih, n)

pub prefix_within : (p : ℕ → Bool) (xs : List ℕ) → prefix_len p xs ≤ length xs
prefix_within p [] = omega arith
prefix_within p (x ∷ xs) = here (prefix_within p xs) (p x)
  where
    here : prefix_len p xs ≤ length xs → (b : Bool) → cond b (1 + prefix_len p xs) 0 ≤ suc (length xs)
    here ih true = omega arith
    here ih false = omega arith

-- what follows it begins with nothing that passes
pub prefix_ends : (p : ℕ → Bool) (xs : List ℕ) → BeginsNot p (drop (prefix_len p xs) xs)
prefix_ends p [] = tt
prefix_ends p (x ∷ xs) = here (prefix_ends p xs) (p x) refl
  where
    here : BeginsNot p (drop (prefix_len p xs) xs) → (b : Bool) → p x ≡ b → BeginsNot p (drop (cond b (1 + prefix_len p xs) 0) (x ∷ xs))
    here ih true e = let one : 1 + prefix_len p xs ≡ suc (prefix_len p xs) = omega arith in subst (λ n. BeginsNot p (drop n (x ∷ xs))) (sym one) ih
    here ih false e = e

-- one front of a list is as long as another, so the two are one
pub same_front : (xs ys us vs : List ℕ) → xs ++ us ≡ ys ++ vs → length xs ≡ length ys → (xs ≡ ys) × (us ≡ vs)
same_front [] [] us vs e l = (refl, e)
same_front [] (y ∷ ys) us vs e l = absurd (omega arith)
same_front (x ∷ xs) [] us vs e l = absurd (omega arith)
same_front (x ∷ xs) (y ∷ ys) us vs e l =
    let head : x ≡ y = cc in
    let tail : xs ++ us ≡ ys ++ vs = cc in
    let ih = same_front xs ys us vs tail (omega arith) in
    (ap (λ z. z ∷ xs) head ∙ ap (λ zs. y ∷ zs) ih.0, ih.1)

-- a list that isn't empty is its first element and the others
pub from_first : (P : List ℕ → Type 0) (xs : List ℕ) (x : ℕ) → 1 ≤ length xs → x ≡ get_or xs 0 x → P (x ∷ drop 1 xs) → P xs
from_first P [] x l e h = absurd (omega arith)
from_first P (y ∷ ys) x l e h = subst (λ z. P (z ∷ ys)) e h

pub from_none : (P : List ℕ → Type 0) (xs : List ℕ) → length xs < 1 → P [] → P xs
from_none P [] l h = h
from_none P (y ∷ ys) l h = absurd (omega arith)

pub test_false : (x n : ℕ) → (x ≡ n → ⊥) → nat_eq x n ≡ false
test_false x n f = here (nat_eq x n) refl
  where
    here : (b : Bool) → nat_eq x n ≡ b → b ≡ false
    here true e = absurd (f (eqb-true x n e))
    here false e = refl

-- the element after a front
pub get_at : (xs ys : List ℕ) (y n : ℕ) → length xs ≡ n → slice_get (xs ++ y ∷ ys) n ≡ Some y
get_at [] ys y n l = subst (λ m. slice_get (y ∷ ys) m ≡ Some y) l refl
get_at (x ∷ xs) ys y n l = subst (λ m. slice_get (x ∷ (xs ++ y ∷ ys)) m ≡ Some y) l (get_at xs ys y (length xs) refl)
