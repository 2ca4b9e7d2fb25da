-- What is in a list is in what is made of it.
use Rattle.std.proofs.Common.{◌≡◌, ◌<◌, ◌⊎◌, inl, inr, ⊎_elim, ℕ, zero, suc, Bool, true, false, cond, List, [], ◌∷◌, ◌++◌, length, get_or, refl, sym, ap, ◌∙◌, subst, arith, map}
use Rattle.std.specs.Prelude.{Contains, filter}
use Rattle.std.proofs.lemmas.List.Elements.{Contains-append_right}

first_in : {K : Type 0} (x : K) (xs : List K) → Contains (x ∷ xs) x
first_in x xs = (0, omega arith, refl)

pub none_in : {K : Type 0} (y : K) → Contains [] y → ⊥
none_in y h = let below = h.1 in omega arith

rest_in : {K : Type 0} (x y : K) (xs : List K) → Contains xs y → Contains (x ∷ xs) y
rest_in x y xs h = (suc h.0, (let below = h.1 in omega arith), h.2)

at_cases : {K : Type 0} (x y : K) (xs : List K) (k : ℕ) → k < length (x ∷ xs) → get_or (x ∷ xs) k y ≡ y → (x ≡ y) ⊎ Contains xs y
at_cases x y xs zero below at = inl at
at_cases x y xs (suc k) below at = inr (k, omega arith, at)

pub in_cases : {K : Type 0} (x y : K) (xs : List K) → Contains (x ∷ xs) y → (x ≡ y) ⊎ Contains xs y
in_cases x y xs h = at_cases x y xs h.0 h.1 h.2

-- what passes the test
pub in_filter : {K : Type 0} (p : K → Bool) (xs : List K) (y : K) → Contains xs y → p y ≡ true → Contains (filter p xs) y
in_filter p [] y h t = absurd (none_in y h)
in_filter p (x ∷ xs) y h t = ⊎_elim (λ e. here e) (λ k. there (p x) (in_filter p xs y k t)) (in_cases x y xs h)
  where
    there : (b : Bool) → Contains (filter p xs) y → Contains (cond b (x ∷ filter p xs) (filter p xs)) y
    there true k = rest_in x y (filter p xs) k
    there false k = k

    here : x ≡ y → Contains (cond (p x) (x ∷ filter p xs) (filter p xs)) y
    here e = subst (λ b. Contains (cond b (x ∷ filter p xs) (filter p xs)) y) (sym (ap p e ∙ t)) (subst (λ z. Contains (x ∷ filter p xs) z) e (first_in x (filter p xs)))

-- what is made of an item
pub in_map : {K L : Type 0} (f : K → L) (xs : List K) (x : K) → Contains xs x → Contains (map f xs) (f x)
in_map f [] x h = absurd (none_in x h)
in_map f (y ∷ xs) x h = ⊎_elim (λ e. subst (λ z. Contains (f y ∷ map f xs) (f z)) e (first_in (f y) (map f xs))) (λ k. rest_in (f y) (f x) (map f xs) (in_map f xs x k)) (in_cases y x xs h)
