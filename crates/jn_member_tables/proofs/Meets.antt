-- Numbers in lists with one item more.
use Rattle.std.proofs.Common.{◌≡◌, ◌<◌, ◌≤◌, ◌+◌, ℕ, zero, suc, Bool, true, false, cond, ◌||◌, ◌⊎◌, inl, inr, List, [], ◌∷◌, ◌++◌, length, get_or, take, refl, sym, ap, ◌∙◌, subst, eqb, arith}
use Rattle.std.proofs.lemmas.Bool.{eqb-true, eq-eqb, or_left, or_right}
use Rattle.std.proofs.lemmas.List.{take_more}
use Rattle.jn_member_tables.specs.Numbers.{list_at, contains}
use Rattle.jn_member_tables.proofs.Found.{or_true}

pub contains_left : (xs ys : List ℕ) (c : ℕ) → contains xs c ≡ true → contains (xs ++ ys) c ≡ true
contains_left [] ys c h = cc
contains_left (x ∷ xs) ys c h = by (or_true (eqb x c) (contains xs c) h) (contains_left xs ys c)
  where
    by : (eqb x c ≡ true) ⊎ (contains xs c ≡ true) → (contains xs c ≡ true → contains (xs ++ ys) c ≡ true) → (eqb x c || contains (xs ++ ys) c) ≡ true
    by (inl e) rest = or_left (eqb x c) (contains (xs ++ ys) c) e
    by (inr e) rest = or_right (eqb x c) (contains (xs ++ ys) c) (rest e)

pub contains_last : (xs : List ℕ) (c : ℕ) → contains (xs ++ c ∷ []) c ≡ true
contains_last [] c = or_left (eqb c c) false (eq-eqb c c refl)
contains_last (x ∷ xs) c = or_right (eqb x c) (contains (xs ++ c ∷ []) c) (contains_last xs c)

pub contains_split : (xs : List ℕ) (y d : ℕ) → contains (xs ++ y ∷ []) d ≡ true → (contains xs d ≡ true) ⊎ (y ≡ d)
contains_split [] y d h = by (or_true (eqb y d) false h)
  where
    by : (eqb y d ≡ true) ⊎ (false ≡ true) → (contains [] d ≡ true) ⊎ (y ≡ d)
    by (inl e) = inr (eqb-true y d e)
    by (inr e) = inl e
contains_split (x ∷ xs) y d h = by (or_true (eqb x d) (contains (xs ++ y ∷ []) d) h) (contains_split xs y d)
  where
    by : (eqb x d ≡ true) ⊎ (contains (xs ++ y ∷ []) d ≡ true) → (contains (xs ++ y ∷ []) d ≡ true → (contains xs d ≡ true) ⊎ (y ≡ d)) → (contains (x ∷ xs) d ≡ true) ⊎ (y ≡ d)
    by (inl e) rest = inl (or_left (eqb x d) (contains xs d) e)
    by (inr e) rest = on (rest e)
      where
        on : (contains xs d ≡ true) ⊎ (y ≡ d) → (contains (x ∷ xs) d ≡ true) ⊎ (y ≡ d)
        on (inl k) = inl (or_right (eqb x d) (contains xs d) k)
        on (inr k) = inr k

module _ (old new : List (List ℕ)) (at item : ℕ) (pushed : (d : ℕ) → list_at new d ≡ list_at old d ++ cond (eqb at d) (item ∷ []) []) where
  pub kept_push : (c d : ℕ) → contains (list_at old d) c ≡ true → contains (list_at new d) c ≡ true
  kept_push c d h = subst (λ xs. contains xs c ≡ true) (sym (pushed d)) (contains_left (list_at old d) (cond (eqb at d) (item ∷ []) []) c h)

  here_push : contains (list_at new at) item ≡ true
  here_push =
      let e : cond (eqb at at) (item ∷ []) [] ≡ item ∷ [] = ap (λ b. cond b (item ∷ []) []) (eq-eqb at at refl) in
      subst (λ xs. contains xs item ≡ true) (sym (pushed at ∙ ap (λ xs. list_at old at ++ xs) e)) (contains_last (list_at old at) item)

  pub met_push : (walk : List ℕ) (i n : ℕ) → i < length walk → at ≡ get_or walk i 0 → ((d : ℕ) → d < n → contains (take i walk) d ≡ true → contains (list_at old d) item ≡ true) → (d : ℕ) → d < n → contains (take (i + 1) walk) d ≡ true → contains (list_at new d) item ≡ true
  met_push walk i n lt e inv d low h =
      let s : contains (take i walk ++ get_or walk i 0 ∷ []) d ≡ true = subst (λ xs. contains xs d ≡ true) (take_more walk i 0 lt) h in
      by (contains_split (take i walk) (get_or walk i 0) d s)
    where
      by : (contains (take i walk) d ≡ true) ⊎ (get_or walk i 0 ≡ d) → contains (list_at new d) item ≡ true
      by (inl k) = kept_push item d (inv d low k)
      by (inr k) = subst (λ z. contains (list_at new z) item ≡ true) (e ∙ k) here_push

-- a class past the end isn't asked for
pub met_past : (lists : List (List ℕ)) (item : ℕ) (walk : List ℕ) (i n at : ℕ) → i < length walk → at ≡ get_or walk i 0 → n ≤ at → ((d : ℕ) → d < n → contains (take i walk) d ≡ true → contains (list_at lists d) item ≡ true) → (d : ℕ) → d < n → contains (take (i + 1) walk) d ≡ true → contains (list_at lists d) item ≡ true
met_past lists item walk i n at lt e past inv d low h = by (contains_split (take i walk) (get_or walk i 0) d (subst (λ xs. contains xs d ≡ true) (take_more walk i 0 lt) h))
  where
    by : (contains (take i walk) d ≡ true) ⊎ (get_or walk i 0 ≡ d) → contains (list_at lists d) item ≡ true
    by (inl k) = inv d low k
    by (inr k) = absurd (let s : at ≡ d = e ∙ k in omega (arith, past, low, s))

-- the walk of one class more is met
pub met_class : (walks now new : List (List ℕ)) (n i : ℕ) (walk : List ℕ) → walk ≡ list_at walks i → ((c d : ℕ) → contains (list_at now d) c ≡ true → contains (list_at new d) c ≡ true) → ((d : ℕ) → d < n → contains walk d ≡ true → contains (list_at new d) i ≡ true) → ((c d : ℕ) → c < i → d < n → contains (list_at walks c) d ≡ true → contains (list_at now d) c ≡ true) → (c d : ℕ) → c < i + 1 → d < n → contains (list_at walks c) d ≡ true → contains (list_at new d) c ≡ true
met_class walks now new n i walk e kept here met c d lt low w = by (eqb c i) refl
  where
    by : (b : Bool) → eqb c i ≡ b → contains (list_at new d) c ≡ true
    by true k =
        let s : c ≡ i = eqb-true c i k in
        subst (λ z. contains (list_at new d) z ≡ true) (sym s) (here d low (subst (λ xs. contains xs d ≡ true) (sym e) (subst (λ z. contains (list_at walks z) d ≡ true) s w)))
    by false k =
        let other : c ≡ i → ⊥ = λ s. (let t = eq-eqb c i s in cc) in
        let l : c < i = grind (arith, lt) in
        kept c d (met c d l low w)
