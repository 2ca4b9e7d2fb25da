-- Steps of lists by a key, and numbers found along lists.
use Rattle.std.proofs.Common.{◌≡◌, ◌<◌, ◌+◌, ℕ, zero, suc, Bool, true, false, cond, ◌||◌, ◌⊎◌, inl, inr, List, [], ◌∷◌, ◌++◌, length, drop, get_or, set, Option, Some, None, refl, sym, ap, ◌∙◌, subst, eqb}
use Rattle.std.proofs.lemmas.Bool.{eqb-true, eq-eqb}
use Rattle.std.proofs.lemmas.List.{at_drop_more, get_or-set_same, get_or-set_other, append_assoc}
use Rattle.jn_points.specs.Members.{first_or, first_some}
use Rattle.jn_member_tables.specs.Numbers.{list_at, places_of, contains}

pub true_or_not : (b : Bool) → (b ≡ true) ⊎ (b ≡ false)
true_or_not true = inl refl
true_or_not false = inr refl

pub or_true : (a b : Bool) → (a || b) ≡ true → (a ≡ true) ⊎ (b ≡ true)
or_true true b h = inl refl
or_true false b h = inr h

-- one empty list more
pub empty_more : (lists : List (List ℕ)) → ((d : ℕ) → list_at lists d ≡ []) → (d : ℕ) → list_at (lists ++ [] ∷ []) d ≡ []
empty_more [] h zero = refl
empty_more [] h (suc d) = refl
empty_more (x ∷ xs) h zero = h 0
empty_more (x ∷ xs) h (suc d) = empty_more xs (λ d. h (suc d)) d

-- a list with one item more
pub pushed : (lists : List (List ℕ)) (at item d : ℕ) (list : List ℕ) → at < length lists → list ≡ get_or lists at [] ++ item ∷ [] → list_at (set lists at list) d ≡ list_at lists d ++ cond (eqb at d) (item ∷ []) []
pushed lists at item d list l e = by (true_or_not (eqb at d))
  where
    by : (eqb at d ≡ true) ⊎ (eqb at d ≡ false) → list_at (set lists at list) d ≡ list_at lists d ++ cond (eqb at d) (item ∷ []) []
    by (inl k) =
        let same : at ≡ d = eqb-true at d k in
        rw k (subst (λ z. list_at (set lists at list) z ≡ list_at lists z ++ item ∷ []) same (get_or-set_same lists at list [] l ∙ e))
    by (inr k) =
        let other : d ≡ at → ⊥ = λ s. (let t : eqb at d ≡ true = eq-eqb at d (sym s) in cc) in
        rw k (get_or-set_other lists at d list [] other ∙ sym (append-nil (list_at lists d)))
      where
        append-nil : (xs : List ℕ) → xs ++ [] ≡ xs
        append-nil [] = refl
        append-nil (x ∷ xs) = ap (λ r. x ∷ r) (append-nil xs)

-- one place more has been looked at
pub place_more : (keys : List ℕ) (i d : ℕ) (old new : List ℕ) → i < length keys → new ≡ old ++ cond (eqb (get_or keys i 0) d) (i ∷ []) [] → old ++ places_of d i (drop i keys) ≡ places_of d 0 keys → new ++ places_of d (i + 1) (drop (i + 1) keys) ≡ places_of d 0 keys
place_more keys i d old new l e h =
    let here = cond (eqb (get_or keys i 0) d) (i ∷ []) [] in
    ap (λ r. r ++ places_of d (i + 1) (drop (i + 1) keys)) e ∙ (append_assoc old here (places_of d (i + 1) (drop (i + 1) keys)) ∙ (sym (ap (λ r. old ++ r) (at_drop_more (places_of d i) keys i 0 l)) ∙ h))

pub first_or_assoc : (a b c : Option ℕ) → first_or a (first_or b c) ≡ first_or (first_or a b) c
first_or_assoc None b c = refl
first_or_assoc (Some n) b c = refl

pub first_or_none : (a : Option ℕ) → first_or a None ≡ a
first_or_none None = refl
first_or_none (Some n) = refl

pub first_some_append : (f : ℕ → Option ℕ) (xs ys : List ℕ) → first_some f (xs ++ ys) ≡ first_or (first_some f xs) (first_some f ys)
first_some_append f [] ys = refl
first_some_append f (x ∷ xs) ys = ap (first_or (f x)) (first_some_append f xs ys) ∙ first_or_assoc (f x) (first_some f xs) (first_some f ys)

-- what was met before finds nothing new
pub met_before : (f : ℕ → Option ℕ) (xs : List ℕ) (x : ℕ) (rest : Option ℕ) → contains xs x ≡ true → first_or (first_some f xs) (first_or (f x) rest) ≡ first_or (first_some f xs) rest
met_before f [] x rest h = cc
met_before f (y ∷ ys) x rest h = by (or_true (eqb y x) (contains ys x) h) (met_before f ys x rest)
  where
    found : (a : Option ℕ) (b : Option ℕ) → first_or (first_or a b) (first_or a rest) ≡ first_or (first_or a b) rest
    found None b = refl
    found (Some n) b = refl

    by : (eqb y x ≡ true) ⊎ (contains ys x ≡ true) → (contains ys x ≡ true → first_or (first_some f ys) (first_or (f x) rest) ≡ first_or (first_some f ys) rest) → first_or (first_or (f y) (first_some f ys)) (first_or (f x) rest) ≡ first_or (first_or (f y) (first_some f ys)) rest
    by (inl e) ih = let s : y ≡ x = eqb-true y x e in subst (λ z. first_or (first_or (f y) (first_some f ys)) (first_or (f z) rest) ≡ first_or (first_or (f y) (first_some f ys)) rest) s (found (f y) (first_some f ys))
    by (inr e) ih = sym (first_or_assoc (f y) (first_some f ys) (first_or (f x) rest)) ∙ (ap (first_or (f y)) (ih e) ∙ first_or_assoc (f y) (first_some f ys) rest)

module _ (more old : List ℕ) (i : ℕ) (lt : i < length more) where
  pub new_met : (walk : List ℕ) (x : ℕ) → x ≡ get_or more i 0 → contains walk x ≡ true → ((f : ℕ → Option ℕ) → first_or (first_some f walk) (first_some f (drop i more)) ≡ first_or (first_some f old) (first_some f more)) → (f : ℕ → Option ℕ) → first_or (first_some f walk) (first_some f (drop (i + 1) more)) ≡ first_or (first_some f old) (first_some f more)
  new_met walk x e h inv f =
      let met = met_before f walk (get_or more i 0) (first_some f (drop (i + 1) more)) (subst (λ z. contains walk z ≡ true) e h) in
      sym met ∙ (sym (ap (first_or (first_some f walk)) (at_drop_more (first_some f) more i 0 lt)) ∙ inv f)

  pub new_pushed : (walk new : List ℕ) → new ≡ walk ++ get_or more i 0 ∷ [] → ((f : ℕ → Option ℕ) → first_or (first_some f walk) (first_some f (drop i more)) ≡ first_or (first_some f old) (first_some f more)) → (f : ℕ → Option ℕ) → first_or (first_some f new) (first_some f (drop (i + 1) more)) ≡ first_or (first_some f old) (first_some f more)
  new_pushed walk new e inv f =
      let x = get_or more i 0 in
      let rest = first_some f (drop (i + 1) more) in
      ap (λ w. first_or (first_some f w) rest) e
      ∙ (ap (λ o. first_or o rest) (first_some_append f walk (x ∷ []) ∙ ap (first_or (first_some f walk)) (first_or_none (f x)))
      ∙ (sym (first_or_assoc (first_some f walk) (f x) rest)
      ∙ (sym (ap (first_or (first_some f walk)) (at_drop_more (first_some f) more i 0 lt)) ∙ inv f)))
