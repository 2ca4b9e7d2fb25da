-- The table finds what stands in scope.
use Rattle.std.proofs.Common.{◌≡◌, ◌<◌, ◌⊎◌, ⊎_elim, inl, inr, ℕ, zero, suc, Bool, true, false, cond, eqb, List, [], ◌∷◌, ◌++◌, length, get_or, Option, Some, None, refl, sym, ap, ◌∙◌, subst, arith}
use Rattle.std.specs.Prelude.{is_some}
use Rattle.std.proofs.lemmas.Bool.{eqb-true, eq-eqb}
use Rattle.std.proofs.lemmas.List.{get_or_append_left, length-append}
use Rattle.jn_trees.specs.declared.expression.Identifier.{Identifier}
use Rattle.jn_phase_notes.specs.Earlier.{has_name, standing}
use Rattle.jn_phase_notes.specs.Stands.{named_at}

true_or_false : {P : Type 0} (b : Bool) → (b ≡ true → P) → (b ≡ false → P) → P
true_or_false true f g = f refl
true_or_false false f g = g refl

none_found : (n : ℕ) (names : List Identifier) → ((i : ℕ) (x : Identifier) → i < length names → has_name n (get_or names i x) ≡ false) → standing names n ≡ None
none_found n [] h = refl
none_found n (y ∷ ys) h = ap (λ b. cond b (Some y) (standing ys n)) (h 0 y (omega arith)) ∙ none_found n ys (λ i x lt. h (suc i) x (omega (arith, lt)))

none_there : (n : ℕ) (names : List Identifier) → standing names n ≡ None → (i : ℕ) (x : Identifier) → i < length names → has_name n (get_or names i x) ≡ false
none_there n [] h i x lt = absurd (omega (arith, lt))
none_there n (y ∷ ys) h zero x lt = true_or_false (has_name n y) (λ t. absurd (clash (sym (ap (λ b. cond b (Some y) (standing ys n)) t) ∙ h))) (λ f. f)
  where
    clash : Some y ≡ None → ⊥
    clash e = cc
none_there n (y ∷ ys) h (suc i) x lt = true_or_false (has_name n y) (λ t. absurd (clash (sym (ap (λ b. cond b (Some y) (standing ys n)) t) ∙ h))) (λ f. none_there n ys (sym (ap (λ b. cond b (Some y) (standing ys n)) f) ∙ h) i x (omega (arith, lt)))
  where
    clash : Some y ≡ None → ⊥
    clash e = cc

only_there : (n : ℕ) (names : List Identifier) (p : ℕ) → ((i : ℕ) (x : Identifier) → i < length names → has_name n (get_or names i x) ≡ true → i ≡ p) → standing names n ≡ named_at names p n
only_there n [] p h = refl
only_there n (y ∷ ys) zero h = ap (λ o. cond (has_name n y) (Some y) o) (none_found n ys (λ i x lt. true_or_false (has_name n (get_or ys i x)) (λ t. absurd (omega (arith, h (suc i) x (omega (arith, lt)) t))) (λ f. f)))
only_there n (y ∷ ys) (suc p) h = true_or_false (has_name n y) (λ t. absurd (omega (arith, h 0 y (omega arith) t))) (λ f. ap (λ b. cond b (Some y) (standing ys n)) f ∙ only_there n ys p (λ i x lt t. less i (h (suc i) x (omega (arith, lt)) t)))
  where
    less : (i : ℕ) → suc i ≡ suc p → i ≡ p
    less i e = omega (arith, e)

behind : (xs : List Identifier) (x y : Identifier) → get_or (xs ++ x ∷ []) (length xs) y ≡ x
behind [] x y = refl
behind (z ∷ xs) x y = behind xs x y

below_or : (i n : ℕ) → i < suc n → (i < n) ⊎ (i ≡ n)
below_or zero zero lt = inr refl
below_or zero (suc n) lt = inl (omega arith)
below_or (suc i) zero lt = absurd (omega (arith, lt))
below_or (suc i) (suc n) lt = ⊎_elim (λ h. inl (omega (arith, h))) (λ e. inr (ap suc e)) (below_or i n (omega (arith, lt)))

none_some : {A : Type 0} (x : A) → None ≡ Some x → ⊥
none_some x e = cc

same_place : (i p : ℕ) → Some i ≡ Some p → i ≡ p
same_place i p e = cc

abbrev Says : List Identifier → (ℕ → Option ℕ) → Type 0
Says names g = (i : ℕ) (x : Identifier) → i < length names → g (get_or names i x).name.0 ≡ Some i

module _ (names : List Identifier) (g : ℕ → Option ℕ) (says : Says names g) where
  pub says_none : (n : ℕ) → None ≡ g n → None ≡ standing names n
  says_none n h = sym (none_found n names (λ i x lt. true_or_false (has_name n (get_or names i x)) (λ t. absurd (none_some i (h ∙ ap g (eqb-true n (get_or names i x).name.0 t) ∙ says i x lt))) (λ f. f)))

  pub says_some : (n p : ℕ) (r : Option Identifier) (shown : List Identifier) → Some p ≡ g n → shown ≡ names → r ≡ named_at shown p n → r ≡ standing names n
  says_some n p r shown h s e = e ∙ ap (λ xs. named_at xs p n) s ∙ sym (only_there n names p (λ i x lt t. same_place i p (sym (says i x lt) ∙ sym (ap g (eqb-true n (get_or names i x).name.0 t)) ∙ sym h)))

  -- the table says the place of one more
  pub says_still : (k : ℕ) (new : ℕ → Option ℕ) (p : ℕ) → standing names k ≡ None → ((q : ℕ) → new q ≡ cond (eqb k q) (Some p) (g q)) → (same : List Identifier) → same ≡ names → Says same new
  says_still k new p none put same is = subst (λ xs. Says xs new) (sym is) (λ i x lt. put (get_or names i x).name.0 ∙ ap (λ b. cond b (Some p) (g (get_or names i x).name.0)) (none_there k names none i x lt) ∙ says i x lt)

  pub says_more : (x : Identifier) (new : ℕ → Option ℕ) (p : ℕ) → p ≡ length names → standing names x.name.0 ≡ None → ((q : ℕ) → new q ≡ cond (eqb x.name.0 q) (Some p) (g q)) → (more : List Identifier) → more ≡ names ++ x ∷ [] → Says more new
  says_more x new p long none put more is = subst (λ xs. Says xs new) (sym is) by_place
    where
      by_place : Says (names ++ x ∷ []) new
      by_place i y lt = ⊎_elim old last (below_or i (length names) (omega (arith, lt, length-append names (x ∷ []))))
        where
          old : i < length names → new (get_or (names ++ x ∷ []) i y).name.0 ≡ Some i
          old below = ap (λ z. new z.name.0) (get_or_append_left names (x ∷ []) y i below) ∙ says_still x.name.0 new p none put names refl i y below

          last : i ≡ length names → new (get_or (names ++ x ∷ []) i y).name.0 ≡ Some i
          last e = ap (λ j. new (get_or (names ++ x ∷ []) j y).name.0) e ∙ ap (λ z. new z.name.0) (behind names x y) ∙ put x.name.0 ∙ ap (λ b. cond b (Some p) (g x.name.0)) (eq-eqb x.name.0 x.name.0 refl) ∙ ap Some (long ∙ sym e)

not_some : (o : Option Identifier) → false ≡ is_some o → o ≡ None
not_some None e = refl
not_some (Some x) e = absurd (clash e)
  where
    clash : false ≡ true → ⊥
    clash e = cc

pub no_one : (found : Option Identifier) (names : List Identifier) (n : ℕ) (b : Bool) → b ≡ is_some found → b ≡ false → found ≡ standing names n → standing names n ≡ None
no_one found names n b e f is = sym is ∙ not_some found (sym f ∙ e)
