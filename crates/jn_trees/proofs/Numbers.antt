-- Texts by their numbers.
use Rattle.std.proofs.Common.{◌≡◌, ℕ, zero, suc, ◌+◌, Bool, true, false, cond, not, ◌||◌, List, [], ◌∷◌, ◌++◌, length, Option, Some, None, refl, sym, ap, ◌∙◌, subst, arith}
use Rattle.std.specs.Prelude.{bytes_eq, slice_get, nat_eq}
use Rattle.std.specs.List.{list_any}
use Rattle.std.specs.Cmp.Lexicographic.{bytes_decides}
use Rattle.std.proofs.lemmas.Bool.{false≢true, eqb-true, eq-eqb}
use Rattle.jn_trees.specs.Names.{with_name, number_in, AreDistinct}

-- a list with a known text, or with a new one after
step : (x : List ℕ) (names : List (List ℕ)) (text : List ℕ) (b : Bool) → cond b (x ∷ names) ((x ∷ names) ++ text ∷ []) ≡ x ∷ cond b names (names ++ text ∷ [])
step x names text true = refl
step x names text false = refl

pub number_found : (names : List (List ℕ)) (text : List ℕ) → slice_get (with_name names text) (number_in names text) ≡ Some text
number_found [] text = refl
number_found (x ∷ names) text = here (bytes_eq text x) refl (number_found names text)
  where
    here : (b : Bool) → bytes_eq text x ≡ b → slice_get (with_name names text) (number_in names text) ≡ Some text → slice_get (cond (b || list_any (bytes_eq text) names) (x ∷ names) ((x ∷ names) ++ text ∷ [])) (cond (not b) (1 + number_in names text) 0) ≡ Some text
    here true e ih = ap Some (sym ((bytes_decides text x).0 e))
    here false e ih =
        let one : 1 + number_in names text ≡ suc (number_in names text) = omega arith in
        subst (λ n. slice_get (cond (list_any (bytes_eq text) names) (x ∷ names) ((x ∷ names) ++ text ∷ [])) n ≡ Some text) (sym one)
        (subst (λ l. slice_get l (suc (number_in names text)) ≡ Some text) (sym (step x names text (list_any (bytes_eq text) names))) ih)

-- no text of the list is the text
Lacks : List (List ℕ) → List ℕ → Type 0
Lacks names text = (i : ℕ) → slice_get names i ≡ Some text → ⊥

same_eq : (text : List ℕ) → bytes_eq text text ≡ true
same_eq text = (bytes_decides text text).1 refl

lacks : (names : List (List ℕ)) (text : List ℕ) → list_any (bytes_eq text) names ≡ false → Lacks names text
unfolding Lacks
lacks [] text e i h = let f : ◌≡◌ {A = Option (List ℕ)} None (Some text) = h in cc
lacks (x ∷ names) text e zero h =
    let same : x ≡ text = (let f : ◌≡◌ {A = Option (List ℕ)} (Some x) (Some text) = h in cc) in
    false≢true (sym e ∙ ap (λ b. b || list_any (bytes_eq text) names) (ap (bytes_eq text) same ∙ same_eq text))
lacks (x ∷ names) text e (suc i) h = lacks names text (rest (bytes_eq text x) e) i h
  where
    rest : (b : Bool) → (b || list_any (bytes_eq text) names) ≡ false → list_any (bytes_eq text) names ≡ false
    rest true e = absurd (false≢true (sym e))
    rest false e = e

tail_distinct : (x : List ℕ) (names : List (List ℕ)) → AreDistinct (x ∷ names) → AreDistinct names
tail_distinct x names d i j t a b = let e = d (suc i) (suc j) t a b in omega arith

-- what stands at a place of a list with one more
at_push : (names : List (List ℕ)) (text t : List ℕ) (i : ℕ) → slice_get (names ++ text ∷ []) i ≡ Some t → (i ≡ length names → t ≡ text) × ((i ≡ length names → ⊥) → slice_get names i ≡ Some t)
at_push [] text t zero h = (λ e. (let f : ◌≡◌ {A = Option (List ℕ)} (Some text) (Some t) = h in cc), λ n. absurd (n refl))
at_push [] text t (suc i) h = absurd (let f : ◌≡◌ {A = Option (List ℕ)} None (Some t) = h in cc)
at_push (x ∷ names) text t zero h = (λ e. absurd (omega arith), λ n. h)
at_push (x ∷ names) text t (suc i) h = let r = at_push names text t i h in (λ e. r.0 (omega arith), λ n. r.1 (λ e. n (ap suc e)))

pub still_distinct : (names : List (List ℕ)) (text : List ℕ) → AreDistinct names → AreDistinct (with_name names text)
unfolding Lacks
still_distinct names text d = here (list_any (bytes_eq text) names) refl
  where
    decide : (a b : ℕ) → (P : Type 0) → (a ≡ b → P) → ((a ≡ b → ⊥) → P) → P
    decide a b P yes_case no_case = go (nat_eq a b) refl
      where
        go : (x : Bool) → nat_eq a b ≡ x → P
        go true e = yes_case (eqb-true a b e)
        go false e = no_case (λ s. false≢true (sym e ∙ eq-eqb a b s))

    pushed : Lacks names text → AreDistinct (names ++ text ∷ [])
    pushed l i j t a b =
        let p = at_push names text t i a in
        let q = at_push names text t j b in
        decide i (length names) (i ≡ j)
        (λ e. decide j (length names) (i ≡ j) (λ f. e ∙ sym f) (λ f. absurd (l j (q.1 f ∙ ap Some (p.0 e)))))
        (λ e. decide j (length names) (i ≡ j) (λ f. absurd (l i (p.1 e ∙ ap Some (q.0 f)))) (λ f. d i j t (p.1 e) (q.1 f)))

    here : (b : Bool) → list_any (bytes_eq text) names ≡ b → AreDistinct (cond b names (names ++ text ∷ []))
    here true e = d
    here false e = pushed (lacks names text e)
