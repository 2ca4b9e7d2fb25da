-- What was made of numbers, in any order, and in the order of the numbers.
use Rattle.std.proofs.Common.{◌≡◌, ◌≢◌, ℕ, zero, suc, ◌+◌, ◌<◌, List, [], ◌∷◌, ◌++◌, length, set, get_or, Option, Some, None, refl, sym, ap, ◌∙◌, subst, arith}
use Rattle.std.specs.Prelude.{IfSome, option_to_list, slice_get}
use Rattle.std.proofs.lemmas.List.Elements.{All-append, All-pop}
use Rattle.std.proofs.lemmas.List.{get_or_append_left, get_or_push, length-append}
use mathlib.Core.Logic.{dite}
use native.Mathlib.Decide.{ℕ_discrete}
use Rattle.jn_sharing.specs.Made.{AreMade, AreMadeInOrder}

module _ {X : Type 0} (Makes : ℕ → X → Type 0) where
  only : (number : ℕ) (value : X) → Makes number value → AreMade Makes ((number, value) ∷ [])
  only number value is zero d lt = is
  only number value is (suc k) d lt = absurd (omega (arith, lt))

  pub both_made : (made others all : List (ℕ × X)) → all ≡ made ++ others → AreMade Makes made → AreMade Makes others → AreMade Makes all
  both_made made others all is x y = subst (AreMade Makes) (sym is) (All-append (λ (p : ℕ × X). Makes p.0 p.1) made others x y)

  pub one_made : (made all : List (ℕ × X)) (number : ℕ) (value : X) → all ≡ made ++ (number, value) ∷ [] → AreMade Makes made → Makes number value → AreMade Makes all
  one_made made all number value put are is = both_made made ((number, value) ∷ []) all put are (only number value is)

  -- one that is popped was made of its number, as were the others
  pub popped : (made left : List (ℕ × X)) (last : Option (ℕ × X)) (number : ℕ) (value : X) → made ≡ left ++ option_to_list last → last ≡ Some (number, value) → AreMade Makes made → AreMade Makes left × Makes number value
  popped made left last number value whole is are =
      let all = All-pop (λ (p : ℕ × X). Makes p.0 p.1) made left last whole are in
      (all.0, subst (λ (o : Option (ℕ × X)). IfSome o (λ p. Makes p.0 p.1)) is all.1)

  -- the value of one number more
  pub one_more : (count : ℕ) (values all : List X) (value : X) → AreMadeInOrder Makes count values → Makes count value → all ≡ values ++ value ∷ [] → AreMadeInOrder Makes (count + 1) all
  one_more count values all value are is put =
      let long : length all ≡ count + 1 = ap length put ∙ length-append values (value ∷ []) ∙ ap (λ n. n + 1) are.0 in
      let last : (n : ℕ) (d : X) → n ≡ count → Makes n (get_or all n d) = λ n d same.
      subst (λ (x : X). Makes n x) (sym (ap (λ xs. get_or xs n d) put ∙ get_or_push values value d n (are.0 ∙ sym same))) (subst (λ m. Makes m value) (sym same) is) in
      let before : (n : ℕ) (d : X) → n < count → Makes n (get_or all n d) = λ n d lt.
      let inside : n < length values = subst (λ m. n < m) (sym are.0) lt in
      subst (λ (x : X). Makes n x) (sym (ap (λ xs. get_or xs n d) put ∙ get_or_append_left values (value ∷ []) d n inside)) (are.1 n d lt) in
      (long, λ n d lt. dite (ℕ_discrete n count) (last n d) (λ other. before n d (omega (arith, lt, other))))

-- ---- laid out by their numbers

get_same : {X : Type 0} (xs : List X) (i : ℕ) (x y : X) → slice_get (set xs i x) i ≡ Some y → x ≡ y
get_same [] i x y e = absurd cc
get_same (z ∷ xs) zero x y e = cc
get_same (z ∷ xs) (suc i) x y e = get_same xs i x y e

get_else : {X : Type 0} (xs : List X) (i b : ℕ) (x y : X) → b ≢ i → slice_get (set xs i x) b ≡ Some y → slice_get xs b ≡ Some y
get_else [] i b x y ne e = e
get_else (z ∷ xs) zero zero x y ne e = absurd (ne refl)
get_else (z ∷ xs) zero (suc b) x y ne e = e
get_else (z ∷ xs) (suc i) zero x y ne e = e
get_else (z ∷ xs) (suc i) (suc b) x y ne e = get_else xs i b x y (λ s. ne (ap suc s)) e

module _ {X : Type 0} (F : ℕ → X → Type 0) (xs : List (Option X)) (old : (b : ℕ) (r : X) → slice_get xs b ≡ Some (Some r) → F b r) where
  pub laid_some : (i : ℕ) (x : X) → F i x → (b : ℕ) (r : X) → slice_get (set xs i (Some x)) b ≡ Some (Some r) → F b r
  laid_some i x p b r e = dite (ℕ_discrete b i)
      (λ s.
      let q : Some x ≡ Some r = get_same xs i (Some x) (Some r) (subst (λ y. slice_get (set xs i (Some x)) y ≡ Some (Some r)) s e) in
      subst (λ y. F y r) (sym s) (subst (F i) (one x r q) p))
      (λ ne. old b r (get_else xs i b (Some x) (Some r) ne e))
    where
      one : (x r : X) → Some x ≡ Some r → x ≡ r
      one x r e = cc

  pub laid_none : (i : ℕ) (b : ℕ) (r : X) → slice_get (set xs i None) b ≡ Some (Some r) → F b r
  laid_none i b r e = dite (ℕ_discrete b i)
      (λ s. absurd (gone r (get_same xs i None (Some r) (subst (λ y. slice_get (set xs i None) y ≡ Some (Some r)) s e))))
      (λ ne. old b r (get_else xs i b None (Some r) ne e))
    where
      gone : (r : X) → None ≡ Some r → ⊥
      gone r e = cc
