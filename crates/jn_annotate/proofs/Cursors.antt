-- Cursors into tokens and into a program's lists.
use Rattle.std.proofs.Common.{◌≡◌, ℕ, zero, suc, ◌+◌, ◌<◌, ◌≤◌, List, [], ◌∷◌, ◌++◌, length, refl, sym, ap, ◌∙◌, arith}
use Rattle.std.specs.Prelude.{drop, take, slice_index_or}
use Rattle.jn_base.specs.declared.number.NameNo.{NameNo}
use Rattle.jn_trees.specs.declared.token.Token.{Token}
use Rattle.jn_trees.specs.declared.token.TokenKind.{TokenKind}
use Rattle.jn_trees.specs.declared.token.TokenKind.TheVariants.{Id, Comma}
use Rattle.jn_trees.specs.Trees.{ParameterTree}
use Rattle.jn_trees.specs.Spelling.{spell_marks, spell_type_use, spell_parameter, spell_names, spell_more_names, spell_dots}
use Rattle.jn_places.specs.Places.{behind, spell_parameter_through}

pub drop_nothing : {A : Type 0} (k : ℕ) → ◌≡◌ {A = List A} (drop k []) []
drop_nothing zero = refl
drop_nothing (suc k) = refl

-- after the last there is nothing
pub drop_all : {A : Type 0} (xs : List A) (k : ℕ) → length xs ≤ k → [] ≡ drop k xs
drop_all [] k l = sym (drop_nothing k)
drop_all (x ∷ xs) zero l = absurd (omega (arith, l))
drop_all (x ∷ xs) (suc k) l = drop_all xs k (omega (arith, l))

pub drop_twice : {A : Type 0} (m n : ℕ) (xs : List A) → drop (m + n) xs ≡ drop n (drop m xs)
drop_twice zero n xs = ap (λ k. drop k xs) (let e : 0 + n ≡ n = omega arith in e)
drop_twice (suc m) n [] = drop_nothing (suc m + n) ∙ sym (drop_nothing n)
drop_twice (suc m) n (x ∷ xs) = ap (λ k. drop k (x ∷ xs)) (let e : suc m + n ≡ suc (m + n) = omega arith in e) ∙ drop_twice m n xs

-- the item at a place, and what stands after it
pub here : {A : Type 0} (xs : List A) (k : ℕ) (d : A) → k < length xs → drop k xs ≡ slice_index_or xs k d ∷ drop (k + 1) xs
here [] k d l = absurd (omega (arith, l))
here (x ∷ xs) zero d l = refl
here (x ∷ xs) (suc k) d l = here xs k d (omega (arith, l)) ∙ ap (λ j. slice_index_or xs k d ∷ drop j (x ∷ xs)) (let e : suc (k + 1) ≡ suc k + 1 = omega arith in e)

pub behind_append : (ts : List Token) (a b : List TokenKind) → behind ts (a ++ b) ≡ behind (behind ts a) b
behind_append ts [] b = refl
behind_append ts (k ∷ a) b = behind_append (drop 1 ts) a b

-- after tokens are as many fewer
pub behind_is : (ts : List Token) (ks : List TokenKind) → drop (length ks) ts ≡ behind ts ks
behind_is ts [] = refl
behind_is ts (k ∷ ks) =
    ap (λ n. drop n ts) (let e : suc (length ks) ≡ 1 + length ks = omega arith in e)
    ∙ drop_twice 1 (length ks) ts ∙ behind_is (drop 1 ts) ks

pub through_parameter : (ts : List Token) (p : ParameterTree) → behind ts (spell_parameter_through p) ≡ drop 1 (drop 1 (behind (behind ts (spell_marks p.marks)) (spell_type_use p.type_use)))
through_parameter ts p =
    behind_append ts (spell_parameter p) (Comma ∷ [])
    ∙ ap (drop 1) (behind_append ts (spell_marks p.marks) (spell_type_use p.type_use ++ Id p.name ∷ [])
    ∙ behind_append (behind ts (spell_marks p.marks)) (spell_type_use p.type_use) (Id p.name ∷ []))

more_names : (ts : List Token) (ns : List NameNo) → behind ts (spell_dots ns) ≡ behind ts (spell_more_names ns)
more_names ts [] = refl
more_names ts (n ∷ ns) = more_names (drop 1 (drop 1 ts)) ns

-- names after dots are as many tokens as those after commas
pub dots_names : (ts : List Token) (word : TokenKind) (ns : List NameNo) → behind ts (spell_dots ns) ≡ behind ts (spell_names word ns)
dots_names ts word [] = refl
dots_names ts word (n ∷ ns) = more_names (drop 1 (drop 1 ts)) ns

pub take_all : {A : Type 0} (xs : List A) (k : ℕ) → length xs ≤ k → xs ≡ take k xs
take_all [] zero l = refl
take_all [] (suc k) l = refl
take_all (x ∷ xs) zero l = absurd (omega (arith, l))
take_all (x ∷ xs) (suc k) l = ap (λ r. x ∷ r) (take_all xs k (omega (arith, l)))

-- a cursor that goes over a list, item by item
module _ {A S : Type 0} (all : List A → S → S) (next : A → S → S) (none : (s : S) → all [] s ≡ s) (more : (x : A) (xs : List A) (s : S) → all (x ∷ xs) s ≡ all xs (next x s)) where
  pub step : (xs : List A) (k : ℕ) (x : A) (s t whole : S) → k < length xs → x ≡ slice_index_or xs k x → t ≡ next x s → all (drop k xs) s ≡ whole → all (drop (k + 1) xs) t ≡ whole
  step xs k x s t whole l is made h =
      ap (all (drop (k + 1) xs)) made
      ∙ sym (more x (drop (k + 1) xs) s)
      ∙ ap (λ y. all (y ∷ drop (k + 1) xs) s) is
      ∙ sym (ap (λ ys. all ys s) (here xs k x l))
      ∙ h

  pub last : (xs : List A) (k : ℕ) (s whole : S) → length xs ≤ k → all (drop k xs) s ≡ whole → s ≡ whole
  last xs k s whole l h = sym (none s) ∙ ap (λ ys. all ys s) (drop_all xs k l) ∙ h
