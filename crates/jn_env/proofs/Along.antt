-- Bits along a list of keys, one after another.
use Rattle.std.proofs.Common.{◌≡◌, ℕ, zero, suc, ◌+◌, ◌<◌, ◌≤◌, Bool, true, false, ◌&&◌, ◌||◌, List, [], ◌∷◌, ◌++◌, length, take, drop, filter, cond, refl, sym, ap, ◌∙◌, add-one, arith}
use Rattle.std.specs.Prelude.{slice_set, slice_index_or}
use Rattle.std.proofs.lemmas.List.{take_all, drop_all}
use Rattle.std.proofs.lemmas.List.Elements.{filter-append}
use Rattle.jn_env.specs.Keys.{is_on}

module _ {K : Type 0} where
  no_bits_on : (test : K → Bool) (keys : List K) → is_on test keys [] ≡ false
  no_bits_on test [] = refl
  no_bits_on test (k ∷ keys) = refl

  -- a bit past the last counts as unset
  on_at : (test : K → Bool) (keys : List K) (bits : List Bool) (i : ℕ) (k : K) → i < length keys → is_on test (drop i keys) (drop i bits) ≡ ((slice_index_or bits i false && test (slice_index_or keys i k)) || is_on test (drop (suc i) keys) (drop (suc i) bits))
  on_at test [] bits i k lt = absurd (omega (arith, lt))
  on_at test (x ∷ keys) [] zero k lt = sym (no_bits_on test keys)
  on_at test (x ∷ keys) [] (suc i) k lt = no_bits_on test (drop i keys) ∙ sym (no_bits_on test (drop (suc i) keys))
  on_at test (x ∷ keys) (y ∷ bits) zero k lt = refl
  on_at test (x ∷ keys) (y ∷ bits) (suc i) k lt = on_at test keys bits i k (omega (arith, lt))

  -- a walk along the keys that stops where a set bit is found
  pub on_found : (test : K → Bool) (keys : List K) (bits : List Bool) (i : ℕ) (k : K) (found all : Bool) → i < length keys → found ≡ (slice_index_or bits i false && test (slice_index_or keys i k)) → found ≡ true → is_on test (drop i keys) (drop i bits) ≡ all → true ≡ all
  on_found test keys bits i k found all lt is yes' h = sym (ap (λ z. z || is_on test (drop (suc i) keys) (drop (suc i) bits)) (sym is ∙ yes')) ∙ sym (on_at test keys bits i k lt) ∙ h

  pub on_next : (test : K → Bool) (keys : List K) (bits : List Bool) (i : ℕ) (k : K) (found all : Bool) → i < length keys → found ≡ (slice_index_or bits i false && test (slice_index_or keys i k)) → found ≡ false → is_on test (drop i keys) (drop i bits) ≡ all → is_on test (drop (i + 1) keys) (drop (i + 1) bits) ≡ all
  on_next test keys bits i k found all lt is no' h =
      rw add-one (sym (ap (λ z. z || is_on test (drop (suc i) keys) (drop (suc i) bits)) (sym is ∙ no')) ∙ sym (on_at test keys bits i k lt) ∙ h)

  pub on_over : (test : K → Bool) (keys : List K) (bits : List Bool) (i : ℕ) (all : Bool) → length keys ≤ i → is_on test (drop i keys) (drop i bits) ≡ all → false ≡ all
  on_over test keys bits i all le h = sym (ap (λ ks. is_on test ks (drop i bits)) (drop_all i keys le)) ∙ h

-- a list laid over the first places of another
module _ {A : Type 0} where
  abbrev pub over : List A → List A → List A
  over [] ys = ys
  over (x ∷ xs) [] = []
  over (x ∷ xs) (y ∷ ys) = x ∷ over xs ys

  pub over_step : (xs ys : List A) (i : ℕ) (x : A) → i < length xs → x ≡ slice_index_or xs i x → slice_set (over (take i xs) ys) i x ≡ over (take (suc i) xs) ys
  over_step [] ys i x lt e = absurd (omega (arith, lt))
  over_step (z ∷ xs) [] zero x lt e = refl
  over_step (z ∷ xs) [] (suc i) x lt e = refl
  over_step (z ∷ xs) (y ∷ ys) zero x lt e = ap (λ a. a ∷ ys) e
  over_step (z ∷ xs) (y ∷ ys) (suc i) x lt e = ap (λ zs. z ∷ zs) (over_step xs ys i x (omega (arith, lt)) e)

  pub over_is : (xs ys : List A) → over xs ys ≡ take (length ys) xs ++ drop (length xs) ys
  over_is [] [] = refl
  over_is [] (y ∷ ys) = refl
  over_is (x ∷ xs) [] = refl
  over_is (x ∷ xs) (y ∷ ys) = ap (λ zs. x ∷ zs) (over_is xs ys)

  pub over_end : (xs ys : List A) (n : ℕ) → length xs ≤ n → over (take n xs) ys ≡ take (length ys) xs ++ drop (length xs) ys
  over_end xs ys n e = ap (λ zs. over zs ys) (take_all n xs e) ∙ over_is xs ys

-- a filter of one item more
pub filter_more : {A : Type 0} (p : A → Bool) (xs : List A) (x : A) → filter p (xs ++ x ∷ []) ≡ filter p xs ++ cond (p x) (x ∷ []) []
filter_more p xs x = filter-append p xs (x ∷ [])
