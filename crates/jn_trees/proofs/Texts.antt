-- The first place of a text in a list that is seen through a map.
use Rattle.std.proofs.Common.{◌≡◌, ℕ, suc, ◌+◌, ◌<◌, Bool, true, false, cond, not, ◌||◌, List, [], ◌∷◌, ◌++◌, map, length, Some, None, position, refl, sym, ap, ◌∙◌, arith}
use Rattle.std.specs.Prelude.{nat_lt, bytes_eq}
use Rattle.std.specs.List.{list_any, position_or_len}
use Rattle.std.proofs.lemmas.Bool.{ltb-true}
use Rattle.jn_trees.specs.Names.{with_name, number_in}

module _ {A B : Type 0} (f : A → B) where
  pub length-map : (xs : List A) → length (map f xs) ≡ length xs
  length-map [] = refl
  length-map (x ∷ xs) = ap suc (length-map xs)

  pub map-append : (xs ys : List A) → map f (xs ++ ys) ≡ map f xs ++ map f ys
  map-append [] ys = refl
  map-append (x ∷ xs) ys = ap (λ l. f x ∷ l) (map-append xs ys)

  module _ (p : B → Bool) where
    pub any-map : (xs : List A) → list_any p (map f xs) ≡ list_any (λ x. p (f x)) xs
    any-map [] = refl
    any-map (x ∷ xs) = ap (λ b. p (f x) || b) (any-map xs)

    pub first-map : (xs : List A) → position_or_len p (map f xs) ≡ position_or_len (λ x. p (f x)) xs
    first-map [] = refl
    first-map (x ∷ xs) = ap (λ n. cond (not (p (f x))) (1 + n) 0) (first-map xs)

    pub position-map : (xs : List A) → position p (map f xs) ≡ position (λ x. p (f x)) xs
    position-map xs = ap (λ n. cond (nat_lt n (length (map f xs))) (Some n) None) (first-map xs) ∙ ap (λ m. cond (nat_lt (position_or_len (λ x. p (f x)) xs) m) (Some (position_or_len (λ x. p (f x)) xs)) None) (length-map xs)

module _ {A : Type 0} (p : A → Bool) where
  some_first : (xs : List A) → position_or_len p xs < length xs → list_any p xs ≡ true
  some_first [] lt = absurd (omega arith)
  some_first (x ∷ xs) lt = here (p x) (λ l. some_first xs l) lt
    where
      here : (b : Bool) → (position_or_len p xs < length xs → list_any p xs ≡ true) → cond (not b) (1 + position_or_len p xs) 0 < length (x ∷ xs) → (b || list_any p xs) ≡ true
      here true f lt = refl
      here false f lt = f (omega arith)

  pub found : (xs : List A) (i : ℕ) → position p xs ≡ Some i → (position_or_len p xs ≡ i) × (list_any p xs ≡ true)
  found xs i e = here (nat_lt (position_or_len p xs) (length xs)) refl e
    where
      here : (b : Bool) → nat_lt (position_or_len p xs) (length xs) ≡ b → cond b (Some (position_or_len p xs)) None ≡ Some i → (position_or_len p xs ≡ i) × (list_any p xs ≡ true)
      here true lt e = (cc, some_first xs (ltb-true _ _ lt))
      here false lt e = absurd (cc)

-- a list of texts that is seen through a map
module _ {A : Type 0} (f : A → List ℕ) (keys : List A) (text : List ℕ) where
  abbrev pub here : A → Bool
  here key = bytes_eq text (f key)

  pub known_number : (i : ℕ) → position here keys ≡ Some i → i ≡ number_in (map f keys) text
  known_number i e = sym (first-map f (bytes_eq text) keys ∙ (found here keys i e).0)

  pub known_names : (i : ℕ) → position here keys ≡ Some i → map f keys ≡ with_name (map f keys) text
  known_names i e = ap (λ b. cond b (map f keys) (map f keys ++ text ∷ [])) (sym (any-map f (bytes_eq text) keys ∙ (found here keys i e).1))

  pub new_number : (key : A) → f key ≡ text → position_or_len (λ k. bytes_eq (f key) (f k)) keys ≡ number_in (map f keys) text
  new_number key e = ap (λ t. position_or_len (λ k. bytes_eq t (f k)) keys) e ∙ sym (first-map f (bytes_eq text) keys)

  pub new_names : (key : A) → f key ≡ text → map f (cond (list_any (λ k. bytes_eq (f key) (f k)) keys) keys (keys ++ key ∷ [])) ≡ with_name (map f keys) text
  new_names key e =
      ap (λ t. map f (cond (list_any (λ k. bytes_eq t (f k)) keys) keys (keys ++ key ∷ []))) e
      ∙ both (list_any here keys)
      ∙ ap (λ c. cond c (map f keys) (map f keys ++ text ∷ [])) (sym (any-map f (bytes_eq text) keys))
    where
      both : (b : Bool) → map f (cond b keys (keys ++ key ∷ [])) ≡ cond b (map f keys) (map f keys ++ text ∷ [])
      both true = refl
      both false = map-append f keys (key ∷ []) ∙ ap (λ t. map f keys ++ t ∷ []) e
