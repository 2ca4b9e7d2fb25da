-- The first place of a text among those that are seen through a map, and a text that is none of them.
use Rattle.std.proofs.Common.{◌≡◌, ℕ, ◌+◌, ◌≤◌, Bool, true, false, cond, not, ◌||◌, List, [], ◌∷◌, ◌++◌, map, length, Some, None, position, refl, sym, ap, ◌∙◌, arith}
use Rattle.std.specs.Prelude.{nat_lt, bytes_eq}
use Rattle.std.specs.List.{list_any, position_or_len}
use Rattle.std.proofs.lemmas.List.{length-map}
use Rattle.std.proofs.lemmas.Bool.{ltb-false}

module _ {A B : Type 0} (f : A → B) (p : B → Bool) where
  first_at : (xs : List A) → position_or_len p (map f xs) ≡ position_or_len (λ x. p (f x)) xs
  first_at [] = refl
  first_at (x ∷ xs) = ap (λ n. cond (not (p (f x))) (1 + n) 0) (first_at xs)

  pub place_at : (xs : List A) → position p (map f xs) ≡ position (λ x. p (f x)) xs
  place_at xs = λ i. cond (nat_lt (first_at xs i) (length-map xs f i)) (Some (first_at xs i)) None

module _ {A : Type 0} (p : A → Bool) where
  behind : (xs : List A) → length xs ≤ position_or_len p xs → list_any p xs ≡ false
  behind [] le = refl
  behind (x ∷ xs) le = case (p x) (λ l. behind xs l) le
    where
      case : (b : Bool) → (length xs ≤ position_or_len p xs → list_any p xs ≡ false) → length (x ∷ xs) ≤ cond (not b) (1 + position_or_len p xs) 0 → (b || list_any p xs) ≡ false
      case true f le = absurd (omega arith)
      case false f le = f (omega arith)

  pub none_is : (xs : List A) → position p xs ≡ None → list_any p xs ≡ false
  none_is xs e = case (nat_lt (position_or_len p xs) (length xs)) refl e
    where
      case : (b : Bool) → nat_lt (position_or_len p xs) (length xs) ≡ b → cond b (Some (position_or_len p xs)) None ≡ None → list_any p xs ≡ false
      case true lt e = absurd (cc)
      case false ge e = behind xs (ltb-false _ _ ge)

-- a text after others, of which none is this one
module _ {A : Type 0} (f : A → List ℕ) (text : List ℕ) where
  pub pushed : (keys : List A) (key : A) → f key ≡ text → position (bytes_eq text) (map f keys) ≡ None
      → map f (cond (list_any (λ k. bytes_eq (f key) (f k)) keys) keys (keys ++ key ∷ [])) ≡ map f keys ++ text ∷ []
  pushed keys key is none =
      ap (λ t. map f (cond (list_any (λ k. bytes_eq t (f k)) keys) keys (keys ++ key ∷ []))) is
      ∙ ap (λ b. map f (cond b keys (keys ++ key ∷ []))) (none_is (λ k. bytes_eq text (f k)) keys (sym (place_at f (bytes_eq text) keys) ∙ none))
      ∙ after keys
    where
      after : (ks : List A) → map f (ks ++ key ∷ []) ≡ map f ks ++ text ∷ []
      after [] = ap (λ t. t ∷ []) is
      after (k ∷ ks) = ap (λ l. f k ∷ l) (after ks)
