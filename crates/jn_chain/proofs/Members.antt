-- Members of lists that grow by one item, and of the front of a list that a loop has passed.
use Rattle.std.proofs.Common.{◌≡◌, ℕ, zero, suc, ◌+◌, ◌<◌, ◌⊎◌, inl, inr, ⊎_elim, List, [], ◌∷◌, ◌++◌, length, take, Option, refl, sym, subst, arith}
use Rattle.std.specs.Prelude.{slice_index_or}
use Rattle.std.proofs.lemmas.List.{take_more}
use Rattle.jn_reasons_law.specs.declared.item.Item.{Item}
use Rattle.jn_reasons_law.specs.Sources.{IsOneOf}
use Rattle.jn_reasons.specs.declared.causes.Cause.{Cause}
use Rattle.jn_reasons.specs.Listed.{IsListed}
use Rattle.jn_chain.specs.Search.{IsSeen, level_at}

abbrev Source : Type 0
Source = Option Item

-- of lists of sources
pub one_left : (z : Source) (xs ys : List Source) → IsOneOf z xs → IsOneOf z (xs ++ ys)
one_left z [] ys h = absurd h
one_left z (x ∷ xs) ys (inl e) = inl e
one_left z (x ∷ xs) ys (inr h) = inr (one_left z xs ys h)

pub one_right : (z : Source) (xs ys : List Source) → IsOneOf z ys → IsOneOf z (xs ++ ys)
one_right z [] ys h = h
one_right z (x ∷ xs) ys h = inr (one_right z xs ys h)

pub one_cases : (z : Source) (xs ys : List Source) → IsOneOf z (xs ++ ys) → IsOneOf z xs ⊎ IsOneOf z ys
one_cases z [] ys h = inr h
one_cases z (x ∷ xs) ys (inl e) = inl (inl e)
one_cases z (x ∷ xs) ys (inr h) = ⊎_elim (λ a. inl (inr a)) (λ c. inr c) (one_cases z xs ys h)

pub pushed : (z : Source) (xs : List Source) → IsOneOf z (xs ++ z ∷ [])
pushed z xs = one_right z xs (z ∷ []) (inl refl)

pub push_cases : (z y : Source) (xs : List Source) → IsOneOf z (xs ++ y ∷ []) → IsOneOf z xs ⊎ (z ≡ y)
push_cases z y xs h = ⊎_elim (λ a. inl a) (λ c. inr (alone c)) (one_cases z xs (y ∷ []) h)
  where
    alone : IsOneOf z (y ∷ []) → z ≡ y
    alone (inl e) = e
    alone (inr m) = absurd m

pub front_cases : (z : Source) (xs : List Source) (i : ℕ) (d : Source) → i < length xs → IsOneOf z (take (i + 1) xs) → IsOneOf z (take i xs) ⊎ (z ≡ slice_index_or xs i d)
front_cases z xs i d lt h = push_cases z (slice_index_or xs i d) (take i xs) (subst (IsOneOf z) (take_more xs i d lt) h)

pub front_kept : (z : Source) (xs : List Source) (i : ℕ) (d : Source) → i < length xs → IsOneOf z (take i xs) → IsOneOf z (take (i + 1) xs)
front_kept z xs i d lt h = subst (IsOneOf z) (sym (take_more xs i d lt)) (one_left z (take i xs) (slice_index_or xs i d ∷ []) h)

pub front_new : (xs : List Source) (i : ℕ) (d : Source) → i < length xs → IsOneOf (slice_index_or xs i d) (take (i + 1) xs)
front_new xs i d lt = subst (IsOneOf (slice_index_or xs i d)) (sym (take_more xs i d lt)) (pushed (slice_index_or xs i d) (take i xs))

pub at_place : (xs : List Source) (i : ℕ) (d : Source) → i < length xs → IsOneOf (slice_index_or xs i d) xs
at_place [] i d lt = absurd (omega (arith, lt))
at_place (x ∷ xs) zero d lt = inl refl
at_place (x ∷ xs) (suc i) d lt = inr (at_place xs i d (omega (arith, lt)))

-- of lists of causes
listed_left : (c : Cause) (xs ys : List Cause) → IsListed c xs → IsListed c (xs ++ ys)
listed_left c [] ys h = absurd h
listed_left c (x ∷ xs) ys (inl e) = inl e
listed_left c (x ∷ xs) ys (inr h) = inr (listed_left c xs ys h)

listed_right : (c : Cause) (xs ys : List Cause) → IsListed c ys → IsListed c (xs ++ ys)
listed_right c [] ys h = h
listed_right c (x ∷ xs) ys h = inr (listed_right c xs ys h)

listed_cases : (c : Cause) (xs ys : List Cause) → IsListed c (xs ++ ys) → IsListed c xs ⊎ IsListed c ys
listed_cases c [] ys h = inr h
listed_cases c (x ∷ xs) ys (inl e) = inl (inl e)
listed_cases c (x ∷ xs) ys (inr h) = ⊎_elim (λ a. inl (inr a)) (λ d. inr d) (listed_cases c xs ys h)

pub causes_cases : (c : Cause) (xs : List Cause) (i : ℕ) (d : Cause) → i < length xs → IsListed c (take (i + 1) xs) → IsListed c (take i xs) ⊎ (c ≡ slice_index_or xs i d)
causes_cases c xs i d lt h = ⊎_elim (λ a. inl a) (λ e. inr (alone e)) (listed_cases c (take i xs) (slice_index_or xs i d ∷ []) (subst (IsListed c) (take_more xs i d lt) h))
  where
    alone : IsListed c (slice_index_or xs i d ∷ []) → c ≡ slice_index_or xs i d
    alone (inl e) = e
    alone (inr m) = absurd m

pub causes_kept : (c : Cause) (xs : List Cause) (i : ℕ) (d : Cause) → i < length xs → IsListed c (take i xs) → IsListed c (take (i + 1) xs)
causes_kept c xs i d lt h = subst (IsListed c) (sym (take_more xs i d lt)) (listed_left c (take i xs) (slice_index_or xs i d ∷ []) h)

pub causes_new : (xs : List Cause) (i : ℕ) (d : Cause) → i < length xs → IsListed (slice_index_or xs i d) (take (i + 1) xs)
causes_new xs i d lt = subst (IsListed (slice_index_or xs i d)) (sym (take_more xs i d lt)) (listed_right (slice_index_or xs i d) (take i xs) (slice_index_or xs i d ∷ []) (inl refl))

-- of levels
pub seen_left : (z : Source) (xs ys : List (List Source)) → IsSeen z xs → IsSeen z (xs ++ ys)
seen_left z [] ys h = absurd h
seen_left z (x ∷ xs) ys (inl e) = inl e
seen_left z (x ∷ xs) ys (inr h) = inr (seen_left z xs ys h)

pub seen_right : (z : Source) (xs ys : List (List Source)) → IsSeen z ys → IsSeen z (xs ++ ys)
seen_right z [] ys h = h
seen_right z (x ∷ xs) ys h = inr (seen_right z xs ys h)

-- one that is seen stands at a level
pub record IsAt (z : Source) (xs : List (List Source)) : Type 0 where
  pub level : ℕ
  pub inside : level < length xs
  pub among : IsOneOf z (level_at xs level)

pub seen_where : (z : Source) (xs : List (List Source)) → IsSeen z xs → IsAt z xs
seen_where z [] h = absurd h
seen_where z (x ∷ xs) (inl h) = record { level = 0; inside = omega arith; among = h }
seen_where z (x ∷ xs) (inr h) = let w = seen_where z xs h in record { level = suc w.level; inside = omega (arith, w.inside); among = w.among }

-- at its start a loop has passed nothing
pub nothing : (A : Type 0) (xs : List A) → take 0 xs ≡ []
nothing A [] = refl
nothing A (x ∷ xs) = refl
