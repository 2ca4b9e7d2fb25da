-- Rows of numbers below one more, and slots side by side.
use Rattle.std.proofs.Common.{◌≡◌, ℕ, zero, suc, ◌+◌, ◌≤◌, ◌<◌, ◌⊎◌, inl, inr, length, drop, Bool, true, false, ◌||◌, not, List, [], ◌∷◌, ◌++◌, Option, Some, None, cond, refl, subst, arith, ap, ◌∙◌, sym, append-nil}
use Rattle.std.specs.Prelude.{filter, flat_map, slice_index_or}
use Rattle.std.proofs.lemmas.List.{append_assoc}
use Rattle.jn_base.specs.declared.number.SlotNo.{SlotNo}
use Rattle.jn_base.specs.declared.place.Row.{Row}
use Rattle.jn_quals.specs.Qualifier.{Qualifier}
use Rattle.jn_quals.specs.Order.{within}
use Rattle.jn_points.specs.Lookup.{method_at}
use Rattle.jn_points.specs.Members.{below, is_pair, pairs_of}
use Rattle.jn_sigs.specs.Signature.{slot_qual, slot_quals}
use Rattle.jn_points.specs.declared.program.Method.{Method}
use Rattle.jn_points.specs.declared.program.Program.{Program}
use Rattle.jn_transfer.specs.Rules.{some_outside, override_rows, pair_rows}

flat_last : (f : ℕ → List Row) (xs : List ℕ) (n : ℕ) → flat_map f (xs ++ n ∷ []) ≡ flat_map f xs ++ f n
flat_last f [] n = append-nil (f n)
flat_last f (x ∷ xs) n = ap (λ r. f x ++ r) (flat_last f xs n) ∙ sym (append_assoc (f x) (flat_map f xs) (f n))

flat_below_more : (f : ℕ → List Row) (n : ℕ) → flat_map f (below (n + 1)) ≡ flat_map f (below n) ++ f n
flat_below_more f n = let e : n + 1 ≡ suc n = omega arith in rw e (flat_last f (below n) n)

-- the rows of one number more
pub rows_more : (f : ℕ → List Row) (n : ℕ) (old rows more : List Row) → rows ≡ old ++ flat_map f (below n) → more ≡ rows ++ f n → more ≡ old ++ flat_map f (below (n + 1))
rows_more f n old rows more h e = e ∙ ap (λ r. r ++ f n) h ∙ append_assoc old (flat_map f (below n)) (f n) ∙ ap (λ r. old ++ r) (sym (flat_below_more f n))

module _ (s : List Qualifier) where
  outside_at : (under over : List (Option SlotNo)) (i : ℕ) → i < length under → i < length over → some_outside (slot_quals s (drop i under)) (slot_quals s (drop i over)) ≡ (not (within (slot_qual s (slice_index_or under i None)) (slot_qual s (slice_index_or over i None))) || some_outside (slot_quals s (drop (suc i) under)) (slot_quals s (drop (suc i) over)))
  outside_at [] over i u o = absurd (omega (arith, u))
  outside_at (x ∷ under) [] i u o = absurd (omega (arith, o))
  outside_at (x ∷ under) (y ∷ over) zero u o = refl
  outside_at (x ∷ under) (y ∷ over) (suc i) u o = outside_at under over i (omega (arith, u)) (omega (arith, o))

  none_outside : (qs : List Qualifier) → some_outside qs [] ≡ false
  none_outside [] = refl
  none_outside (q ∷ qs) = refl

  outside_past : (under over : List (Option SlotNo)) (i : ℕ) → (length under ≤ i) ⊎ (length over ≤ i) → some_outside (slot_quals s (drop i under)) (slot_quals s (drop i over)) ≡ false
  outside_past [] over zero le = refl
  outside_past [] over (suc i) le = refl
  outside_past (x ∷ under) [] zero le = refl
  outside_past (x ∷ under) [] (suc i) le = none_outside (slot_quals s (drop i under))
  outside_past (x ∷ under) (y ∷ over) zero (inl le) = absurd (omega (arith, le))
  outside_past (x ∷ under) (y ∷ over) zero (inr le) = absurd (omega (arith, le))
  outside_past (x ∷ under) (y ∷ over) (suc i) (inl le) = outside_past under over i (inl (omega (arith, le)))
  outside_past (x ∷ under) (y ∷ over) (suc i) (inr le) = outside_past under over i (inr (omega (arith, le)))

or_next : (a b c : Bool) → (a || (b || c)) ≡ ((a || b) || c)
or_next true b c = refl
or_next false b c = refl

or_none : (a : Bool) → (a || false) ≡ a
or_none true = refl
or_none false = refl

-- one slot more has been looked at
pub outside_more : (s : List Qualifier) (under over : List (Option SlotNo)) (i : ℕ) (some more all : Bool) → i < length under → i < length over → more ≡ (some || not (within (slot_qual s (slice_index_or under i None)) (slot_qual s (slice_index_or over i None)))) → (some || some_outside (slot_quals s (drop i under)) (slot_quals s (drop i over))) ≡ all → (more || some_outside (slot_quals s (drop (i + 1) under)) (slot_quals s (drop (i + 1) over))) ≡ all
outside_more s under over i some more all u o e h =
    let here = not (within (slot_qual s (slice_index_or under i None)) (slot_qual s (slice_index_or over i None))) in
    let rest = some_outside (slot_quals s (drop (suc i) under)) (slot_quals s (drop (suc i) over)) in
    let n : i + 1 ≡ suc i = omega arith in
    rw n (ap (λ w. w || rest) e ∙ sym (or_next some here rest) ∙ ap (λ w. some || w) (sym (outside_at s under over i u o)) ∙ h)

-- all slots have been looked at
pub outside_end : (s : List Qualifier) (under over : List (Option SlotNo)) (i : ℕ) (some all : Bool) → (length under ≤ i) ⊎ (length over ≤ i) → (some || some_outside (slot_quals s (drop i under)) (slot_quals s (drop i over))) ≡ all → some ≡ all
outside_end s under over i some all le h = sym (or_none some) ∙ ap (λ w. some || w) (sym (outside_past s under over i le)) ∙ h

module _ (P : Program) (s : List Qualifier) (m k : ℕ) where
  no_under : (over : Option Method) → pairs_of P m k over None ≡ false
  no_under None = refl
  no_under (Some over) = refl

  pub no_pair : is_pair P m k ≡ false → pair_rows P s m k ≡ []
  no_pair h = subst (λ t. cond t (override_rows s (method_at P m) (method_at P k)) [] ≡ []) (sym h) refl

  pub none_over : method_at P m ≡ None → pair_rows P s m k ≡ []
  none_over e = no_pair (ap (λ o. pairs_of P m k o (method_at P k)) e)

  pub none_under : method_at P k ≡ None → pair_rows P s m k ≡ []
  none_under e = no_pair (ap (λ o. pairs_of P m k (method_at P m) o) e ∙ no_under (method_at P m))

  pub pair_there : (over under : Method) → method_at P m ≡ Some over → method_at P k ≡ Some under → is_pair P m k ≡ true → pair_rows P s m k ≡ override_rows s (Some over) (Some under)
  pair_there over under eo eu h = subst (λ t. cond t (override_rows s (method_at P m) (method_at P k)) [] ≡ override_rows s (method_at P m) (method_at P k)) (sym h) refl ∙ ap (λ o. override_rows s o (method_at P k)) eo ∙ ap (λ o. override_rows s (Some over) o) eu

-- what isn't a pair has no rows
filter_rows : (f : ℕ → List Row) (p : ℕ → Bool) → ((k : ℕ) → p k ≡ false → f k ≡ []) → (xs : List ℕ) → flat_map f (filter p xs) ≡ flat_map f xs
filter_rows f p none [] = refl
filter_rows f p none (x ∷ xs) = by (p x) refl (filter_rows f p none xs)
  where
    by : (b : Bool) → p x ≡ b → flat_map f (filter p xs) ≡ flat_map f xs → flat_map f (cond b (x ∷ filter p xs) (filter p xs)) ≡ f x ++ flat_map f xs
    by true e rest = ap (λ r. f x ++ r) rest
    by false e rest = rest ∙ sym (ap (λ r. r ++ flat_map f xs) (none x e))

pub pairs_rows : (P : Program) (s : List Qualifier) (m : ℕ) (ks xs : List ℕ) → ks ≡ filter (is_pair P m) xs → flat_map (pair_rows P s m) ks ≡ flat_map (pair_rows P s m) xs
pairs_rows P s m ks xs e = ap (flat_map (pair_rows P s m)) e ∙ filter_rows (pair_rows P s m) (is_pair P m) (λ k. no_pair P s m k) xs

filter_at : (p : ℕ → Bool) (xs : List ℕ) (i d : ℕ) → i < length (filter p xs) → p (slice_index_or (filter p xs) i d) ≡ true
filter_at p [] i d lt = absurd (omega (arith, lt))
filter_at p (x ∷ xs) i d lt = by (p x) refl i lt (filter_at p xs)
  where
    by : (b : Bool) → p x ≡ b → (i : ℕ) → i < length (cond b (x ∷ filter p xs) (filter p xs)) → ((i d : ℕ) → i < length (filter p xs) → p (slice_index_or (filter p xs) i d) ≡ true) → p (slice_index_or (cond b (x ∷ filter p xs) (filter p xs)) i d) ≡ true
    by true e zero lt rest = e
    by true e (suc i) lt rest = rest i d (omega (arith, lt))
    by false e i lt rest = rest i d lt

pub pairs_at : (P : Program) (m : ℕ) (ks xs : List ℕ) → ks ≡ filter (is_pair P m) xs → (i : ℕ) → i < length ks → is_pair P m (slice_index_or ks i 0) ≡ true
pairs_at P m ks xs e i lt = subst (λ zs. is_pair P m (slice_index_or zs i 0) ≡ true) (sym e) (filter_at (is_pair P m) xs i 0 (subst (λ zs. i < length zs) e lt))
