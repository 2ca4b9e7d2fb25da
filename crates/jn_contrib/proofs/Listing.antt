-- The entries of all methods are those of the methods that override.
use Rattle.std.proofs.Common.{◌≡◌, ℕ, zero, suc, ◌<◌, ◌⊎◌, inl, inr, ⊎_elim, Bool, true, false, cond, ◌||◌, List, [], ◌∷◌, ◌++◌, length, map, Option, Some, None, refl, sym, ap, ◌∙◌, subst}
use Rattle.std.specs.Prelude.{filter, flat_map, slice_get}
use Rattle.jn_points.specs.declared.program.Method.{Method}
use Rattle.jn_points.specs.declared.program.Program.{Program}
use Rattle.jn_points.specs.Lookup.{method_at}
use Rattle.jn_points.specs.Members.{some_of, below, is_pair, pairs_of}
use Rattle.jn_contrib.specs.declared.listed.Overrider.{Overrider}
use Rattle.jn_transfer.specs.Pairs.{under, overrides}
use Rattle.jn_contrib.specs.Entries.{AreOverriders, entry_if, all_overriders}
use Rattle.jn_contrib.proofs.Fits.{there_below}

-- some number passes where some is left
method_if : (p : ℕ → Bool) (m : ℕ) (xs : List ℕ) → map (λ o. o.method) (entry_if m (filter p xs)) ≡ cond (some_of p xs) (m ∷ []) []
method_if p m [] = refl
method_if p m (x ∷ xs) = by (p x) (method_if p m xs)
  where
    by : (t : Bool) → map (λ o. o.method) (entry_if m (filter p xs)) ≡ cond (some_of p xs) (m ∷ []) [] → map (λ o. o.method) (entry_if m (cond t (x ∷ filter p xs) (filter p xs))) ≡ cond (t || some_of p xs) (m ∷ []) []
    by true rest = refl
    by false rest = rest

map_append : (xs ys : List Overrider) → map (λ (o : Overrider). o.method) (xs ++ ys) ≡ map (λ (o : Overrider). o.method) xs ++ map (λ (o : Overrider). o.method) ys
map_append [] ys = refl
map_append (x ∷ xs) ys = ap (λ (r : List ℕ). x.method ∷ r) (map_append xs ys)

some_next : (t : Bool) (m : ℕ) (rest : List ℕ) → cond t (m ∷ []) [] ++ rest ≡ cond t (m ∷ rest) rest
some_next true m rest = refl
some_next false m rest = refl

-- an entry is of a method of the list
record Comes (P : Program) (o : Overrider) : Type 0 where
  pub under : o.under ≡ under P o.method
  pub one : ℕ
  pub pair : is_pair P o.method one ≡ true

first_passes : (p : ℕ → Bool) (k : ℕ) (ks xs : List ℕ) → filter p xs ≡ k ∷ ks → p k ≡ true
first_passes p k ks [] e = absurd cc
first_passes p k ks (x ∷ xs) e = by (p x) refl (first_passes p k ks xs) e
  where
    by : (t : Bool) → p x ≡ t → (filter p xs ≡ k ∷ ks → p k ≡ true) → cond t (x ∷ filter p xs) (filter p xs) ≡ k ∷ ks → p k ≡ true
    by true h rest e = let same : x ≡ k = cc in ap p (sym same) ∙ h
    by false h rest e = rest e

module _ (P : Program) where
  methods_are : (ms : List ℕ) → map (λ (o : Overrider). o.method) (flat_map (λ m. entry_if m (under P m)) ms) ≡ filter (overrides P) ms
  methods_are [] = refl
  methods_are (m ∷ ms) =
      map_append (entry_if m (under P m)) (flat_map (λ m. entry_if m (under P m)) ms)
      ∙ (λ i. method_if (is_pair P m) m (below (length P.methods)) i ++ methods_are ms i)
      ∙ some_next (overrides P m) m (filter (overrides P) ms)

  entry_comes : (m : ℕ) (ks : List ℕ) → under P m ≡ ks → (j : ℕ) (o : Overrider) → slice_get (entry_if m ks) j ≡ Some o → Comes P o
  entry_comes m [] e j o h = absurd cc
  entry_comes m (k ∷ ks) e zero o h =
      let same : record { method = m; under = k ∷ ks } ≡ o = cc in
      subst (Comes P) same (record { under = sym e; one = k; pair = first_passes (is_pair P m) k ks (below (length P.methods)) e })
  entry_comes m (k ∷ ks) e (suc j) o h = absurd cc

  append_at : (xs ys : List Overrider) (j : ℕ) (o : Overrider) → slice_get (xs ++ ys) j ≡ Some o → ((i : ℕ) × (slice_get xs i ≡ Some o)) ⊎ ((i : ℕ) × (slice_get ys i ≡ Some o))
  append_at [] ys j o h = inr (j, h)
  append_at (x ∷ xs) ys zero o h = inl (0, h)
  append_at (x ∷ xs) ys (suc j) o h = ⊎_elim (λ r. inl (suc r.0, r.1)) (λ r. inr r) (append_at xs ys j o h)

  all_come : (ms : List ℕ) (j : ℕ) (o : Overrider) → slice_get (flat_map (λ m. entry_if m (under P m)) ms) j ≡ Some o → Comes P o
  all_come [] j o h = absurd cc
  all_come (m ∷ ms) j o h = ⊎_elim (λ r. entry_comes m (under P m) refl r.0 o r.1) (λ r. all_come ms r.0 o r.1) (append_at (entry_if m (under P m)) (flat_map (λ m. entry_if m (under P m)) ms) j o h)

  over_below : (m k : ℕ) → is_pair P m k ≡ true → m < length P.methods
  over_below m k p = by (method_at P m) refl
    where
      by : (o : Option Method) → method_at P m ≡ o → m < length P.methods
      by None e = absurd (let a = sym (ap (λ (o : Option Method). pairs_of P m k o (method_at P k)) e) ∙ p in cc)
      by (Some y) e = there_below Method P.methods m y e

  are : AreOverriders P (all_overriders P)
  are = record {
    methods = methods_are (below (length P.methods));
    inside = λ j o h. let c = all_come (below (length P.methods)) j o h in over_below o.method c.one c.pair;
    under = λ j o h. (all_come (below (length P.methods)) j o h).under;
  }

pub entries_are : (P : Program) (list : List Overrider) → list ≡ all_overriders P → AreOverriders P list
entries_are P list e = subst (AreOverriders P) (sym e) (are P)
