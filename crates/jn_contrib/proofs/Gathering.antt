-- Steps of the code that gathers what overriding methods send, and which there are.
use Rattle.std.proofs.Common.{◌≡◌, ℕ, zero, suc, ◌+◌, ◌<◌, ◌≤◌, Bool, true, false, cond, List, [], ◌∷◌, ◌++◌, length, drop, Option, Some, None, refl, sym, ap, ◌∙◌, arith, add-one, append-nil, append_assoc}
use Rattle.std.specs.Prelude.{filter, flat_map, slice_index_or}
use Rattle.jn_base.specs.declared.number.SlotNo.{SlotNo}
use Rattle.jn_quals.specs.Qualifier.{Qualifier}
use Rattle.jn_points.specs.declared.program.Method.{Method}
use Rattle.jn_points.specs.declared.program.Program.{Program}
use Rattle.jn_points.specs.Lookup.{method_at}
use Rattle.jn_points.specs.Members.{below}
use Rattle.jn_transfer.specs.Pairs.{under, slot_sends, slots_sends, override_sends, pair_sends}

filter_last : (p : ℕ → Bool) (xs : List ℕ) (n : ℕ) → filter p (xs ++ n ∷ []) ≡ filter p xs ++ cond (p n) (n ∷ []) []
filter_last p [] n = refl
filter_last p (x ∷ xs) n = by (p x) (filter_last p xs n)
  where
    by : (t : Bool) → filter p (xs ++ n ∷ []) ≡ filter p xs ++ cond (p n) (n ∷ []) [] → cond t (x ∷ filter p (xs ++ n ∷ [])) (filter p (xs ++ n ∷ [])) ≡ cond t (x ∷ filter p xs) (filter p xs) ++ cond (p n) (n ∷ []) []
    by true rest = ap (λ (r : List ℕ). x ∷ r) rest
    by false rest = rest

-- one number more has been looked at
pub filter_more : (p : ℕ → Bool) (n : ℕ) (list more : List ℕ) (wanted : Bool) → wanted ≡ p n → list ≡ filter p (below n) → more ≡ list ++ cond wanted (n ∷ []) [] → more ≡ filter p (below (n + 1))
filter_more p n list more wanted w h e =
    let k : n + 1 ≡ suc n = omega arith in
    e ∙ (λ i. h i ++ cond (w i) (n ∷ []) []) ∙ sym (filter_last p (below n) n) ∙ sym (ap (λ (j : ℕ). filter p (below j)) k)

module _ {A : Type 0} (f : ℕ → List A) where
  flat_last : (xs : List ℕ) (n : ℕ) → flat_map f (xs ++ n ∷ []) ≡ flat_map f xs ++ f n
  flat_last [] n = append-nil (f n)
  flat_last (x ∷ xs) n = ap (λ (r : List A). f x ++ r) (flat_last xs n) ∙ sym (append_assoc (f x) (flat_map f xs) (f n))

  pub flat_more : (n : ℕ) (list more : List A) → list ≡ flat_map f (below n) → more ≡ list ++ f n → more ≡ flat_map f (below (n + 1))
  flat_more n list more h e =
      let k : n + 1 ≡ suc n = omega arith in
      e ∙ ap (λ (r : List A). r ++ f n) h ∙ sym (flat_last (below n) n) ∙ sym (ap (λ (j : ℕ). flat_map f (below j)) k)

-- three lists that are added in turn
pub three_sent : {A : Type 0} (list first second third a b c : List A) → first ≡ list ++ a → second ≡ first ++ b → third ≡ second ++ c → third ≡ list ++ (a ++ b ++ c)
three_sent list first second third a b c f s t =
    t ∙ ap (λ z. z ++ c) (s ∙ ap (λ z. z ++ b) f) ∙ ap (λ z. z ++ c) (append_assoc list a b) ∙ append_assoc list (a ++ b) c

module _ (P : Program) (s : List Qualifier) where
  to_none : (x : Option SlotNo) → slot_sends P s x None ≡ []
  to_none None = refl
  to_none (Some n) = refl

  slots_none : (xs : List (Option SlotNo)) → slots_sends P s xs [] ≡ []
  slots_none [] = refl
  slots_none (x ∷ xs) = refl

  slots_at : (from to : List (Option SlotNo)) (i : ℕ) (d : Option SlotNo) → i < length from → slots_sends P s (drop i from) (drop i to) ≡ slot_sends P s (slice_index_or from i d) (slice_index_or to i None) ++ slots_sends P s (drop (suc i) from) (drop (suc i) to)
  slots_at [] to i d lt = absurd (omega (arith, lt))
  slots_at (x ∷ from) [] zero d lt = sym (λ j. to_none x j ++ slots_none from j)
  slots_at (x ∷ from) [] (suc i) d lt = slots_none (drop i from) ∙ sym (λ j. to_none (slice_index_or from i d) j ++ slots_none (drop (suc i) from) j)
  slots_at (x ∷ from) (y ∷ to) zero d lt = refl
  slots_at (x ∷ from) (y ∷ to) (suc i) d lt = slots_at from to i d (omega (arith, lt))

  pub slots_step : (from to : List (Option SlotNo)) (i : ℕ) (d : Option SlotNo) (list more all : List (ℕ × Qualifier)) → i < length from → more ≡ list ++ slot_sends P s (slice_index_or from i d) (slice_index_or to i None) → list ++ slots_sends P s (drop i from) (drop i to) ≡ all → more ++ slots_sends P s (drop (i + 1) from) (drop (i + 1) to) ≡ all
  slots_step from to i d list more all lt m h =
      rw add-one (ap (λ z. z ++ slots_sends P s (drop (suc i) from) (drop (suc i) to)) m
      ∙ append_assoc list (slot_sends P s (slice_index_or from i d) (slice_index_or to i None)) (slots_sends P s (drop (suc i) from) (drop (suc i) to))
      ∙ ap (λ z. list ++ z) (sym (slots_at from to i d lt)) ∙ h)

  slots_left : (from to : List (Option SlotNo)) (i : ℕ) → length from ≤ i → slots_sends P s (drop i from) (drop i to) ≡ []
  slots_left [] to zero le = refl
  slots_left [] to (suc i) le = refl
  slots_left (x ∷ from) to zero le = absurd (omega (arith, le))
  slots_left (x ∷ from) [] (suc i) le = slots_none (drop i from)
  slots_left (x ∷ from) (y ∷ to) (suc i) le = slots_left from to i (omega (arith, le))

  pub slots_end : (from to : List (Option SlotNo)) (i : ℕ) (list all : List (ℕ × Qualifier)) → length from ≤ i → list ++ slots_sends P s (drop i from) (drop i to) ≡ all → list ≡ all
  slots_end from to i list all le h = sym (append-nil list) ∙ ap (λ z. list ++ z) (sym (slots_left from to i le)) ∙ h

  -- where there is no method, nothing is sent
  none_sent : (over : Method) → override_sends P s (Some over) None ≡ []
  none_sent over = ap (λ z. z) (to_none over.result_slot)

  pub no_lower_sends : (over : Method) (o : Option Method) (list : List (ℕ × Qualifier)) → o ≡ None → list ≡ list ++ override_sends P s (Some over) o
  no_lower_sends over o list e = sym (append-nil list) ∙ ap (λ z. list ++ z) (sym (ap (override_sends P s (Some over)) e ∙ none_sent over))

  pub lower_there : (over lower : Method) (o : Option Method) (list more : List (ℕ × Qualifier)) → o ≡ Some lower → more ≡ list ++ override_sends P s (Some over) (Some lower) → more ≡ list ++ override_sends P s (Some over) o
  lower_there over lower o list more e m = m ∙ ap (λ z. list ++ override_sends P s (Some over) z) (sym e)

  -- what is sent of all that the method overrides
  pub all_sent : (m : ℕ) (over : Method) (ks : List ℕ) (list : List (ℕ × Qualifier)) → method_at P m ≡ Some over → ks ≡ under P m → list ≡ [] ++ flat_map (λ k. override_sends P s (Some over) (method_at P k)) ks → list ≡ pair_sends P s m
  all_sent m over ks list at is e =
      e ∙ ap (λ (js : List ℕ). flat_map (λ k. override_sends P s (Some over) (method_at P k)) js) is
      ∙ ap (λ (o : Option Method). flat_map (λ k. override_sends P s o (method_at P k)) (under P m)) (sym at)
