-- Under a closed signature a pair fits wherever its target is inferred.
use Rattle.std.proofs.Common.{◌≡◌, ◌⊎◌, inl, inr, ℕ, zero, suc, ◌<◌, ◌≤◌, Bool, true, false, cond, not, ◌||◌, List, [], ◌∷◌, ◌++◌, length, Option, Some, None, refl, sym, ap, ◌∙◌, subst, arith}
use Rattle.std.specs.Prelude.{IsTrue, filter, flat_map, slice_get, slice_index_or}
use Rattle.std.proofs.lemmas.Bool.{cases_lt}
use Rattle.jn_base.specs.declared.number.SlotNo.{SlotNo}
use Rattle.jn_base.specs.declared.code.Code.TheVariants.{OvrParam, OvrReceiver, OvrResult}
use Rattle.jn_quals.specs.Qualifier.{Qualifier}
use Rattle.jn_quals.specs.Order.{no_qual, within}
use Rattle.jn_quals.proofs.Order.{nothing_within}
use Rattle.jn_points.specs.declared.program.Method.{Method}
use Rattle.jn_points.specs.declared.program.Program.{Program}
use Rattle.jn_points.specs.Lookup.{slots_of, method_at}
use Rattle.jn_points.specs.Members.{below, is_pair, pairs_of}
use Rattle.jn_sigs.specs.Signature.{slot_qual, slot_quals, receiver_of, result_of}
use Rattle.jn_transfer.specs.Contributions.{IsSent, receiver_slot_of, result_slot_of}
use Rattle.jn_transfer.specs.Rules.{row_if, some_outside, override_rows, pair_rows}
use Rattle.jn_transfer.specs.Pairs.{under, slot_sends, slots_sends, override_sends, pair_sends}
use Rattle.jn_transfer.specs.Closing.{IsClosed, InferredAt, IsTarget, PairFits, AllTargetsInferred}

-- what is sent is sent by one of two lists
pub sent_left : (x : ℕ × Qualifier) (xs ys : List (ℕ × Qualifier)) → IsSent x xs → IsSent x (xs ++ ys)
sent_left x [] ys h = absurd h
sent_left x (y ∷ xs) ys (inl e) = inl e
sent_left x (y ∷ xs) ys (inr h) = inr (sent_left x xs ys h)

pub sent_right : (x : ℕ × Qualifier) (xs ys : List (ℕ × Qualifier)) → IsSent x ys → IsSent x (xs ++ ys)
sent_right x [] ys h = h
sent_right x (y ∷ xs) ys h = inr (sent_right x xs ys h)

-- a number is among others
abbrev pub Among : ℕ → List ℕ → Type 0
Among k [] = ⊥
Among k (x ∷ xs) = (k ≡ x) ⊎ Among k xs

among_left : (k : ℕ) (xs ys : List ℕ) → Among k xs → Among k (xs ++ ys)
among_left k [] ys h = absurd h
among_left k (x ∷ xs) ys (inl e) = inl e
among_left k (x ∷ xs) ys (inr h) = inr (among_left k xs ys h)

among_last : (k : ℕ) (xs : List ℕ) → Among k (xs ++ k ∷ [])
among_last k [] = inl refl
among_last k (x ∷ xs) = inr (among_last k xs)

pub among_below : (n k : ℕ) → k < n → Among k (below n)
among_below zero k lt = absurd (omega (arith, lt))
among_below (suc n) k lt = by (cases_lt k n) (among_below n k)
  where
    by : (k < n) ⊎ (n ≤ k) → (k < n → Among k (below n)) → Among k (below n ++ n ∷ [])
    by (inl low) rest = among_left k (below n) (n ∷ []) (rest low)
    by (inr high) rest = let e : n ≡ k = omega (arith, lt, high) in subst (λ (j : ℕ). Among k (below n ++ j ∷ [])) (sym e) (among_last k (below n))

pub among_filter : (p : ℕ → Bool) (xs : List ℕ) (k : ℕ) → p k ≡ true → Among k xs → Among k (filter p xs)
among_filter p [] k e h = h
among_filter p (x ∷ xs) k e (inl h) = subst (λ (t : Bool). Among k (cond t (x ∷ filter p xs) (filter p xs))) (sym (ap p (sym h) ∙ e)) (inl h)
among_filter p (x ∷ xs) k e (inr m) = by (p x) (among_filter p xs k e m)
  where
    by : (t : Bool) → Among k (filter p xs) → Among k (cond t (x ∷ filter p xs) (filter p xs))
    by true h = inr h
    by false h = h

pub sent_flat : (f : ℕ → List (ℕ × Qualifier)) (xs : List ℕ) (k : ℕ) (x : ℕ × Qualifier) → Among k xs → IsSent x (f k) → IsSent x (flat_map f xs)
sent_flat f [] k x h m = absurd h
sent_flat f (y ∷ ys) k x (inl e) m = sent_left x (f y) (flat_map f ys) (subst (λ (j : ℕ). IsSent x (f j)) e m)
sent_flat f (y ∷ ys) k x (inr h) m = sent_right x (f y) (flat_map f ys) (sent_flat f ys k x h m)

pub there_below : (A : Type 0) (xs : List A) (k : ℕ) (y : A) → slice_get xs k ≡ Some y → k < length xs
there_below A [] k y e = absurd cc
there_below A (x ∷ xs) zero y e = omega arith
there_below A (x ∷ xs) (suc k) y e = let h = there_below A xs k y e in omega (arith, h)

module _ (P : Program) where
  no_lower : (m k : ℕ) (over : Option Method) → pairs_of P m k over None ≡ false
  no_lower m k None = refl
  no_lower m k (Some over) = refl

  pub lower_below : (m k : ℕ) → is_pair P m k ≡ true → k < length P.methods
  lower_below m k p = by (method_at P k) refl
    where
      by : (o : Option Method) → method_at P k ≡ o → k < length P.methods
      by None e = absurd (let a = sym (ap (pairs_of P m k (method_at P m)) e ∙ no_lower m k (method_at P m)) ∙ p in cc)
      by (Some y) e = there_below Method P.methods k y e

  pub under_has : (m k : ℕ) → is_pair P m k ≡ true → Among k (under P m)
  under_has m k p = among_filter (is_pair P m) (below (length P.methods)) k p (among_below (length P.methods) k (lower_below m k p))

  module _ (s : List Qualifier) where
    sent_pair : (m k : ℕ) (x : ℕ × Qualifier) → is_pair P m k ≡ true → IsSent x (override_sends P s (method_at P m) (method_at P k)) → IsSent x (pair_sends P s m)
    sent_pair m k x p h = sent_flat (λ j. override_sends P s (method_at P m) (method_at P j)) (under P m) k x (under_has m k p) h

    -- all of these stand in the signature
    abbrev Has : List (ℕ × Qualifier) → Type 0
    Has xs = (x : ℕ × Qualifier) → IsSent x xs → IsTrue (within x.1 (slice_index_or s x.0 no_qual))

    fits_slot : (x y : Option SlotNo) → Has (slot_sends P s x y) → InferredAt P y → IsTrue (within (slot_qual s x) (slot_qual s y))
    fits_slot None y h i = nothing_within (slot_qual s y)
    fits_slot (Some n) None h i = absurd i
    fits_slot (Some n) (Some t) h i =
        let q = slice_index_or s n.0 no_qual in
        h (t.0, q) (subst (λ (b : Bool). IsSent (t.0, q) (cond b ((t.0, q) ∷ []) [])) (sym i) (inl refl))

    fits_slots : (xs ys : List (Option SlotNo)) → Has (slots_sends P s xs ys) → (i : ℕ) → InferredAt P (slice_index_or ys i None) → IsTrue (within (slot_qual s (slice_index_or xs i None)) (slot_qual s (slice_index_or ys i None)))
    fits_slots [] ys h i f = nothing_within (slot_qual s (slice_index_or ys i None))
    fits_slots (x ∷ xs) [] h i f = absurd f
    fits_slots (x ∷ xs) (y ∷ ys) h zero f = fits_slot x y (λ z m. h z (sent_left z (slot_sends P s x y) (slots_sends P s xs ys) m)) f
    fits_slots (x ∷ xs) (y ∷ ys) h (suc i) f = fits_slots xs ys (λ z m. h z (sent_right z (slot_sends P s x y) (slots_sends P s xs ys) m)) i f

    pub closed_fits : (m k : ℕ) → IsClosed P s → is_pair P m k ≡ true → PairFits P s (method_at P m) (method_at P k)
    closed_fits m k c p =
        let over = method_at P m in
        let lower = method_at P k in
        let a = slots_sends P s (slots_of lower) (slots_of over) in
        let b = slot_sends P s (receiver_slot_of lower) (receiver_slot_of over) in
        let r = slot_sends P s (result_slot_of over) (result_slot_of lower) in
        let has : Has (override_sends P s over lower) = λ z h. c.pairs m z (sent_pair m k z p h) in
        record {
          params = fits_slots (slots_of lower) (slots_of over) (λ z h. has z (sent_left z (a ++ b) r (sent_left z a b h)));
          receiver = fits_slot (receiver_slot_of lower) (receiver_slot_of over) (λ z h. has z (sent_left z (a ++ b) r (sent_right z a b h)));
          result = fits_slot (result_slot_of over) (result_slot_of lower) (λ z h. has z (sent_right z (a ++ b) r h));
        }

    target_fits : (x y : Option SlotNo) → IsTarget P x y → (InferredAt P y → IsTrue (within (slot_qual s x) (slot_qual s y))) → within (slot_qual s x) (slot_qual s y) ≡ true
    target_fits None y t f = nothing_within (slot_qual s y)
    target_fits (Some n) y t f = f t

    none_outside : (xs ys : List (Option SlotNo)) → ((i : ℕ) → i < length xs → i < length ys → IsTarget P (slice_index_or xs i None) (slice_index_or ys i None)) → ((i : ℕ) → InferredAt P (slice_index_or ys i None) → IsTrue (within (slot_qual s (slice_index_or xs i None)) (slot_qual s (slice_index_or ys i None)))) → some_outside (slot_quals s xs) (slot_quals s ys) ≡ false
    none_outside [] ys t f = refl
    none_outside (x ∷ xs) [] t f = refl
    none_outside (x ∷ xs) (y ∷ ys) t f =
        let here = target_fits x y (t 0 (omega arith) (omega arith)) (f 0) in
        let rest = none_outside xs ys (λ i a b. t (suc i) (omega (arith, a)) (omega (arith, b))) (λ i. f (suc i)) in
        (λ j. not (here j) || rest j)

    receiver_is : (o : Option Method) → receiver_of s o ≡ slot_qual s (receiver_slot_of o)
    receiver_is None = refl
    receiver_is (Some m) = refl

    result_is : (o : Option Method) → result_of s o ≡ slot_qual s (result_slot_of o)
    result_is None = refl
    result_is (Some m) = refl

    fitting_rows : (over lower : Option Method) → AllTargetsInferred P over lower → PairFits P s over lower → override_rows s over lower ≡ []
    fitting_rows None lower t f = refl
    fitting_rows (Some over) lower t f =
        let a = none_outside (slots_of lower) over.param_slots t.params f.params in
        let b = ap (λ (q : Qualifier). within q (slot_qual s over.receiver)) (receiver_is lower) ∙ target_fits (receiver_slot_of lower) over.receiver t.receiver f.receiver in
        let r = ap (λ (q : Qualifier). within (slot_qual s over.result_slot) q) (result_is lower) ∙ target_fits over.result_slot (result_slot_of lower) t.result f.result in
        (λ j. row_if (a j) over.span OvrParam ++ row_if (not (b j)) over.span OvrReceiver ++ row_if (not (r j)) over.span OvrResult)

    pub closed_rows : (m k : ℕ) → IsClosed P s → AllTargetsInferred P (method_at P m) (method_at P k) → pair_rows P s m k ≡ []
    closed_rows m k c t = by (is_pair P m k) refl
      where
        by : (b : Bool) → is_pair P m k ≡ b → cond b (override_rows s (method_at P m) (method_at P k)) [] ≡ []
        by true e = fitting_rows (method_at P m) (method_at P k) t (closed_fits m k c e)
        by false e = refl
