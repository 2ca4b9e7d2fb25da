-- Where no pair has an inferred target, overriding methods send nothing.
use Rattle.std.proofs.Common.{◌≡◌, ℕ, zero, suc, Bool, true, false, cond, ◌||◌, List, [], ◌∷◌, ◌++◌, length, Option, Some, None, refl, sym, ap, ◌∙◌, subst, eq-eqb}
use Rattle.std.specs.Prelude.{filter, flat_map, slice_get, slice_index_or}
use Rattle.jn_base.specs.declared.number.SlotNo.{SlotNo}
use Rattle.jn_quals.specs.Qualifier.{Qualifier}
use Rattle.jn_quals.specs.Order.{no_qual}
use Rattle.jn_points.specs.declared.program.Method.{Method}
use Rattle.jn_points.specs.declared.program.SlotInfo.{SlotInfo}
use Rattle.jn_points.specs.declared.program.Program.{Program}
use Rattle.jn_points.specs.Lookup.{slots_of, private_of, method_at}
use Rattle.jn_points.specs.Members.{some_of, below, is_pair}
use Rattle.jn_sigs.specs.Signature.{OnlyPrivateInferred, is_slot, method_has_slot}
use Rattle.jn_transfer.specs.Contributions.{IsSent, is_inferred, receiver_slot_of, result_slot_of, sends}
use Rattle.jn_transfer.specs.Closing.{IsClosed, IsClosedUnderBodies, InferredAt, HasNoTargets, NoPrivatePairs}
use Rattle.jn_transfer.specs.Pairs.{slot_sends, slots_sends, override_sends, pair_sends}

none_flat : (f : ℕ → List (ℕ × Qualifier)) (p : ℕ → Bool) → ((k : ℕ) → p k ≡ true → f k ≡ []) → (xs : List ℕ) → flat_map f (filter p xs) ≡ []
none_flat f p h [] = refl
none_flat f p h (x ∷ xs) = by (p x) refl (none_flat f p h xs)
  where
    by : (t : Bool) → p x ≡ t → flat_map f (filter p xs) ≡ [] → flat_map f (cond t (x ∷ filter p xs) (filter p xs)) ≡ []
    by true e rest = let here = h x e in (λ j. here j ++ rest j)
    by false e rest = rest

module _ (P : Program) where
  module _ (s : List Qualifier) where
    none_sent : (y : Option SlotNo) (q : Qualifier) → (InferredAt P y → ⊥) → sends P y q ≡ []
    none_sent None q h = refl
    none_sent (Some t) q h = by (is_inferred (slice_get P.slots t.0)) refl
      where
        by : (b : Bool) → is_inferred (slice_get P.slots t.0) ≡ b → cond {A = List (ℕ × Qualifier)} b ((t.0, q) ∷ []) [] ≡ []
        by true e = absurd (h e)
        by false e = refl

    slot_none : (x y : Option SlotNo) → (InferredAt P y → ⊥) → slot_sends P s x y ≡ []
    slot_none None y h = refl
    slot_none (Some n) y h = none_sent y (slice_index_or s n.0 no_qual) h

    slots_none : (xs ys : List (Option SlotNo)) → ((i : ℕ) → InferredAt P (slice_index_or ys i None) → ⊥) → slots_sends P s xs ys ≡ []
    slots_none [] ys h = refl
    slots_none (x ∷ xs) [] h = refl
    slots_none (x ∷ xs) (y ∷ ys) h =
        let here = slot_none x y (h 0) in
        let rest = slots_none xs ys (λ i. h (suc i)) in
        (λ j. here j ++ rest j)

    pub pair_none : HasNoTargets P → (m : ℕ) → pair_sends P s m ≡ []
    pair_none h m = none_flat (λ k. override_sends P s (method_at P m) (method_at P k)) (is_pair P m) each (below (length P.methods))
      where
        each : (k : ℕ) → is_pair P m k ≡ true → override_sends P s (method_at P m) (method_at P k) ≡ []
        each k p =
            let a = slots_none (slots_of (method_at P k)) (slots_of (method_at P m)) (λ i. h.params m k i p) in
            let b = slot_none (receiver_slot_of (method_at P k)) (receiver_slot_of (method_at P m)) (h.receiver m k p) in
            let r = slot_none (result_slot_of (method_at P m)) (result_slot_of (method_at P k)) (h.result m k p) in
            (λ j. a j ++ b j ++ r j)

    pub bodies_close : HasNoTargets P → IsClosedUnderBodies P s → IsClosed P s
    bodies_close h c = record {
      bodies = c;
      pairs = λ m x sent. absurd (subst (IsSent x) (pair_none h m) sent);
    }

  -- a method with an inferred slot is private
  module _ (only : OnlyPrivateInferred P) where
    private_at : (m i : ℕ) (x : Method) → method_at P m ≡ Some x → method_has_slot i x ≡ true → is_inferred (slice_get P.slots i) ≡ true → x.is_private ≡ true
    private_at m i x at has inferred = by (slice_get P.slots i) refl inferred
      where
        by : (o : Option SlotInfo) → slice_get P.slots i ≡ o → is_inferred o ≡ true → x.is_private ≡ true
        by None e h = absurd cc
        by (Some info) e h = only m i x info at has e h

    or_first : (a b : Bool) → a ≡ true → (a || b) ≡ true
    or_first true b e = refl
    or_first false b e = absurd cc

    or_second : (a b : Bool) → b ≡ true → (a || b) ≡ true
    or_second true b e = refl
    or_second false b e = e

    is_there : (xs : List (Option SlotNo)) (i : ℕ) (n : SlotNo) → slice_index_or xs i None ≡ Some n → some_of (is_slot n.0) xs ≡ true
    is_there [] i n e = absurd cc
    is_there (x ∷ xs) zero n e = or_first (is_slot n.0 x) (some_of (is_slot n.0) xs) (ap (is_slot n.0) e ∙ eq-eqb n.0 n.0 refl)
    is_there (x ∷ xs) (suc i) n e = or_second (is_slot n.0 x) (some_of (is_slot n.0) xs) (is_there xs i n e)

    not_private : (m : ℕ) (x : Method) → method_at P m ≡ Some x → private_of (method_at P m) ≡ false → x.is_private ≡ true → ⊥
    not_private m x at f t = let a = sym (sym (ap private_of at) ∙ f) ∙ t in absurd cc

    no_param : (m i : ℕ) (o : Option Method) → method_at P m ≡ o → private_of (method_at P m) ≡ false → InferredAt P (slice_index_or (slots_of o) i None) → ⊥
    no_param m i None at f h = h
    no_param m i (Some x) at f h = by (slice_index_or x.param_slots i None) refl h
      where
        by : (y : Option SlotNo) → slice_index_or x.param_slots i None ≡ y → InferredAt P y → ⊥
        by None e h = h
        by (Some n) e h = not_private m x at f (private_at m n.0 x at (or_second (is_slot n.0 x.receiver || is_slot n.0 x.result_slot) (some_of (is_slot n.0) x.param_slots) (is_there x.param_slots i n e)) h)

    no_receiver : (m : ℕ) (o : Option Method) → method_at P m ≡ o → private_of (method_at P m) ≡ false → InferredAt P (receiver_slot_of o) → ⊥
    no_receiver m None at f h = h
    no_receiver m (Some x) at f h = by x.receiver refl h
      where
        by : (y : Option SlotNo) → x.receiver ≡ y → InferredAt P y → ⊥
        by None e h = h
        by (Some n) e h = not_private m x at f (private_at m n.0 x at (or_first (is_slot n.0 x.receiver || is_slot n.0 x.result_slot) (some_of (is_slot n.0) x.param_slots) (or_first (is_slot n.0 x.receiver) (is_slot n.0 x.result_slot) (ap (is_slot n.0) e ∙ eq-eqb n.0 n.0 refl))) h)

    no_result : (m : ℕ) (o : Option Method) → method_at P m ≡ o → private_of (method_at P m) ≡ false → InferredAt P (result_slot_of o) → ⊥
    no_result m None at f h = h
    no_result m (Some x) at f h = by x.result_slot refl h
      where
        by : (y : Option SlotNo) → x.result_slot ≡ y → InferredAt P y → ⊥
        by None e h = h
        by (Some n) e h = not_private m x at f (private_at m n.0 x at (or_first (is_slot n.0 x.receiver || is_slot n.0 x.result_slot) (some_of (is_slot n.0) x.param_slots) (or_second (is_slot n.0 x.receiver) (is_slot n.0 x.result_slot) (ap (is_slot n.0) e ∙ eq-eqb n.0 n.0 refl))) h)

    pub private_targets : NoPrivatePairs P → HasNoTargets P
    private_targets none = record {
      params = λ m k i p h. no_param m i (method_at P m) refl (none m k p).0 h;
      receiver = λ m k p h. no_receiver m (method_at P m) refl (none m k p).0 h;
      result = λ m k p h. no_result k (method_at P k) refl (none m k p).1 h;
    }
