-- So it is of overriding pairs: where the target is inferred the pair fits, and where it is written it is the same, and less comes there.
use Rattle.std.proofs.Common.{◌≡◌, ℕ, suc, Bool, true, false, cond, not, ◌||◌, List, [], ◌∷◌, ◌++◌, length, Option, Some, None, refl, sym, ap, subst}
use Rattle.std.specs.Prelude.{IsTrue, flat_map, slice_get, slice_index_or}
use Rattle.jn_base.specs.declared.number.SlotNo.{SlotNo}
use Rattle.jn_base.specs.declared.place.Row.{Row}
use Rattle.jn_base.specs.declared.code.Code.TheVariants.{OvrParam, OvrReceiver, OvrResult}
use Rattle.jn_quals.specs.Qualifier.{Qualifier}
use Rattle.jn_quals.specs.Order.{no_qual, within}
use Rattle.jn_quals.proofs.Order.{nothing_within, within_trans}
use Rattle.jn_points.specs.declared.program.Method.{Method}
use Rattle.jn_points.specs.declared.program.Program.{Program}
use Rattle.jn_points.specs.Lookup.{method_at, slots_of}
use Rattle.jn_points.specs.Members.{below, is_pair}
use Rattle.jn_sigs.specs.Signature.{receiver_of, result_of, slot_qual, slot_quals}
use Rattle.jn_env.specs.Order.{QualsWithin}
use Rattle.jn_env.proofs.Order.{quals_at}
use Rattle.jn_transfer.specs.Closing.{InferredAt, IsClosed, PairFits}
use Rattle.jn_transfer.specs.Contributions.{is_inferred, receiver_slot_of, result_slot_of}
use Rattle.jn_transfer.specs.Rules.{override_rows, pair_rows, pairs_rows, row_if, some_outside}
use Rattle.jn_contrib.proofs.Fits.{closed_fits}
use Rattle.jn_cert_law.proofs.Shrink.{no_left, no_right, none_both}
use Rattle.jn_least_law.proofs.Slots.{none_row, row_none}

-- what is empty of each number is empty of all
flat_none : (f g : ℕ → List Row) (xs : List ℕ) → ((x : ℕ) → f x ≡ [] → g x ≡ []) → flat_map f xs ≡ [] → flat_map g xs ≡ []
flat_none f g [] h none = refl
flat_none f g (x ∷ xs) h none = none_both (g x) (flat_map g xs) (h x (no_left (f x) (flat_map f xs) none)) (flat_none f g xs h (no_right (f x) (flat_map f xs) none))

not_true : (a : Bool) → not a ≡ false → a ≡ true
not_true true e = refl
not_true false e = cc

module _ (P : Program) (s t : List Qualifier) (same : (n : ℕ) → is_inferred (slice_get P.slots n) ≡ false → slice_index_or s n no_qual ≡ slice_index_or t n no_qual) (less : QualsWithin t s) where
  slot_less : (x : Option SlotNo) → IsTrue (within (slot_qual t x) (slot_qual s x))
  slot_less None = nothing_within no_qual
  slot_less (Some n) = quals_at t s n.0 less

  -- from one slot to another
  passes : (x y : Option SlotNo) → (InferredAt P y → IsTrue (within (slot_qual t x) (slot_qual t y))) → within (slot_qual s x) (slot_qual s y) ≡ true → within (slot_qual t x) (slot_qual t y) ≡ true
  passes x None f is = within_trans (slot_qual t x) (slot_qual s x) no_qual (slot_less x) is
  passes x (Some n) f is = by (is_inferred (slice_get P.slots n.0)) refl
    where
      by : (d : Bool) → is_inferred (slice_get P.slots n.0) ≡ d → within (slot_qual t x) (slice_index_or t n.0 no_qual) ≡ true
      by true e = f e
      by false e = subst (λ (q : Qualifier). within (slot_qual t x) q ≡ true) (same n.0 e) (within_trans (slot_qual t x) (slot_qual s x) (slice_index_or s n.0 no_qual) (slot_less x) is)

  none_outside : (xs ys : List (Option SlotNo)) → ((i : ℕ) → InferredAt P (slice_index_or ys i None) → IsTrue (within (slot_qual t (slice_index_or xs i None)) (slot_qual t (slice_index_or ys i None)))) → some_outside (slot_quals s xs) (slot_quals s ys) ≡ false → some_outside (slot_quals t xs) (slot_quals t ys) ≡ false
  none_outside [] ys f is = refl
  none_outside (x ∷ xs) [] f is = refl
  none_outside (x ∷ xs) (y ∷ ys) f is = by (within (slot_qual s x) (slot_qual s y)) refl (none_outside xs ys (λ i. f (suc i))) is
    where
      by : (d : Bool) → within (slot_qual s x) (slot_qual s y) ≡ d → (some_outside (slot_quals s xs) (slot_quals s ys) ≡ false → some_outside (slot_quals t xs) (slot_quals t ys) ≡ false) → (not d || some_outside (slot_quals s xs) (slot_quals s ys)) ≡ false → (not (within (slot_qual t x) (slot_qual t y)) || some_outside (slot_quals t xs) (slot_quals t ys)) ≡ false
      by true e more is =
          let here = passes x y (f 0) e in
          let rest = more is in
          (λ j. not (here j) || rest j)
      by false e more is = cc

  receiver_at : (u : List Qualifier) (m : Option Method) → receiver_of u m ≡ slot_qual u (receiver_slot_of m)
  receiver_at u None = refl
  receiver_at u (Some m) = refl

  result_at : (u : List Qualifier) (m : Option Method) → result_of u m ≡ slot_qual u (result_slot_of m)
  result_at u None = refl
  result_at u (Some m) = refl

  override_none : (over lower : Option Method) → PairFits P t over lower → override_rows s over lower ≡ [] → override_rows t over lower ≡ []
  override_none None lower f none = refl
  override_none (Some over) lower f none =
      let params_s = row_if (some_outside (slot_quals s (slots_of lower)) (slot_quals s over.param_slots)) over.span OvrParam in
      let receiver_s = row_if (not (within (receiver_of s lower) (slot_qual s over.receiver))) over.span OvrReceiver in
      let result_s = row_if (not (within (slot_qual s over.result_slot) (result_of s lower))) over.span OvrResult in
      let front = no_left (params_s ++ receiver_s) result_s none in
      let params = none_outside (slots_of lower) over.param_slots f.params (none_row _ over.span OvrParam (no_left params_s receiver_s front)) in
      let from : within (slot_qual s (receiver_slot_of lower)) (slot_qual s over.receiver) ≡ true = subst (λ (q : Qualifier). within q (slot_qual s over.receiver) ≡ true) (receiver_at s lower) (not_true _ (none_row _ over.span OvrReceiver (no_right params_s receiver_s front))) in
      let to : within (slot_qual s over.result_slot) (slot_qual s (result_slot_of lower)) ≡ true = subst (λ (q : Qualifier). within (slot_qual s over.result_slot) q ≡ true) (result_at s lower) (not_true _ (none_row _ over.span OvrResult (no_right (params_s ++ receiver_s) result_s none))) in
      let receiver : within (receiver_of t lower) (slot_qual t over.receiver) ≡ true = subst (λ (q : Qualifier). within q (slot_qual t over.receiver) ≡ true) (sym (receiver_at t lower)) (passes (receiver_slot_of lower) over.receiver f.receiver from) in
      let result : within (slot_qual t over.result_slot) (result_of t lower) ≡ true = subst (λ (q : Qualifier). within (slot_qual t over.result_slot) q ≡ true) (sym (result_at t lower)) (passes over.result_slot (result_slot_of lower) f.result to) in
      let params_t = row_if (some_outside (slot_quals t (slots_of lower)) (slot_quals t over.param_slots)) over.span OvrParam in
      let receiver_t = row_if (not (within (receiver_of t lower) (slot_qual t over.receiver))) over.span OvrReceiver in
      let result_t = row_if (not (within (slot_qual t over.result_slot) (result_of t lower))) over.span OvrResult in
      none_both (params_t ++ receiver_t) result_t
      (none_both params_t receiver_t (row_none _ over.span OvrParam params) (row_none _ over.span OvrReceiver (ap not receiver)))
      (row_none _ over.span OvrResult (ap not result))

  module _ (closed : IsClosed P t) where
    pair_none : (m k : ℕ) → pair_rows P s m k ≡ [] → pair_rows P t m k ≡ []
    pair_none m k none = by (is_pair P m k) refl none
      where
        by : (d : Bool) → is_pair P m k ≡ d → cond d (override_rows s (method_at P m) (method_at P k)) [] ≡ [] → cond d (override_rows t (method_at P m) (method_at P k)) [] ≡ []
        by true e none = override_none (method_at P m) (method_at P k) (closed_fits P t m k closed e) none
        by false e none = refl

    pub pairs_none : pairs_rows P s ≡ [] → pairs_rows P t ≡ []
    pairs_none =
        let numbers = below (length P.methods) in
        flat_none (λ m. flat_map (pair_rows P s m) numbers) (λ m. flat_map (pair_rows P t m) numbers) numbers (λ m. flat_none (pair_rows P s m) (pair_rows P t m) numbers (pair_none m))
