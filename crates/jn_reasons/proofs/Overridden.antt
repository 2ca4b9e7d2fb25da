-- Sources of what a method sends for those that it overrides, slot by slot and method by method.
use Rattle.std.proofs.Common.{◌≡◌, ℕ, zero, suc, ◌+◌, ◌<◌, ◌≤◌, Bool, true, false, cond, List, [], ◌∷◌, ◌++◌, length, drop, Option, Some, None, refl, sym, ap, ◌∙◌, arith, add-one, append-nil, append_assoc}
use Rattle.std.specs.Prelude.{eqb, flat_map, slice_index_or}
use Rattle.jn_base.specs.declared.number.SlotNo.{SlotNo}
use Rattle.jn_points.specs.declared.program.Method.{Method}
use Rattle.jn_points.specs.declared.program.Program.{Program}
use Rattle.jn_points.specs.Lookup.{method_at}
use Rattle.jn_transfer.specs.Pairs.{under}
use Rattle.jn_reasons_law.specs.declared.item.Bit.{Bit}
use Rattle.jn_reasons_law.specs.declared.item.Item.{Item}
use Rattle.jn_reasons_law.specs.Sources.{if_slot, from_slot_to, from_slots_to, from_override, from_pairs}

-- three lists that are added in turn
pub three_added : {A : Type 0} → (list first second third a b c : List A) → first ≡ list ++ a → second ≡ first ++ b → third ≡ second ++ c → third ≡ list ++ (a ++ b ++ c)
three_added list first second third a b c f s t =
    t ∙ ap (λ z. z ++ c) (s ∙ ap (λ z. z ++ b) f) ∙ ap (λ z. z ++ c) (append_assoc list a b) ∙ append_assoc list (a ++ b) c

module _ (k : ℕ) (bit : Bit) where
  slots_none : (xs : List (Option SlotNo)) → from_slots_to k xs [] bit ≡ []
  slots_none [] = refl
  slots_none (x ∷ xs) = refl

  slots_at : (from to : List (Option SlotNo)) (i : ℕ) (d : Option SlotNo) → i < length from → from_slots_to k (drop i from) (drop i to) bit ≡ from_slot_to k (slice_index_or from i d) (slice_index_or to i None) bit ++ from_slots_to k (drop (suc i) from) (drop (suc i) to) bit
  slots_at [] to i d lt = absurd (omega (arith, lt))
  slots_at (x ∷ from) [] zero d lt = sym (slots_none from)
  slots_at (x ∷ from) [] (suc i) d lt = slots_none (drop i from) ∙ sym (slots_none (drop (suc i) from))
  slots_at (x ∷ from) (y ∷ to) zero d lt = refl
  slots_at (x ∷ from) (y ∷ to) (suc i) d lt = slots_at from to i d (omega (arith, lt))

  pub slots_step : (from to : List (Option SlotNo)) (i : ℕ) (d : Option SlotNo) (list more all : List (Option Item)) → i < length from → more ≡ list ++ from_slot_to k (slice_index_or from i d) (slice_index_or to i None) bit → list ++ from_slots_to k (drop i from) (drop i to) bit ≡ all → more ++ from_slots_to k (drop (i + 1) from) (drop (i + 1) to) bit ≡ all
  slots_step from to i d list more all lt m h =
      rw add-one (ap (λ z. z ++ from_slots_to k (drop (suc i) from) (drop (suc i) to) bit) m
      ∙ append_assoc list (from_slot_to k (slice_index_or from i d) (slice_index_or to i None) bit) (from_slots_to k (drop (suc i) from) (drop (suc i) to) bit)
      ∙ ap (λ z. list ++ z) (sym (slots_at from to i d lt)) ∙ h)

  slots_left : (from to : List (Option SlotNo)) (i : ℕ) → length from ≤ i → from_slots_to k (drop i from) (drop i to) bit ≡ []
  slots_left [] to zero le = refl
  slots_left [] to (suc i) le = refl
  slots_left (x ∷ from) to zero le = absurd (omega (arith, le))
  slots_left (x ∷ from) [] (suc i) le = slots_none (drop i from)
  slots_left (x ∷ from) (y ∷ to) (suc i) le = slots_left from to i (omega (arith, le))

  pub slots_end : (from to : List (Option SlotNo)) (i : ℕ) (list all : List (Option Item)) → length from ≤ i → list ++ from_slots_to k (drop i from) (drop i to) bit ≡ all → list ≡ all
  slots_end from to i list all le h = sym (append-nil list) ∙ ap (λ z. list ++ z) (sym (slots_left from to i le)) ∙ h

  -- where there is no method, there are none
  either_way : (c : Bool) (zs : List (Option Item)) → cond c zs zs ≡ zs
  either_way true zs = refl
  either_way false zs = refl

  nothing : (x : Option SlotNo) → if_slot k x [] ≡ []
  nothing None = refl
  nothing (Some n) = either_way (eqb n.0 k) []

  none_added : (over : Method) → from_override k (Some over) None bit ≡ []
  none_added over = ap (λ z. z ++ []) (nothing over.receiver)

  pub no_lower_adds : (over : Method) (o : Option Method) (list : List (Option Item)) → o ≡ None → list ≡ list ++ from_override k (Some over) o bit
  no_lower_adds over o list e = sym (append-nil list) ∙ ap (λ z. list ++ z) (sym (ap (λ (x : Option Method). from_override k (Some over) x bit) e ∙ none_added over))

  pub lower_there : (over lower : Method) (o : Option Method) (list more : List (Option Item)) → o ≡ Some lower → more ≡ list ++ from_override k (Some over) (Some lower) bit → more ≡ list ++ from_override k (Some over) o bit
  lower_there over lower o list more e m = m ∙ ap (λ (x : Option Method). list ++ from_override k (Some over) x bit) (sym e)

  -- those of all that the method overrides
  pub all_added : (P : Program) (m : ℕ) (over : Method) (ks : List ℕ) (list more : List (Option Item)) → method_at P m ≡ Some over → ks ≡ under P m → more ≡ list ++ flat_map (λ j. from_override k (Some over) (method_at P j) bit) ks → more ≡ list ++ from_pairs P m k bit
  all_added P m over ks list more at is e =
      e ∙ ap (λ (js : List ℕ). list ++ flat_map (λ j. from_override k (Some over) (method_at P j) bit) js) is
      ∙ ap (λ (o : Option Method). list ++ flat_map (λ j. from_override k o (method_at P j) bit) (under P m)) (sym at)
