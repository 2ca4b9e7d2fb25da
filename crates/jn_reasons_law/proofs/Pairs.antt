-- What a method that overrides sends to a slot has a source, and each source of it that stands is sent.
use Rattle.std.proofs.Common.{◌≡◌, ℕ, Bool, true, false, cond, inl, inr, List, [], ◌∷◌, ◌++◌, Option, Some, None, subst}
use Rattle.std.specs.Prelude.{eqb, flat_map, slice_get, slice_index_or}
use Rattle.jn_base.specs.declared.number.SlotNo.{SlotNo}
use Rattle.jn_quals.specs.Qualifier.{Qualifier}
use Rattle.jn_quals.specs.Order.{no_qual}
use Rattle.jn_points.specs.declared.program.Method.{Method}
use Rattle.jn_points.specs.declared.program.Program.{Program}
use Rattle.jn_points.specs.Lookup.{slots_of, method_at}
use Rattle.jn_env.specs.Order.{QualsWithin, Table}
use Rattle.jn_transfer.specs.Contributions.{IsSent, is_inferred, receiver_slot_of, result_slot_of}
use Rattle.jn_transfer.specs.Pairs.{under, slot_sends, slots_sends, override_sends, pair_sends}
use Rattle.jn_inference_law.proofs.PairLaws.{pairs_grow}
use Rattle.jn_reasons_law.specs.declared.item.Bit.{Bit}
use Rattle.jn_reasons_law.specs.declared.item.Item.{Item}
use Rattle.jn_reasons_law.specs.declared.item.Item.TheVariants.{AtSlot}
use Rattle.jn_reasons_law.specs.declared.item.Place.TheVariants.{OfMethod}
use Rattle.jn_reasons_law.specs.Items.{on}
use Rattle.jn_reasons_law.specs.Sources.{IsOneOf, from_slot, if_slot, from_slot_to, from_slots_to, from_override, from_pairs}
use Rattle.jn_reasons_law.specs.Chains.{HasChain, SendsBit, StandsIn, overrides}
use Rattle.jn_reasons_law.proofs.Bits.{on_within}
use Rattle.jn_reasons_law.proofs.Behind.{Supports}
use Rattle.jn_reasons_law.proofs.Choosing.{Chosen, item_chosen, link}
use Rattle.jn_reasons_law.proofs.Sent.{send_chosen, both_chosen}
use Rattle.jn_reasons_law.proofs.Standing.{both, slot_sent}

module _ (P : Program) (s : List Qualifier) (tables : List Table) (t : List Qualifier) (sup : Supports P s tables t) where
  module _ (k : ℕ) (q : Qualifier) (bit : Bit) (h : on bit q ≡ true) where
    slot_chosen : (x y : Option SlotNo) → IsSent (k, q) (slot_sends P t x y) → Chosen P s tables (from_slot_to k x y bit)
    slot_chosen None y m = absurd m
    slot_chosen (Some n) y m = send_chosen P s tables y k (slice_index_or t n.0 no_qual) q bit (from_slot (Some n) bit) (λ g. item_chosen P s tables (AtSlot n.0 bit) (sup n.0 bit g)) m h

    slots_chosen : (xs ys : List (Option SlotNo)) → IsSent (k, q) (slots_sends P t xs ys) → Chosen P s tables (from_slots_to k xs ys bit)
    slots_chosen [] ys m = absurd m
    slots_chosen (x ∷ xs) [] m = absurd m
    slots_chosen (x ∷ xs) (y ∷ ys) m =
        both_chosen P s tables (k, q) (slot_sends P t x y) (slots_sends P t xs ys) (from_slot_to k x y bit) (from_slots_to k xs ys bit) (slot_chosen x y) (slots_chosen xs ys) m

    override_chosen : (over lower : Option Method) → IsSent (k, q) (override_sends P t over lower) → Chosen P s tables (from_override k over lower bit)
    override_chosen over lower m =
        let a = slots_sends P t (slots_of lower) (slots_of over) in
        let b = slot_sends P t (receiver_slot_of lower) (receiver_slot_of over) in
        let c = from_slots_to k (slots_of lower) (slots_of over) bit in
        let d = from_slot_to k (receiver_slot_of lower) (receiver_slot_of over) bit in
        both_chosen P s tables (k, q) (a ++ b) (slot_sends P t (result_slot_of over) (result_slot_of lower)) (c ++ d) (from_slot_to k (result_slot_of over) (result_slot_of lower) bit)
        (both_chosen P s tables (k, q) a b c d (slots_chosen (slots_of lower) (slots_of over)) (slot_chosen (receiver_slot_of lower) (receiver_slot_of over)))
        (slot_chosen (result_slot_of over) (result_slot_of lower))
        m

    all_chosen : (m : ℕ) (js : List ℕ) → IsSent (k, q) (flat_map (λ j. override_sends P t (method_at P m) (method_at P j)) js) → Chosen P s tables (flat_map (λ j. from_override k (method_at P m) (method_at P j) bit) js)
    all_chosen m [] i = absurd i
    all_chosen m (j ∷ js) i =
        both_chosen P s tables (k, q) (override_sends P t (method_at P m) (method_at P j)) (flat_map (λ j. override_sends P t (method_at P m) (method_at P j)) js)
        (from_override k (method_at P m) (method_at P j) bit) (flat_map (λ j. from_override k (method_at P m) (method_at P j) bit) js)
        (override_chosen (method_at P m) (method_at P j)) (all_chosen m js) i

  -- so what it sends under a smaller signature has a chain
  pub pair_explained : QualsWithin t s → (m : ℕ) (x : ℕ × Qualifier) → IsSent x (pair_sends P t m) → (bit : Bit) → on bit x.1 ≡ true → on bit (slice_index_or s x.0 no_qual) ≡ true → HasChain P s tables (AtSlot x.0 bit)
  pair_explained w m x i bit h st =
      let z = all_chosen x.0 x.1 bit h m (under P m) i in
      let c = pairs_grow P t s w x m i in
      link P s tables (AtSlot x.0 bit) (OfMethod m) z.source st
      (overrides m x.0 bit z.source (record { qual = c.qual; sent = c.there; has = on_within bit x.1 c.qual c.above h; source = z.among }))
      z.ready

module _ (P : Program) (s : List Qualifier) (k : ℕ) (inferred : is_inferred (slice_get P.slots k) ≡ true) (z : Option Item) (st : StandsIn s z) (bit : Bit) where
  slot_stands : (n : SlotNo) → IsOneOf z (from_slot (Some n) bit) → on bit (slice_index_or s n.0 no_qual) ≡ true
  slot_stands n (inl e) = subst (StandsIn s) e st
  slot_stands n (inr m) = absurd m

  nothing : (y : Option SlotNo) → IsOneOf z (if_slot k y []) → ⊥
  nothing None m = m
  nothing (Some n) m = by (eqb n.0 k) m
    where
      by : (c : Bool) → IsOneOf z (cond c [] []) → ⊥
      by true i = i
      by false i = i

  one_sent : (x y : Option SlotNo) → IsOneOf z (from_slot_to k x y bit) → SendsBit k bit (slot_sends P s x y)
  one_sent None y m = absurd (nothing y m)
  one_sent (Some n) y m = slot_sent P k inferred z y bit (slice_index_or s n.0 no_qual) (from_slot (Some n) bit) (slot_stands n) m

  some_sent : (xs ys : List (Option SlotNo)) → IsOneOf z (from_slots_to k xs ys bit) → SendsBit k bit (slots_sends P s xs ys)
  some_sent [] ys m = absurd m
  some_sent (x ∷ xs) [] m = absurd m
  some_sent (x ∷ xs) (y ∷ ys) m = both P k inferred z bit (from_slot_to k x y bit) (from_slots_to k xs ys bit) (slot_sends P s x y) (slots_sends P s xs ys) (one_sent x y) (some_sent xs ys) m

  override_sent : (over lower : Option Method) → IsOneOf z (from_override k over lower bit) → SendsBit k bit (override_sends P s over lower)
  override_sent over lower m =
      let a = slots_sends P s (slots_of lower) (slots_of over) in
      let b = slot_sends P s (receiver_slot_of lower) (receiver_slot_of over) in
      let c = from_slots_to k (slots_of lower) (slots_of over) bit in
      let d = from_slot_to k (receiver_slot_of lower) (receiver_slot_of over) bit in
      both P k inferred z bit (c ++ d) (from_slot_to k (result_slot_of over) (result_slot_of lower) bit) (a ++ b) (slot_sends P s (result_slot_of over) (result_slot_of lower))
      (both P k inferred z bit c d a b (some_sent (slots_of lower) (slots_of over)) (one_sent (receiver_slot_of lower) (receiver_slot_of over)))
      (one_sent (result_slot_of over) (result_slot_of lower))
      m

  all_sent : (m : ℕ) (js : List ℕ) → IsOneOf z (flat_map (λ j. from_override k (method_at P m) (method_at P j) bit) js) → SendsBit k bit (flat_map (λ j. override_sends P s (method_at P m) (method_at P j)) js)
  all_sent m [] i = absurd i
  all_sent m (j ∷ js) i =
      both P k inferred z bit (from_override k (method_at P m) (method_at P j) bit) (flat_map (λ j. from_override k (method_at P m) (method_at P j) bit) js)
      (override_sends P s (method_at P m) (method_at P j)) (flat_map (λ j. override_sends P s (method_at P m) (method_at P j)) js)
      (override_sent (method_at P m) (method_at P j)) (all_sent m js) i

pub pair_sources_sent : (P : Program) (s : List Qualifier) (m k : ℕ) (bit : Bit) (z : Option Item) → is_inferred (slice_get P.slots k) ≡ true → StandsIn s z → IsOneOf z (from_pairs P m k bit) → SendsBit k bit (pair_sends P s m)
pair_sources_sent P s m k bit z inferred st i = all_sent P s k inferred z st bit m (under P m) i
