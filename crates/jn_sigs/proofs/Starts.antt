-- The start signature, raised from an empty one slot by slot.
use Rattle.std.proofs.Common.{◌≡◌, ℕ, zero, suc, ◌+◌, ◌<◌, ◌≤◌, ◌⊎◌, inl, inr, List, [], ◌∷◌, length, get_or, replicate, refl, sym, ap, ◌∙◌, arith, length-set, get_or-set_same, get_or-set_other}
use Rattle.std.proofs.lemmas.Bool.{cases_order}
use Rattle.std.proofs.lemmas.List.{ext_get_or, get_or-replicate, get_or_past, length-replicate}
use Rattle.jn_points.specs.declared.program.Program.{Program}
use Rattle.jn_points.specs.declared.program.SlotInfo.{SlotInfo}
use Rattle.jn_quals.specs.Qualifier.{Qualifier}
use Rattle.jn_quals.specs.Order.{no_qual, join}
use Rattle.jn_sigs.specs.Packed.{raised}
use Rattle.jn_sigs.specs.Signature.{start_of, starts_from, start_signature}

pub length-starts_from : (P : Program) (i : ℕ) (xs : List SlotInfo) → length (starts_from P i xs) ≡ length xs
length-starts_from P i [] = refl
length-starts_from P i (x ∷ xs) = ap suc (length-starts_from P (i + 1) xs)

starts_from-at : (P : Program) (i : ℕ) (xs : List SlotInfo) (k : ℕ) (d : SlotInfo) → k < length xs → get_or (starts_from P i xs) k no_qual ≡ start_of P (i + k) (get_or xs k d)
starts_from-at P i [] k d lt = absurd (omega (arith, lt))
starts_from-at P i (x ∷ xs) zero d lt = let e : i ≡ i + 0 = omega arith in ap (λ n. start_of P n x) e
starts_from-at P i (x ∷ xs) (suc k) d lt =
    let e : (i + 1) + k ≡ i + suc k = omega arith in
    starts_from-at P (i + 1) xs k d (omega (arith, lt)) ∙ ap (λ n. start_of P n (get_or xs k d)) e

-- the slots below i have their qualifiers, and the others none
pub record Started (P : Program) (sig : List Qualifier) (i : ℕ) : Type 0 where
  pub slots : length sig ≡ length P.slots
  pub done : (k : ℕ) → k < i → get_or sig k no_qual ≡ get_or (start_signature P) k no_qual
  pub rest : (k : ℕ) → i ≤ k → get_or sig k no_qual ≡ no_qual

pub started_first : (P : Program) (sig : List Qualifier) → sig ≡ replicate (length P.slots) no_qual → Started P sig 0
started_first P sig is = record {
  slots = ap length is ∙ length-replicate (length P.slots) no_qual;
  done = λ k lt. absurd (omega (arith, lt));
  rest = λ k le. ap (λ list. get_or list k no_qual) is ∙ none k (cases_order k (length P.slots));
}
  where
    none : (k : ℕ) → (k ≡ length P.slots) ⊎ ((k < length P.slots) ⊎ (length P.slots < k)) → get_or (replicate (length P.slots) no_qual) k no_qual ≡ no_qual
    none k (inl e) = get_or_past _ k no_qual (omega (arith, e, length-replicate (length P.slots) no_qual))
    none k (inr (inl lt)) = get_or-replicate (length P.slots) k no_qual no_qual lt
    none k (inr (inr lt)) = get_or_past _ k no_qual (omega (arith, lt, length-replicate (length P.slots) no_qual))

abbrev joined : List Qualifier → ℕ → Qualifier → Qualifier
joined sig i q = join (get_or sig i no_qual) q

pub started_more : (P : Program) (sig : List Qualifier) (i : ℕ) (q : Qualifier) (info : SlotInfo) → Started P sig i → i < length P.slots → info ≡ get_or P.slots i info → q ≡ start_of P i info → Started P (raised sig i q) (i + 1)
started_more P sig i q info s lt is e = record {
  slots = length-set sig i (joined sig i q) ∙ s.slots;
  done = λ k below. at_each k below (cases_order k i);
  rest = λ k le. get_or-set_other sig i k (joined sig i q) no_qual (λ h. omega (arith, h, le)) ∙ s.rest k (omega (arith, le));
}
  where
    here : start_of P i info ≡ get_or (start_signature P) i no_qual
    here =
        let first : 0 + i ≡ i = omega arith in
        sym (starts_from-at P 0 P.slots i info lt ∙ ap (λ n. start_of P n (get_or P.slots i info)) first ∙ ap (start_of P i) (sym is))

    at_each : (k : ℕ) → k < i + 1 → (k ≡ i) ⊎ ((k < i) ⊎ (i < k)) → get_or (raised sig i q) k no_qual ≡ get_or (start_signature P) k no_qual
    at_each k below (inl same) =
        ap (λ n. get_or (raised sig i q) n no_qual) same
        ∙ get_or-set_same sig i (joined sig i q) no_qual (omega (arith, lt, s.slots))
        ∙ ap (λ p. join p q) (s.rest i (omega arith))
        ∙ e ∙ here
        ∙ ap (λ n. get_or (start_signature P) n no_qual) (sym same)
    at_each k below (inr (inl before)) = get_or-set_other sig i k (joined sig i q) no_qual (λ h. omega (arith, h, before)) ∙ s.done k before
    at_each k below (inr (inr behind)) = absurd (omega (arith, below, behind))

pub started_all : (P : Program) (sig : List Qualifier) (i : ℕ) → Started P sig i → length P.slots ≤ i → sig ≡ start_signature P
started_all P sig i s le =
    ext_get_or no_qual sig (start_signature P) (s.slots ∙ sym (length-starts_from P 0 P.slots)) (λ k lt. s.done k (omega (arith, lt, le, s.slots)))
