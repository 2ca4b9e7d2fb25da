-- Steps of the code that packs outputs.
use Rattle.std.proofs.Common.{◌≡◌, ℕ, zero, suc, ◌+◌, ◌<◌, ◌≤◌, ◌==◌, Bool, true, false, if◌then◌else◌, List, [], ◌∷◌, ◌++◌, length, get_or, set, bit_or, refl, sym, ap, ◌∙◌, subst, arith, add-one}
use Rattle.jn_base.specs.declared.number.SlotNo.{SlotNo}
use Rattle.jn_base.specs.declared.number.WordNo.{WordNo}
use Rattle.jn_quals.specs.Qualifier.{Qualifier}
use Rattle.jn_points.specs.declared.program.Program.{Program}
use Rattle.jn_sigs.specs.Packed.{unpacked}
use Rattle.jn_sigtable.specs.System.{IsReadList}
use Rattle.jn_env.specs.Order.{Table}
use Rattle.jn_transfer.specs.Least.{IsLeastTable}
use Rattle.jn_contrib.specs.Sends.{body_sends, slot_numbers}
use Rattle.jn_inference_law.specs.Packing.{word_no, add_bits, packed}
use Rattle.jn_tables_law.specs.Inferable.{IsInferable, least_sends}
use Rattle.jn_inference_law.specs.Inference.{inference, words_for}
use Rattle.jn_tables_law.specs.Tasks.{task_count, task_sends}
use Rattle.jn_tables_law.proofs.LeastTables.{least_sends_is}
use Rattle.jn_system.specs.Cleaning.{IsSignatureOf}
use Rattle.jn_system.proofs.Seen.{same_output}

-- none of the first i outputs is of the word
abbrev pub NoneBefore : ℕ → ℕ → List (WordNo × ℕ) → Type 0
NoneBefore w zero os = Unit {0}
NoneBefore w (suc i) [] = Unit {0}
NoneBefore w (suc i) (o ∷ os) = ((o.0.0 == w) ≡ false) × NoneBefore w i os

module _ (w bits : ℕ) where
  none_next : (os : List (WordNo × ℕ)) (i : ℕ) (d : WordNo × ℕ) → NoneBefore w i os → ((get_or os i d).0.0 == w) ≡ false → NoneBefore w (suc i) os
  none_next [] i d h e = tt
  none_next (o ∷ os) zero d h e = (e, tt)
  none_next (o ∷ os) (suc i) d h e = (h.0, none_next os i d h.1 e)

  pub none_more : (os : List (WordNo × ℕ)) (i : ℕ) (d : WordNo × ℕ) → NoneBefore w i os → ((get_or os i d).0.0 == w) ≡ false → NoneBefore w (i + 1) os
  none_more os i d h e = subst (λ n. NoneBefore w n os) (sym (add-one i)) (none_next os i d h e)

  pub add_found : (os : List (WordNo × ℕ)) (i : ℕ) (d : WordNo × ℕ) → NoneBefore w i os → i < length os → ((get_or os i d).0.0 == w) ≡ true → set os i ((get_or os i d).0, bit_or (get_or os i d).1 bits) ≡ add_bits w bits os
  add_found [] i d h lt e = absurd (omega (arith, lt))
  add_found (o ∷ os) zero d h lt e = sym (ap (λ (t : Bool). if t then ((o.0, bit_or o.1 bits) ∷ os) else (o ∷ add_bits w bits os)) e)
  add_found (o ∷ os) (suc i) d h lt e =
      ap (λ (r : List (WordNo × ℕ)). o ∷ r) (add_found os i d h.1 (omega (arith, lt)) e)
      ∙ sym (ap (λ (t : Bool). if t then ((o.0, bit_or o.1 bits) ∷ os) else (o ∷ add_bits w bits os)) h.0)

  pub add_none : (os : List (WordNo × ℕ)) (n : ℕ) → NoneBefore w n os → length os ≤ n → os ++ (word_no w, bits) ∷ [] ≡ add_bits w bits os
  add_none [] n h le = refl
  add_none (o ∷ os) zero h le = absurd (omega (arith, le))
  add_none (o ∷ os) (suc n) h le =
      ap (λ (r : List (WordNo × ℕ)). o ∷ r) (add_none os n h.1 (omega (arith, le)))
      ∙ sym (ap (λ (t : Bool). if t then ((o.0, bit_or o.1 bits) ∷ os) else (o ∷ add_bits w bits os)) h.0)

-- the packed sends are the output
pub output_is : (P : Program) (b n : ℕ) (s : List Qualifier) (words : List ℕ) (listed : List WordNo) (sends slice : List (SlotNo × Qualifier)) (outputs : List (WordNo × ℕ)) → IsInferable P → b < task_count P → length words ≡ words_for (length P.slots) → n ≡ length P.slots → IsReadList (inference P) b listed → IsSignatureOf n words listed s → slot_numbers sends ≡ task_sends P s b → slice ≡ sends → outputs ≡ packed (slot_numbers slice) → outputs ≡ packed (task_sends P (unpacked words (length P.slots)) b)
output_is P b n s words listed sends slice outputs can lt long count reads sees sent same out =
    out
    ∙ ap (λ (l : List (SlotNo × Qualifier)). packed (slot_numbers l)) same
    ∙ ap packed sent
    ∙ same_output P b words listed s can lt long reads (subst (λ m. IsSignatureOf m words listed s) count sees)

-- what a body sends under its least table
pub least_sent : (P : Program) (b : ℕ) (s : List Qualifier) (T : Table) (sends : List (SlotNo × Qualifier)) → IsInferable P → b < length P.bodies → IsLeastTable P s b T → slot_numbers sends ≡ body_sends P b T → slot_numbers sends ≡ least_sends P s b
least_sent P b s T sends can lt table sent = sent ∙ sym (least_sends_is P s b T (can.inside b lt) table)
