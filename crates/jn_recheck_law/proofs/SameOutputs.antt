-- A task that does the same puts out the same on all words.
use Rattle.std.proofs.Common.{◌≡◌, ℕ, ◌+◌, ◌-◌, ◌<◌, Bool, true, false, cond, ltb, List, [], ◌∷◌, ◌++◌, length, Option, Some, None, refl, sym, ap, ◌∙◌, subst}
use Rattle.std.specs.Prelude.{flat_map, slice_index_or}
use Rattle.std.proofs.lemmas.Bool.{ltb-true}
use Rattle.jn_base.specs.declared.number.SlotNo.{SlotNo}
use Rattle.jn_quals.specs.Qualifier.{Qualifier}
use Rattle.jn_quals.specs.Order.{no_qual}
use Rattle.jn_points.specs.declared.program.Program.{Program}
use Rattle.jn_points.specs.Lookup.{body_at, method_at, slots_of}
use Rattle.jn_sigs.specs.Packed.{unpacked}
use Rattle.jn_env.specs.Order.{Table}
use Rattle.jn_transfer.specs.Contributions.{receiver_slot_of, result_slot_of}
use Rattle.jn_transfer.specs.Least.{IsLeastTable}
use Rattle.jn_transfer.specs.Pairs.{override_sends, pair_sends, slot_sends, slots_sends, under}
use Rattle.jn_tables_law.specs.Inferable.{IsInferable, least_sends, least_table}
use Rattle.jn_tables_law.specs.Tasks.{is_body_task, task_count, task_method, task_sends}
use Rattle.jn_tables_law.proofs.LeastTables.{least_is, least_sends_is}
use Rattle.jn_tables_law.proofs.TaskNumbers.{body_task, pair_task}
use Rattle.jn_inference_law.specs.Inference.{inference, words_for}
use Rattle.jn_inference_law.specs.Packing.{packed}
use Rattle.jn_inference_law.specs.Reading.{body_reads}
use Rattle.jn_recheck_law.specs.Reusable.{ActAlike}
use Rattle.jn_recheck_law.specs.Slots.{Agree}
use Rattle.jn_recheck_law.proofs.Seeing.{alike_long, receiver_slot_seen, result_slot_seen, slots_seen}
use Rattle.jn_recheck_law.proofs.ReadTables.{least_kept}
use Rattle.jn_recheck_law.proofs.SameSends.{send_same, sends_kept}
use Rattle.jn_recheck_law.specs.Carried.{DoesTheSame, HaveSameTasks}
use Rattle.jn_recheck_law.specs.Runs.{AreRunsOf, Run}

agree_same : (s : List Qualifier) (xs : List ℕ) → Agree s s xs
agree_same s [] = tt
agree_same s (x ∷ xs) = (refl, agree_same s xs)

module _ (names more : List (List ℕ)) (P Q : Program) (tasks : HaveSameTasks names more P Q) where
  pub slots_alike : length P.slots ≡ length Q.slots
  slots_alike = alike_long _ 0 P.slots Q.slots tasks.declarations.slots

  pub words_alike : (inference P).words ≡ (inference Q).words
  words_alike = ap words_for slots_alike

  pub count_alike : task_count P ≡ task_count Q
  count_alike = (λ i. tasks.bodies i + length (tasks.overriders i))

  -- what overriding methods send
  module _ (s : List Qualifier) where
    slot_alike : (x y : Option SlotNo) → slot_sends P s x y ≡ slot_sends Q s x y
    slot_alike None y = refl
    slot_alike (Some n) y = send_same names more P Q tasks.declarations y (slice_index_or s n.0 no_qual)

    slots_sent : (xs ys : List (Option SlotNo)) → slots_sends P s xs ys ≡ slots_sends Q s xs ys
    slots_sent [] ys = refl
    slots_sent (x ∷ xs) [] = refl
    slots_sent (x ∷ xs) (y ∷ ys) =
        let one = slot_alike x y in
        let rest = slots_sent xs ys in
        (λ i. one i ++ rest i)

    override_alike : (m k : ℕ) → override_sends P s (method_at P m) (method_at P k) ≡ override_sends Q s (method_at Q m) (method_at Q k)
    override_alike m k =
        let a = slots_sent (slots_of (method_at P k)) (slots_of (method_at P m)) ∙ (λ i. slots_sends Q s (slots_seen names more P Q tasks.declarations k i) (slots_seen names more P Q tasks.declarations m i)) in
        let b = slot_alike (receiver_slot_of (method_at P k)) (receiver_slot_of (method_at P m)) ∙ (λ i. slot_sends Q s (receiver_slot_seen names more P Q tasks.declarations k i) (receiver_slot_seen names more P Q tasks.declarations m i)) in
        let c = slot_alike (result_slot_of (method_at P m)) (result_slot_of (method_at P k)) ∙ (λ i. slot_sends Q s (result_slot_seen names more P Q tasks.declarations m i) (result_slot_seen names more P Q tasks.declarations k i)) in
        (λ i. a i ++ b i ++ c i)

    all_alike : (m : ℕ) (ks : List ℕ) → flat_map (λ k. override_sends P s (method_at P m) (method_at P k)) ks ≡ flat_map (λ k. override_sends Q s (method_at Q m) (method_at Q k)) ks
    all_alike m [] = refl
    all_alike m (k ∷ ks) =
        let one = override_alike m k in
        let rest = all_alike m ks in
        (λ i. one i ++ rest i)

    pairs_alike : (m : ℕ) → under P m ≡ under Q m → pair_sends P s m ≡ pair_sends Q s m
    pairs_alike m e = all_alike m (under P m) ∙ ap (λ (ks : List ℕ). flat_map (λ k. override_sends Q s (method_at Q m) (method_at Q k)) ks) e

  module _ (t : ℕ) (p : IsInferable P) (q : IsInferable Q) (same : DoesTheSame P Q t) where
    test_alike : is_body_task P t ≡ is_body_task Q t
    test_alike = ap (ltb t) tasks.bodies

    method_alike : task_method P t ≡ task_method Q t
    method_alike = (λ i. slice_index_or (tasks.overriders i) (t - tasks.bodies i) 0)

    body_alike : (s : List Qualifier) → t < length P.bodies → ActAlike (body_at P t) (body_at Q t) → least_sends P s t ≡ least_sends Q s t
    body_alike s lt acts =
        let T : Table = least_table P s t in
        let is : IsLeastTable P s t T = least_is P s t (p.inside t lt) in
        least_sends_is P s t T (p.inside t lt) is
        ∙ sends_kept names more P Q tasks.declarations t acts T
        ∙ sym (least_sends_is Q s t T (q.inside t (subst (λ (n : ℕ). t < n) tasks.bodies lt)) (least_kept names more P Q s s tasks.declarations t acts (agree_same s (body_reads Q t)) T is))

    sends_alike : (s : List Qualifier) → task_sends P s t ≡ task_sends Q s t
    sends_alike s = by (is_body_task P t) refl
      where
        by : (c : Bool) → is_body_task P t ≡ c → cond c (least_sends P s t) (pair_sends P s (task_method P t)) ≡ task_sends Q s t
        by true e =
            let lt = ltb-true t (length P.bodies) e in
            body_alike s lt (same.body e) ∙ sym (body_task Q s t (subst (λ (n : ℕ). t < n) tasks.bodies lt))
        by false e = pairs_alike s (task_method P t) (same.under e) ∙ ap (pair_sends Q s) method_alike ∙ sym (pair_task Q s t (sym test_alike ∙ e))

    pub outputs_alike : (words : List ℕ) → (inference P).output t words ≡ (inference Q).output t words
    outputs_alike words =
        ap packed (sends_alike (unpacked words (length P.slots))) ∙ ap (λ (n : ℕ). packed (task_sends Q (unpacked words n) t)) slots_alike

    pub runs_carried : (runs : List Run) → AreRunsOf (inference P) t runs → AreRunsOf (inference Q) t runs
    runs_carried [] are = tt
    runs_carried (r ∷ rs) are = ((λ words long held. sym (outputs_alike words) ∙ are.0 words (long ∙ sym words_alike) held), runs_carried rs are.1)
