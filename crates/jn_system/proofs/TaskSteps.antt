-- Which task is which, and what it reads and sends.
use Rattle.std.proofs.Common.{◌≡◌, ◌⊎◌, inl, inr, ℕ, zero, suc, ◌+◌, ◌-◌, ◌<◌, ◌≤◌, ltb, Bool, true, false, cond, List, [], ◌∷◌, length, map, Some, refl, sym, ap, ◌∙◌, subst, arith}
use Rattle.std.specs.Prelude.{slice_get, slice_index_or}
use Rattle.std.proofs.lemmas.Bool.{ltb-true, lt-ltb}
use Rattle.jn_base.specs.declared.number.SlotNo.{SlotNo}
use Rattle.jn_base.specs.declared.number.WordNo.{WordNo}
use Rattle.jn_quals.specs.Qualifier.{Qualifier}
use Rattle.jn_points.specs.declared.program.Program.{Program}
use Rattle.jn_contrib.specs.Sends.{slot_numbers}
use Rattle.jn_contrib.specs.declared.listed.Overrider.{Overrider}
use Rattle.jn_transfer.specs.Pairs.{overriders, pair_sends}
use Rattle.jn_contrib.specs.Entries.{AreOverriders}
use Rattle.jn_sigtable.specs.System.{IsReadList}
use Rattle.jn_inference_law.specs.Inference.{inference, task_reads, words_for}
use Rattle.jn_tables_law.specs.Tasks.{is_body_task, task_count, task_method, task_sends}
use Rattle.jn_tables_law.specs.Inferable.{least_sends}
use Rattle.jn_inference_law.specs.Reading.{body_reads, pair_reads, has_word}
use Rattle.jn_system.specs.ReadLists.{Adds}
use Rattle.jn_system.specs.Ready.{IsOverriderOf}
use Rattle.jn_system.proofs.ListSteps.{task_list}

pub is_body : (P : Program) (t : ℕ) → t < length P.bodies → is_body_task P t ≡ true
is_body P t lt = lt-ltb t (length P.bodies) lt

length_methods : (list : List Overrider) → length (map (λ (o : Overrider). o.method) list) ≡ length list
length_methods [] = refl
length_methods (x ∷ list) = ap suc (length_methods list)

-- there are as many as methods that override
pub as_many : (P : Program) (list : List Overrider) → AreOverriders P list → length list ≡ length (overriders P)
as_many P list h = sym (length_methods list) ∙ ap (λ (ms : List ℕ). length ms) h.methods

-- none where there are no bodies and no methods that override
pub no_tasks : (P : Program) (list : List Overrider) (b n : ℕ) → AreOverriders P list → b ≡ length P.bodies → n ≡ length list → b + n ≡ 0 → task_count P ≡ 0
no_tasks P list b n h e f z = let k = as_many P list h in omega (arith, e, f, z, k)

method_at : (list : List Overrider) (j : ℕ) (d : Overrider) → j < length list → slice_index_or (map (λ (o : Overrider). o.method) list) j 0 ≡ (slice_index_or list j d).method
method_at [] j d lt = absurd (omega (arith, lt))
method_at (x ∷ list) zero d lt = refl
method_at (x ∷ list) (suc j) d lt = method_at list j d (omega (arith, lt))

there : (list : List Overrider) (j : ℕ) (d : Overrider) → j < length list → slice_get list j ≡ Some (slice_index_or list j d)
there [] j d lt = absurd (omega (arith, lt))
there (x ∷ list) zero d lt = refl
there (x ∷ list) (suc j) d lt = there list j d (omega (arith, lt))

not_body : (P : Program) (t : ℕ) → length P.bodies ≤ t → is_body_task P t ≡ false
not_body P t le = by (is_body_task P t) refl
  where
    by : (c : Bool) → is_body_task P t ≡ c → c ≡ false
    by true e = let lt = ltb-true t (length P.bodies) e in absurd (omega (arith, lt, le))
    by false e = refl

pub is_overrider : (P : Program) (list : List Overrider) (t : ℕ) (o : Overrider) → AreOverriders P list → t < task_count P → length P.bodies ≤ t → o ≡ slice_index_or list (t - length P.bodies) o → IsOverriderOf P t o
is_overrider P list t o h lt le e =
    let n = as_many P list h in
    let j = t - length P.bodies in
    let low : t - length P.bodies < length list = omega (arith, lt, le, n) in
    let here : slice_get list (t - length P.bodies) ≡ Some o = there list (t - length P.bodies) o low ∙ sym (ap Some e) in
    record {
      behind = not_body P t le;
      method = ap (λ (x : Overrider). x.method) e ∙ sym (method_at list (t - length P.bodies) o low) ∙ ap (λ (ms : List ℕ). slice_index_or ms (t - length P.bodies) 0) h.methods;
      inside = h.inside (t - length P.bodies) o here;
      under = h.under (t - length P.bodies) o here;
    }

module _ (P : Program) (t : ℕ) where
  body_slots : is_body_task P t ≡ true → task_reads P t ≡ body_reads P t
  body_slots e = ap (λ (c : Bool). cond c (body_reads P t) (pair_reads P (task_method P t))) e

  pair_slots : (o : Overrider) → IsOverriderOf P t o → task_reads P t ≡ pair_reads P o.method
  pair_slots o h = ap (λ (c : Bool). cond c (body_reads P t) (pair_reads P (task_method P t))) h.behind ∙ ap (pair_reads P) (sym h.method)

  pub body_word : (w : ℕ) (b : Bool) → is_body_task P t ≡ true → b ≡ has_word w (body_reads P t) → b ≡ has_word w (task_reads P t)
  body_word w b e h = h ∙ ap (has_word w) (sym (body_slots e))

  pub pair_word : (w : ℕ) (b : Bool) (o : Overrider) → IsOverriderOf P t o → b ≡ has_word w (pair_reads P o.method) → b ≡ has_word w (task_reads P t)
  pair_word w b o i h = h ∙ ap (has_word w) (sym (pair_slots o i))

  pub body_words : (n : ℕ) (list : List WordNo) → n ≡ words_for (length P.slots) → is_body_task P t ≡ true → Adds n (body_reads P t) [] list → IsReadList (inference P) t list
  body_words n list c e h = task_list P n t list (body_reads P t) c (body_slots e) h

  pub overrider_words : (n : ℕ) (list : List WordNo) (o : Overrider) → n ≡ words_for (length P.slots) → IsOverriderOf P t o → Adds n (pair_reads P o.method) [] list → IsReadList (inference P) t list
  overrider_words n list o c i h = task_list P n t list (pair_reads P o.method) c (pair_slots o i) h

  pub body_sent : (s : List Qualifier) (xs : List (SlotNo × Qualifier)) → is_body_task P t ≡ true → slot_numbers xs ≡ least_sends P s t → slot_numbers xs ≡ task_sends P s t
  body_sent s xs e h = h ∙ sym (ap (λ (c : Bool). cond c (least_sends P s t) (pair_sends P s (task_method P t))) e)

  pub pair_sent : (s : List Qualifier) (xs : List (SlotNo × Qualifier)) (o : Overrider) → IsOverriderOf P t o → slot_numbers xs ≡ pair_sends P s o.method → slot_numbers xs ≡ task_sends P s t
  pair_sent s xs o i h = h ∙ ap (pair_sends P s) i.method ∙ sym (ap (λ (c : Bool). cond c (least_sends P s t) (pair_sends P s (task_method P t))) i.behind)
