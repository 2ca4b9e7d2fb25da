-- Words that are taken over one by one, where they are listed.
use Rattle.std.proofs.Common.{◌≡◌, ◌⊎◌, inl, inr, ℕ, ◌+◌, ◌-◌, ◌*◌, ◌^◌, ◌==◌, ◌||◌, Bool, true, false, ◌<◌, min, List, [], ◌∷◌, length, set, drop, replicate, length-set, eqb-true, refl, sym, ap, ◌∙◌, subst, arith}
use Rattle.std.specs.Prelude.{slice_index, slice_index_or, slice_set}
use Rattle.std.proofs.Math.Nat.{zero-mod, mod-eq_of_lt}
use Rattle.std.proofs.lemmas.Nat.{mod_below, pow_pos}
use Rattle.std.proofs.lemmas.List.{length-replicate, drop_more, get_or-set_same, get_or-set_other, get_or-replicate, ext_get_or}
use mathlib.Core.Logic.{dite}
use native.Mathlib.Decide.{ℕ_discrete}
use Rattle.jn_base.specs.declared.number.WordNo.{WordNo}
use Rattle.jn_quals.specs.Qualifier.{Qualifier}
use Rattle.jn_points.specs.declared.program.Program.{Program}
use Rattle.jn_sigs.specs.Packed.{ArePacked, unpacked}
use Rattle.jn_sigtable.specs.System.{IsReadList, lists_word}
use Rattle.jn_tables_law.specs.Inferable.{IsInferable}
use Rattle.jn_inference_law.specs.Inference.{inference, words_for}
use Rattle.jn_tables_law.specs.Tasks.{task_count, task_sends}
use Rattle.jn_inference_law.specs.Packing.{packed}
use Rattle.jn_inference_law.proofs.InferenceLaws.{inference_lawful}
use Rattle.jn_system.specs.Cleaning.{clean, cleaned, AreSeen, IsSignatureOf}
use Rattle.jn_system.proofs.CleaningFacts.{cleaned-at, length-cleaned, clean_packed, cleaned_unpacked}

module _ (slots : ℕ) (words : List ℕ) where
  pub seen_start : (listed : List WordNo) → AreSeen slots words listed listed (replicate (words_for slots) 0)
  seen_start listed = record {
    count = length-replicate (words_for slots) 0;
    clean = λ w lt. inl (get_or-replicate (words_for slots) w 0 0 lt);
    same = λ w lt h. inr h;
  }

  module _ (list : List ℕ) (x : WordNo) (count : length list ≡ words_for slots) where
    abbrev after : List ℕ
    after = set list x.0 (clean slots x.0 (slice_index words x.0))

    there : (w : ℕ) → w < words_for slots → w ≡ x.0 → slice_index after w ≡ slice_index (cleaned slots words) w
    there w lt e =
        subst (λ n. slice_index after n ≡ slice_index (cleaned slots words) n) (sym e)
        (let in_list : x.0 < length list = omega (arith, lt, e, count) in
        let in_words : x.0 < words_for slots = omega (arith, lt, e) in
        get_or-set_same list x.0 (clean slots x.0 (slice_index words x.0)) 0 in_list ∙ sym (cleaned-at slots words x.0 in_words))

    elsewhere : (w : ℕ) → (w ≡ x.0 → ⊥) → slice_index after w ≡ slice_index list w
    elsewhere w ne = get_or-set_other list x.0 w (clean slots x.0 (slice_index words x.0)) 0 ne

  pub seen_more : (listed left : List WordNo) (x : WordNo) (list : List ℕ) → AreSeen slots words listed (x ∷ left) list → AreSeen slots words listed left (set list x.0 (clean slots x.0 (slice_index words x.0)))
  seen_more listed left x list h = record {
    count = length-set list x.0 (clean slots x.0 (slice_index words x.0)) ∙ h.count;
    clean = λ w lt. dite (ℕ_discrete w x.0) (λ e. inr (there list x h.count w lt e)) (λ ne. kept w ne (h.clean w lt));
    same = λ w lt listing. dite (ℕ_discrete w x.0) (λ e. inl (there list x h.count w lt e)) (λ ne. still w ne (h.same w lt listing));
  }
    where
      kept : (w : ℕ) → (w ≡ x.0 → ⊥) → (slice_index list w ≡ 0) ⊎ (slice_index list w ≡ slice_index (cleaned slots words) w) → (slice_index (set list x.0 (clean slots x.0 (slice_index words x.0))) w ≡ 0) ⊎ (slice_index (set list x.0 (clean slots x.0 (slice_index words x.0))) w ≡ slice_index (cleaned slots words) w)
      kept w ne (inl e) = inl (elsewhere list x h.count w ne ∙ e)
      kept w ne (inr e) = inr (elsewhere list x h.count w ne ∙ e)

      other : (w : ℕ) → (w ≡ x.0 → ⊥) → (x.0 == w || lists_word left w) ≡ true → lists_word left w ≡ true
      other w ne e = by (x.0 == w) refl e
        where
          by : (b : Bool) → (x.0 == w) ≡ b → (b || lists_word left w) ≡ true → lists_word left w ≡ true
          by true is e = absurd (ne (sym (eqb-true x.0 w is)))
          by false is e = e

      still : (w : ℕ) → (w ≡ x.0 → ⊥) → (slice_index list w ≡ slice_index (cleaned slots words) w) ⊎ (lists_word (x ∷ left) w ≡ true) → (slice_index (set list x.0 (clean slots x.0 (slice_index words x.0))) w ≡ slice_index (cleaned slots words) w) ⊎ (lists_word left w ≡ true)
      still w ne (inl e) = inl (elsewhere list x h.count w ne ∙ e)
      still w ne (inr e) = inr (other w ne e)

  pub seen_next : (listed : List WordNo) (i : ℕ) (d : WordNo) (list next : List ℕ) → i < length listed → AreSeen slots words listed (drop i listed) list → next ≡ slice_set list (slice_index_or listed i d).0 (clean slots (slice_index_or listed i d).0 (slice_index words (slice_index_or listed i d).0)) → AreSeen slots words listed (drop (i + 1) listed) next
  seen_next listed i d list next lt h e =
      let x = slice_index_or listed i d in
      subst (AreSeen slots words listed (drop (i + 1) listed)) (sym e) (seen_more listed (drop (i + 1) listed) x list (subst (λ left. AreSeen slots words listed left list) (drop_more listed i d lt) h))

  module _ (listed : List WordNo) (list : List ℕ) (seen : AreSeen slots words listed [] list) where
    -- a word that is zero or clean is as clean as it can be
    twice : (w : ℕ) → w < words_for slots → slice_index list w ≡ clean slots w (slice_index list w)
    twice w lt = by (seen.clean w lt)
      where
        by : (slice_index list w ≡ 0) ⊎ (slice_index list w ≡ slice_index (cleaned slots words) w) → slice_index list w ≡ clean slots w (slice_index list w)
        by (inl e) = e ∙ sym (ap (clean slots w) e ∙ zero-mod (2 ^ (3 * min 21 (slots - 21 * w))))
        by (inr e) =
            let is : slice_index list w ≡ clean slots w (slice_index words w) = e ∙ cleaned-at slots words w lt in
            is ∙ sym (ap (clean slots w) is ∙ mod-eq_of_lt (mod_below (slice_index words w) (2 ^ (3 * min 21 (slots - 21 * w))) (pow_pos (3 * min 21 (slots - 21 * w)))))

    all_clean : list ≡ cleaned slots list
    all_clean = ext_get_or 0 list (cleaned slots list) (seen.count ∙ sym (length-cleaned slots list)) (λ w lt.
        let below : w < words_for slots = omega (arith, lt, seen.count) in
        twice w below ∙ sym (cleaned-at slots list w below))

    pub seen_packed : ArePacked list slots
    seen_packed = clean_packed slots list list all_clean

    pub seen_signature : (s : List Qualifier) → s ≡ unpacked list slots → IsSignatureOf slots words listed s
    seen_signature s e = record {
      seen = list;
      count = seen.count;
      same = λ w lt h. settled w (seen.same w lt h);
      is = e;
    }
      where
        settled : (w : ℕ) → (slice_index list w ≡ slice_index (cleaned slots words) w) ⊎ (false ≡ true) → slice_index list w ≡ slice_index (cleaned slots words) w
        settled w (inl e) = e
        settled w (inr e) = absurd cc

-- what a task puts out doesn't depend on words that it doesn't read
pub same_output : (P : Program) (b : ℕ) (words : List ℕ) (listed : List WordNo) (s : List Qualifier) → IsInferable P → b < task_count P → length words ≡ words_for (length P.slots) → IsReadList (inference P) b listed → IsSignatureOf (length P.slots) words listed s
    → packed (task_sends P s b) ≡ packed (task_sends P (unpacked words (length P.slots)) b)
same_output P b words listed s can lt count reads sees =
    let n = length P.slots in
    ap (λ (t : List Qualifier). packed (task_sends P t b)) sees.is
    ∙ (inference_lawful P can).reads_only b sees.seen (cleaned n words) lt sees.count (length-cleaned n words) (λ w below read. sees.same w below (reads.all w below read))
    ∙ ap (λ (t : List Qualifier). packed (task_sends P t b)) (cleaned_unpacked n words)
