-- How a drain goes on.
use Rattle.std.proofs.Common.{◌≡◌, ◌≢◌, ◌⊎◌, ◌↔◌, ℕ, zero, suc, ◌+◌, ◌^◌, ◌<◌, ◌≤◌, ◌==◌, ◌||◌, not, Bool, true, false, List, [], ◌∷◌, ◌++◌, length, set, take, bit_or, sym, refl, ap, ◌∙◌, subst, inl, inr, ⊎_elim, arith, get_or-set_same, get_or-set_other, ext_get_or, add-one, length-set, true≢false, eq-eqb}
use mathlib.Core.Option.{some}
use mathlib.Core.Logic.{dite}
use native.Mathlib.Decide.{ℕ_discrete, dec_le}
use lib.ListN.{get_elem?}
use Rattle.std.specs.Prelude.{slice_index}
use Rattle.std.specs.Int.{bit_at}
use Rattle.std.proofs.lemmas.Bool.{eqb-true}
use Rattle.std.proofs.lemmas.Nat.{or_lt}
use Rattle.std.proofs.lemmas.Nat.Bits.{same_from_bits_below}
use Rattle.jn_base.specs.declared.number.WordNo.{WordNo}
use Rattle.jn_sigtable.specs.System.{System, IsLawful, IsClosed, IsLeast, Within, bits_for, Covers, AgreesFor, ClosedAt, least, ones_in, ones_below}
use Rattle.jn_sigtable.proofs.Bits.{within_trans, within_refl, within_or_l, within_or_r, or_within, zero_within}
use Rattle.jn_sigtable.proofs.LeastWords.{ones_le, ones_same, ones_in_le, ones_in_same}
use Rattle.jn_sigtable.proofs.Closing.{within_same}
use Rattle.jn_worklist.specs.Plans.{IsDue}
use Rattle.jn_worklist.specs.Drains.{IsDirtyOrClosed, IsDraining, IsDrainingBut, IsWithinBody, Moved}
use Rattle.jn_worklist.proofs.RaiseSteps.{snoc_within, entry_within, take_more, take_whole}

-- ---- one word is raised
same_ones : (k a b : ℕ) → ((i : ℕ) → i < k → bit_at a i ≡ bit_at b i) → ones_below k a ≡ ones_below k b
unfolding ones_below
same_ones zero a b h = refl
same_ones (suc k) a b h = let p = same_ones k a b (λ i less. h i (omega arith)) in let q = h k (omega arith) in omega arith

pub same_of : (a b : ℕ) → not (a == b) ≡ false → a ≡ b
same_of a b e = eqb-true a b (was (a == b) e)
  where
    was : (t : Bool) → not t ≡ false → t ≡ true
    was true h = refl
    was false h = absurd (true≢false h)

pub differ_of : (a b : ℕ) → not (a == b) ≡ true → a ≢ b
differ_of a b e s = true≢false (sym e ∙ ap not (eq-eqb a b s))

pub new_ones : (a b : ℕ) → a < 2 ^ 64 → b < 2 ^ 64 → bit_or a b ≢ a → ones_below 64 a < ones_below 64 (bit_or a b)
new_ones a b small low new =
    let le = ones_le 64 a (bit_or a b) (within_or_l a b) in
    dite (dec_le (ones_below 64 (bit_or a b)) (ones_below 64 a))
    (λ back. absurd (new (sym (same_from_bits_below 64 a (bit_or a b) small (or_lt 64 a b small low) (ones_same 64 a (bit_or a b) (within_or_l a b) back)))))
    (λ more. omega arith)

module _ (words : List ℕ) (i bits : ℕ) (room : i < length words) where
  raised_at : (u : ℕ) → u ≡ i → slice_index (set words i (bit_or (slice_index words i) bits)) u ≡ bit_or (slice_index words i) bits
  raised_at u e = ap (slice_index (set words i (bit_or (slice_index words i) bits))) e ∙ get_or-set_same words i (bit_or (slice_index words i) bits) 0 room

  raised_else : (u : ℕ) → u ≢ i → slice_index (set words i (bit_or (slice_index words i) bits)) u ≡ slice_index words u
  raised_else u ne = get_or-set_other words i u (bit_or (slice_index words i) bits) 0 ne

  rises : (u : ℕ) → Within (slice_index words u) (slice_index (set words i (bit_or (slice_index words i) bits)) u)
  rises u = dite (ℕ_discrete u i)
      (λ e. subst (λ (x : ℕ). Within (slice_index words u) x) (sym (raised_at u e)) (subst (λ (x : ℕ). Within (slice_index words x) (bit_or (slice_index words i) bits)) (sym e) (within_or_l (slice_index words i) bits)))
      (λ ne. subst (Within (slice_index words u)) (sym (raised_else u ne)) (within_refl (slice_index words u)))

  -- a new bit makes more bits
  pub more_ones : ones_below 64 (slice_index words i) < ones_below 64 (bit_or (slice_index words i) bits)
      → (n : ℕ) → i < n → ones_in n words < ones_in n (set words i (bit_or (slice_index words i) bits))
  more_ones new n inside =
      let after : List ℕ = set words i (bit_or (slice_index words i) bits) in
      let le = ones_in_le n words after (λ w less. rises w) in
      dite (dec_le (ones_in n after) (ones_in n words))
      (λ back.
      let e = same_ones 64 (slice_index words i) (slice_index after i) (λ j low. ones_in_same n words after (λ w less. rises w) back i inside j low) in
      let here : ones_below 64 (slice_index after i) ≡ ones_below 64 (bit_or (slice_index words i) bits) = ap (ones_below 64) (raised_at i refl) in
      absurd (omega arith))
      (λ more. omega arith)

module _ (sys : System) (law : IsLawful sys) where
  -- a body that reads no word that changed is closed still
  closed_still : (x : ℕ) (words after : List ℕ) → x < sys.bodies → length words ≡ sys.words → length after ≡ sys.words → AgreesFor sys x words after → Covers sys.words words after → ClosedAt sys x words words → ClosedAt sys x after after
  closed_still x words after inside count count' agrees covers closed w less =
      within_trans _ (slice_index words w) _
      (subst (λ (l : List (WordNo × ℕ)). Within (bits_for l w) (slice_index words w)) (law.reads_only x words after inside count count' agrees) (closed w less))
      (covers w less)

  -- an output names a word that there is
  pub named_at : (b : ℕ) (before : List ℕ) (os : List (WordNo × ℕ)) (i : ℕ) (o : WordNo × ℕ) → b < sys.bodies → length before ≡ sys.words → os ≡ sys.output b before → get_elem? os i ≡ some o → o.0.0 < sys.words
  named_at b before os i o inside count out at = law.named b before inside count i o (subst (λ (l : List (WordNo × ℕ)). get_elem? l i ≡ some o) out at)

  -- ---- within a body
  pub begins_body : (start : List ℕ) (b : ℕ) (words dirty : List ℕ) (os : List (WordNo × ℕ)) → IsDrainingBut sys start b words dirty → IsWithinBody sys start b words os 0 words dirty
  begins_body start b words dirty os h = record {
    first = h.between;
    between = h.between;
    others = h.others;
    own = inr (λ w less reads. refl);
    raised = λ w. zero_within (slice_index words w);
  }

  one_more : (os : List (WordNo × ℕ)) (i : ℕ) (o : WordNo × ℕ) → get_elem? os i ≡ some o → take (i + 1) os ≡ take i os ++ o ∷ []
  one_more os i o at = ap (λ (k : ℕ). take k os) (add-one i) ∙ take_more os i o at

  raised_one : (os : List (WordNo × ℕ)) (i : ℕ) (o : WordNo × ℕ) (words after : List ℕ) → get_elem? os i ≡ some o → ((u : ℕ) → Within (slice_index words u) (slice_index after u)) → Within o.1 (slice_index after o.0.0)
      → ((w : ℕ) → Within (bits_for (take i os) w) (slice_index words w)) → (w : ℕ) → Within (bits_for (take (i + 1) os) w) (slice_index after w)
  raised_one os i o words after at rise here before w =
      subst (λ (l : List (WordNo × ℕ)). Within (bits_for l w) (slice_index after w)) (sym (one_more os i o at))
      (snoc_within (take i os) o w (slice_index after w) (within_trans _ (slice_index words w) _ (before w) (rise w)) (λ s. subst (λ (u : ℕ). Within o.1 (slice_index after u)) s here))

  module _ (start : List ℕ) (b : ℕ) (before : List ℕ) (os : List (WordNo × ℕ)) (i : ℕ) (o : WordNo × ℕ) (words dirty : List ℕ)
      (inside : b < sys.bodies) (out : os ≡ sys.output b before) (at : get_elem? os i ≡ some o) (range : o.0.0 < sys.words) (h : IsWithinBody sys start b before os i words dirty) where
    -- where no bit was new, nothing changed
    raise_same : bit_or (slice_index words o.0.0) o.1 ≡ slice_index words o.0.0 → IsWithinBody sys start b before os (i + 1) words dirty
    raise_same none = record {
      first = h.first;
      between = h.between;
      others = h.others;
      own = h.own;
      raised = raised_one os i o words words at (λ u. within_refl (slice_index words u)) (subst (Within o.1) none (within_or_r (slice_index words o.0.0) o.1)) h.raised;
    }

    raise_new : (marked : List ℕ) → ((x : ℕ) → IsDue marked x ↔ (IsDue dirty x ⊎ ((x < sys.bodies) × (sys.reads x o.0.0 ≡ true))))
        → IsWithinBody sys start b before os (i + 1) (set words o.0.0 (bit_or (slice_index words o.0.0) o.1)) marked
    raise_new marked due =
        let top : List ℕ = least sys start in
        let m : ℕ = bit_or (slice_index words o.0.0) o.1 in
        let after : List ℕ = set words o.0.0 m in
        let room : o.0.0 < length words = let e = h.between.count in omega arith in
        let rise : (u : ℕ) → Within (slice_index words u) (slice_index after u) = rises words o.0.0 o.1 room in
        let count : length after ≡ sys.words = length-set words o.0.0 m ∙ h.between.count in
        let bits : Within o.1 (slice_index top o.0.0) =
        within_trans o.1 (bits_for (sys.output b before) o.0.0) _ (subst (λ (l : List (WordNo × ℕ)). Within o.1 (bits_for l o.0.0)) out (entry_within os i o at))
        (within_trans (bits_for (sys.output b before) o.0.0) (bits_for (sys.output b top) o.0.0) _ (law.monotone b before top inside h.first.count h.between.top.count h.first.below o.0.0 range) (h.between.top.closed b inside o.0.0 range)) in
        let agrees : (x : ℕ) → sys.reads x o.0.0 ≡ false → AgreesFor sys x words after = λ x none w less reads.
        sym (raised_else words o.0.0 o.1 room w (λ e. true≢false (sym reads ∙ (ap (sys.reads x) e ∙ none)))) in
        let each : (x : ℕ) → x < sys.bodies → (t : Bool) → sys.reads x o.0.0 ≡ t → IsDirtyOrClosed sys words dirty x → IsDirtyOrClosed sys after marked x = λ x less.
        elim [
          | true ↦ λ reads was. inl ((due x).1 (inr (less, reads)))
          | false ↦ λ none was. ⊎_elim (λ d. inl ((due x).1 (inl d))) (λ c. inr (closed_still x words after less h.between.count count (agrees x none) (λ w low. rise w) c)) was
        ] in
        let own : (t : Bool) → sys.reads b o.0.0 ≡ t → IsDue marked b ⊎ AgreesFor sys b before after =
        elim [
          | true ↦ λ reads. inl ((due b).1 (inr (inside, reads)))
          | false ↦ λ none. ⊎_elim (λ d. inl ((due b).1 (inl d))) (λ a. inr (λ w less reads. a w less reads ∙ agrees b none w less reads)) h.own
        ] in
        record {
          first = h.first;
          between = record {
            count = count;
            above = λ w less. within_trans _ (slice_index words w) _ (h.between.above w less) (rise w);
            below = λ w less. dite (ℕ_discrete w o.0.0)
                (λ e. subst (λ x. Within x (slice_index top w)) (sym (raised_at words o.0.0 o.1 room w e)) (subst (λ (x : ℕ). Within m (slice_index top x)) (sym e) (or_within (slice_index words o.0.0) o.1 (slice_index top o.0.0) (h.between.below o.0.0 range) bits)))
                (λ ne. subst (λ x. Within x (slice_index top w)) (sym (raised_else words o.0.0 o.1 room w ne)) (h.between.below w less));
            top = h.between.top;
          };
          others = λ x less apart. each x less (sys.reads x o.0.0) refl (h.others x less apart);
          own = own (sys.reads b o.0.0) refl;
          raised = raised_one os i o words after at rise (subst (Within o.1) (sym (raised_at words o.0.0 o.1 room o.0.0 refl)) (within_or_r (slice_index words o.0.0) o.1)) h.raised;
        }

    pub raise_on : (new : Bool) (after marked : List ℕ)
        → (new ≡ false → (bit_or (slice_index words o.0.0) o.1 ≡ slice_index words o.0.0) × (after ≡ words) × (marked ≡ dirty))
        → (new ≡ true → after ≡ set words o.0.0 (bit_or (slice_index words o.0.0) o.1))
        → (new ≡ true → (x : ℕ) → IsDue marked x ↔ (IsDue dirty x ⊎ ((x < sys.bodies) × (sys.reads x o.0.0 ≡ true))))
        → IsWithinBody sys start b before os (i + 1) after marked
    raise_on true after marked same more due = subst (λ (l : List ℕ). IsWithinBody sys start b before os (i + 1) l marked) (sym (more refl)) (raise_new marked (due refl))
    raise_on false after marked same more due =
        let s = same refl in
        subst (λ (l : List ℕ). IsWithinBody sys start b before os (i + 1) l marked) (sym s.1) (subst (λ (l : List ℕ). IsWithinBody sys start b before os (i + 1) words l) (sym s.2) (raise_same s.0))

  pub ends_body : (start : List ℕ) (b : ℕ) (before : List ℕ) (os : List (WordNo × ℕ)) (n : ℕ) (words dirty : List ℕ) → b < sys.bodies → os ≡ sys.output b before → n ≡ length os
      → IsWithinBody sys start b before os n words dirty → IsDraining sys start words dirty
  ends_body start b before os n words dirty inside out whole h = record {
    between = h.between;
    each = λ x less. dite (ℕ_discrete x b) (λ e. subst (IsDirtyOrClosed sys words dirty) (sym e) mine) (λ ne. h.others x less ne);
  }
    where
      mine : IsDirtyOrClosed sys words dirty b
      mine = ⊎_elim (λ d. inl d)
          (λ agrees. inr (λ w less.
          subst (λ (l : List (WordNo × ℕ)). Within (bits_for l w) (slice_index words w))
          (take_whole os n whole ∙ (out ∙ law.reads_only b before words inside h.first.count h.between.count agrees)) (h.raised w)))
          h.own

  -- where no body is dirty the words are the least ones
  pub drained : (start words dirty : List ℕ) → length start ≡ sys.words → IsLeast sys start (least sys start) → IsDraining sys start words dirty → ((b : ℕ) → b < sys.bodies → IsDue dirty b → ⊥) → words ≡ least sys start
  drained start words dirty count is h none =
      let closed : IsClosed sys words = record { count = h.between.count; closed = λ b inside. ⊎_elim (λ d. absurd (none b inside d)) (λ c. c) (h.each b inside) } in
      ext_get_or 0 words (least sys start) (h.between.count ∙ sym is.closed.count)
      (λ i less. let low : i < sys.words = let e = h.between.count in omega arith in
      within_same (slice_index words i) (slice_index (least sys start) i) (h.between.below i low) (is.below words closed h.between.above i low))

  pub begins_drain : (words dirty : List ℕ) → length words ≡ sys.words → IsLeast sys words (least sys words) → ((b : ℕ) → b < sys.bodies → IsDirtyOrClosed sys words dirty b) → IsDraining sys words words dirty
  begins_drain words dirty count is each = record {
    between = record { count = count; above = λ w less. within_refl (slice_index words w); below = is.above; top = is.closed };
    each = each;
  }

-- ---- a body's bit is cleared
pub bit_taken : (sys : System) (start : List ℕ) (b : ℕ) (words dirty after : List ℕ) → ((x : ℕ) → IsDue after x ↔ (IsDue dirty x × (x ≢ b))) → IsDraining sys start words dirty → IsDrainingBut sys start b words after
bit_taken sys start b words dirty after bits h = record {
  between = h.between;
  others = λ x less apart. ⊎_elim (λ d. inl ((bits x).1 (d, apart))) (λ c. inr c) (h.each x less);
}

pub bit_was_clear : (sys : System) (start : List ℕ) (b : ℕ) (words dirty after : List ℕ) → ((x : ℕ) → IsDue after x ↔ (IsDue dirty x × (x ≢ b))) → (IsDue dirty b → ⊥) → IsDraining sys start words dirty → IsDraining sys start words after
bit_was_clear sys start b words dirty after bits clear h = record {
  between = h.between;
  each = λ x less. ⊎_elim (λ d. inl ((bits x).1 (d, λ e. clear (subst (IsDue dirty) e d)))) (λ c. inr c) (h.each x less);
}

-- ---- progress
pub moved_with : (r : Bool) (sys : System) (words after : List ℕ) (A B : Type 0) → (A → B) → Moved r sys words after A → Moved r sys words after B
moved_with true sys words after A B f m = m
moved_with false sys words after A B f m = (m.0, f m.1)

pub moved_true : (r : Bool) (sys : System) (words after : List ℕ) (A : Type 0) → r ≡ true → Moved r sys words after A → ones_in sys.words words < ones_in sys.words after
moved_true r sys words after A e m = subst (λ (t : Bool). Moved t sys words after A) e m

pub moved_false : (r : Bool) (sys : System) (words after : List ℕ) (A : Type 0) → r ≡ false → Moved r sys words after A → A
moved_false r sys words after A e m = (subst (λ (t : Bool). Moved t sys words after A) e m).1

-- none below b is dirty, nor b
pub none_more : (b : ℕ) (dirty after : List ℕ) → ((x : ℕ) → x < b → IsDue dirty x → ⊥) → ((x : ℕ) → IsDue after x → IsDue dirty x × (x ≢ b)) → (x : ℕ) → x < b + 1 → IsDue after x → ⊥
none_more b dirty after none kept x less due = let q = kept x due in none x (lower x b less q.1) q.0
  where
    lower : (x b : ℕ) → x < b + 1 → x ≢ b → x < b
    lower x b less ne = dite (dec_le b x) (λ le. absurd (ne (omega arith))) (λ more. omega arith)

moved_more : (r : Bool) (sys : System) (words after : List ℕ) (fact : Type 0) → Moved r sys words after fact → ones_in sys.words words ≤ ones_in sys.words after
moved_more true sys words after fact m = omega (arith, m)
moved_more false sys words after fact m = let e : ones_in sys.words after ≡ ones_in sys.words words = ap (ones_in sys.words) m.0 in omega arith

pub moved_on : (r s : Bool) (sys : System) (words mid after : List ℕ) (A B D : Type 0) → Moved r sys words mid A → Moved s sys mid after B → (A → B → D) → Moved (r || s) sys words after D
moved_on true s sys words mid after A B D m n f = let p = moved_more s sys mid after B n in omega (arith, m)
moved_on false true sys words mid after A B D m n f = let e : ones_in sys.words mid ≡ ones_in sys.words words = ap (ones_in sys.words) m.0 in omega (arith, n)
moved_on false false sys words mid after A B D m n f = (n.0 ∙ m.0, f m.1 n.1)

pub raise_moves : (sys : System) (words dirty : List ℕ) (i bits : ℕ) (new : Bool) (after marked : List ℕ) → i < sys.words
    → (new ≡ false → (bit_or (slice_index words i) bits ≡ slice_index words i) × (after ≡ words) × (marked ≡ dirty))
    → (new ≡ true → (n : ℕ) → i < n → ones_in n words < ones_in n after)
    → Moved new sys words after (marked ≡ dirty)
raise_moves sys words dirty i bits true after marked inside same more = more refl sys.words inside
raise_moves sys words dirty i bits false after marked inside same more = let s = same refl in (s.1, s.2)
