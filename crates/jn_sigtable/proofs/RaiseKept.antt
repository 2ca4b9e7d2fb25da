-- A raise keeps the rule.
use Rattle.std.proofs.Common.{◌≡◌, ◌≢◌, ◌⊎◌, ℕ, ◌+◌, ◌/◌, ◌%◌, ◌<◌, ◌≤◌, ◌==◌, Bool, true, false, List, ◌∷◌, ◌++◌, length, set, Some, if◌then◌else◌, sym, refl, ap, ◌∙◌, subst, inl, inr, ⊎_elim, arith, bit_or, get_or-set_same, get_or-set_other, true≢false, eq-eqb, ◌^◌}
use mathlib.Core.Option.{none, some}
use mathlib.Core.Logic.{dite}
use native.Mathlib.Decide.{ℕ_discrete}
use lib.ListN.{get_elem?}
use Rattle.std.specs.Prelude.{slice_index}
use Rattle.std.specs.Int.{bit_at}
use Rattle.std.proofs.lemmas.Bool.{eqb-true}
use Rattle.atomic_table.specs.Table.{State, step, keeps, stepped, Allows}
use Rattle.jn_sigtable.specs.declared.view.View.{View}
use Rattle.jn_sigtable.specs.declared.view.Setting.{Setting}
use Rattle.jn_sigtable.specs.System.{System, IsLawful, Within, Covers, bits_for, least, risen}
use Rattle.jn_base.specs.declared.number.WordNo.{WordNo}
use Rattle.jn_sigtable.specs.Machine.IsCovered.{closed, dirty, owed, run}
use Rattle.jn_sigtable.proofs.Frames.{at_before, at_after, closed_kept, unseen_kept}
use Rattle.jn_sigtable.specs.Machine.{start_of, IsCovered, IsCurrent, IsLive, Has, Holds, Raises, after_raise, bodies_where}
use Rattle.jn_sigtable.proofs.Bits.{within_trans, within_refl, within_or_l, within_or_r, or_within}
use Rattle.std.proofs.lemmas.Nat.{or_lt}
use Rattle.jn_sigtable.proofs.Counting.{bodies_most, counted_set, dirty_as, raise_held, risen_le, risen_more}
use Rattle.jn_sigtable.proofs.Keeping.{kept, has_left, has_right, bodies_have}

-- whether a body reads the word and a bit there was new
data Touch (reads same : Bool) : Type 0 where
  touched : reads ≡ true → same ≡ false → Touch reads same
  calm : (reads ≡ false) ⊎ (same ≡ true) → Touch reads same

touch : (a b : Bool) → Touch a b
touch true false = touched refl refl
touch true true = calm (inr refl)
touch false b = calm (inl refl)

pub more_owed : (t : Bool) (xs ys : List ℕ) (d : ℕ) → Has xs d → Has (if t then xs else (xs ++ ys)) d
more_owed true xs ys d h = h
more_owed false xs ys d h = has_left xs ys d h

pub raised_more : (i ones : ℕ) (old : List (WordNo × ℕ)) (u n : ℕ) → ((i ≡ u) → Within ones n) → Within (bits_for old u) n → Within (bits_for ((record { 0 = i }, ones) ∷ old) u) n
raised_more i ones old u n here before = go (i == u) refl
  where
    go : (t : Bool) → (i == u) ≡ t → Within (if t then bit_or ones (bits_for old u) else bits_for old u) n
    go true e = or_within ones (bits_for old u) n (here (eqb-true i u e)) before
    go false e = before

module _ {C : Type 0} (describe : C → System) (k : Setting C) (law : IsLawful (describe k.system)) where
  raise_kept : (s : State ℕ (View C)) (id i b ones : ℕ) (v : View C) (c : List (ℕ × ℕ))
      → i < (describe k.system).words → Holds describe k s → get_elem? s.views id ≡ some v → IsLive v
      → v.body ≡ Some b → Within ones (bits_for ((describe k.system).output b v.values) i) → slice_index s.words i < 2 ^ 64 → ones < 2 ^ 64
      → Holds describe k (stepped s i (bit_or (slice_index s.words i) ones) id c (after_raise describe v i ones (slice_index s.words i)) keeps)
  raise_kept s id i b ones v c inside h at live runs bits small narrow =
      let sys : System = describe k.system in
      let n : ℕ = slice_index s.words i in
      let m : ℕ = bit_or n ones in
      let after : List ℕ = set s.words i m in
      let w : View C = after_raise describe v i ones n in
      let top : List ℕ = least sys (start_of describe k) in
      let same : v.system ≡ k.system = h.fixed id v at live in
      let fit = h.fits id v at live in
      let room : i < length s.words = let e = h.count in omega arith in
      let long : sys.words ≤ length s.words = let e = h.count in omega arith in
      let here : get_elem? (set s.views id w) id ≡ some w = at_after s.views id v w at in
      let new : (u : ℕ) → u ≡ i → slice_index after u ≡ m = λ u e. ap (λ x. slice_index after x) e ∙ get_or-set_same s.words i m 0 room in
      let old : (u : ℕ) → u ≢ i → slice_index after u ≡ slice_index s.words u = λ u ne. get_or-set_other s.words i u m 0 ne in
      let rises : Covers sys.words s.words after = λ u less. dite (ℕ_discrete u i)
      (λ e. subst (λ x. Within x (slice_index after u)) (ap (λ x. slice_index s.words x) (sym e)) (subst (Within n) (sym (new u e)) (within_or_l n ones)))
      (λ ne. subst (Within (slice_index s.words u)) (sym (old u ne)) (within_refl (slice_index s.words u))) in
      let values : Covers sys.words v.values top = λ u less. within_trans _ (slice_index s.words u) _ (fit.values u less) (h.below u less) in
      let inb : b < sys.bodies = fit.inside b runs in
      let limit : Within ones (slice_index top i) = within_trans ones (bits_for (sys.output b v.values) i) _ bits
      (within_trans (bits_for (sys.output b v.values) i) (bits_for (sys.output b top) i) (slice_index top i) (law.monotone b v.values top inb fit.count h.top.count values i inside) (h.top.closed b inb i inside)) in
      let below : Covers sys.words after top = λ u less. dite (ℕ_discrete u i)
      (λ e. subst (λ x. Within x (slice_index top u)) (sym (new u e)) (subst (λ x. Within m (slice_index top x)) (sym e) (or_within n ones (slice_index top i) (h.below i inside) limit)))
      (λ ne. subst (λ x. Within x (slice_index top u)) (sym (old u ne)) (h.below u less)) in
      -- a body that the raise does not touch finds its words as they were
      let still : (d : ℕ) → (sys.reads d i ≡ false) ⊎ ((m == n) ≡ true) → (u : ℕ) → u < sys.words → sys.reads d u ≡ true → slice_index after u ≡ slice_index s.words u = λ d why u less reads.
      dite (ℕ_discrete u i)
      (λ e. ⊎_elim (λ f. absurd (true≢false (sym (subst (λ x. sys.reads d x ≡ true) e reads) ∙ f))) (λ t. new u e ∙ (eqb-true m n t ∙ ap (λ x. slice_index s.words x) (sym e))) why)
      (λ ne. old u ne) in
      let marks : (d : ℕ) → d < sys.bodies → sys.reads d i ≡ true → (m == n) ≡ false → Has w.owed d = λ d less reads fresh.
      subst (λ (t : Bool). Has (if t then v.owed else (v.owed ++ bodies_where (describe v.system) (λ x. (describe v.system).reads x i))) d) (sym fresh)
      (has_right v.owed _ d (bodies_have (describe v.system) (λ x. (describe v.system).reads x i) d (subst (λ (x : C). d < (describe x).bodies) (sym same) less) (subst (λ (x : C). (describe x).reads d i ≡ true) (sym same) reads))) in
      let more : (d : ℕ) → Has v.owed d → Has w.owed d = λ d has. more_owed (m == n) v.owed (bodies_where (describe v.system) (λ x. (describe v.system).reads x i)) d has in
      let other : (d : ℕ) → slice_index after (sys.words + d / 64) ≡ slice_index s.words (sys.words + d / 64) = λ d. old (sys.words + d / 64) (λ e. absurd (omega arith)) in
      let calmly : (d : ℕ) → d < sys.bodies → (sys.reads d i ≡ false) ⊎ ((m == n) ≡ true) → IsCovered sys after (set s.views id w) d = λ d less why. elim (h.cover d less) [
        | closed f ↦ closed (closed_kept sys law s.words after d less long rises (still d why) f)
        | dirty f ↦ dirty (ap (λ (y : ℕ). bit_at y (d % 64)) (other d) ∙ f)
        | owed j u there alive due ↦ ⊎_elim (λ e. owed id w here live (more d (subst (λ (x : View C). Has x.owed d) e due))) (λ now. owed j u now alive due) (at_before s.views id v w at j u there)
        | run j u there alive is now ↦ ⊎_elim
            (λ e. run id w here live (subst (λ (x : View C). x.body ≡ Some d) e is) (λ y less' reads has. subst (λ (x : View C). IsCurrent sys d x s.words) e now y less' reads has ∙ sym (still d why y less' reads)))
            (λ there'. run j u there' alive is (λ y less' reads has. now y less' reads has ∙ sym (still d why y less' reads)))
            (at_before s.views id v w at j u there)
      ] in
      let cover : (d : ℕ) → d < sys.bodies → IsCovered sys after (set s.views id w) d = λ d less. elim (touch (sys.reads d i) (m == n)) [
        | touched reads fresh ↦ owed id w here live (marks d less reads fresh)
        | calm why ↦ calmly d less why
      ] in
      kept describe k s i m id v c w h at same refl refl rises below
      record {
        count = fit.count;
        values = λ u less. within_trans _ (slice_index s.words u) _ (fit.values u less) (rises u less);
        raised = λ u less. raised_more i ones v.raised u (slice_index after u) (λ e. subst (Within ones) (sym (new u (sym e))) (within_or_r n ones)) (within_trans _ (slice_index s.words u) _ (fit.raised u less) (rises u less));
        inside = fit.inside;
      }
      cover
      (λ d less is. unseen_kept s.views id v w d at refl (λ x. x) (h.scanned d less (ap (λ (y : ℕ). bit_at y (d % 64)) (sym (other d)) ∙ is)))
      (counted_set sys (start_of describe k) s.words after s.views id v w at h.counted
      (let p = dirty_as sys s.words after sys.bodies (λ d. ap (λ (y : ℕ). bit_at y (d % 64)) (other d)) in
      let q : length (bodies_where (describe v.system) (λ x. (describe v.system).reads x i)) ≤ sys.bodies = subst (λ (x : C). length (bodies_where (describe v.system) (λ y. (describe v.system).reads y i)) ≤ (describe x).bodies) same (bodies_most (describe v.system) (λ x. (describe v.system).reads x i)) in
      let r = raise_held (m == n) v.owed (bodies_where (describe v.system) (λ x. (describe v.system).reads x i)) sys.bodies (risen sys (start_of describe k) s.words) (risen sys (start_of describe k) after) q (risen_le sys (start_of describe k) s.words after rises)
      (λ fresh. risen_more sys (start_of describe k) s.words after i inside h.start rises small (subst (λ (x : ℕ). x < 2 ^ 64) (sym (new i refl)) (or_lt 64 n ones small narrow)) (λ e. absurd (true≢false (sym (eq-eqb m n (sym (new i refl) ∙ e)) ∙ fresh)))) in
      omega arith)
      (h.counted.runs id v at live))

  pub raise_allowed : (slots id i b ones : ℕ) (v : View C) (c : List (ℕ × ℕ)) → IsLive v → i < (describe k.system).words
      → v.body ≡ Some b → v.system ≡ k.system → Within ones (bits_for ((describe v.system).output b v.values) i) → ones < 2 ^ 64
      → Allows (Holds describe k) slots id (v, c) i (λ n. bit_or n ones) (Raises describe (step slots i ones 0 none) (v, c))
  raise_allowed slots id i b ones v c live inside runs same bits narrow s h homes at small =
      (after_raise describe v i ones (slice_index s.words i), keeps, tt, raise_kept s id i b ones v c inside h at live runs (subst (λ (x : C). Within ones (bits_for ((describe x).output b v.values) i)) same bits) small narrow, refl)
