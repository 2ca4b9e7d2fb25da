-- A read keeps the rule.
use Rattle.std.proofs.Common.{◌≡◌, ◌≢◌, ℕ, ◌<◌, List, length, set, Some, sym, refl, ap, ◌∙◌, subst, ⊎_elim, arith, get_or-set_same, get_or-set_other, length-set}
use mathlib.Core.Option.{none, some}
use mathlib.Core.Logic.{dite}
use native.Mathlib.Decide.{ℕ_discrete}
use lib.ListN.{get_elem?}
use Rattle.std.specs.Prelude.{slice_index}
use Rattle.atomic_table.specs.Table.{State, step, keeps, stepped, Allows}
use Rattle.jn_sigtable.specs.declared.view.View.{View}
use Rattle.jn_sigtable.specs.declared.view.Setting.{Setting}
use Rattle.jn_sigtable.specs.System.{System, Within}
use Rattle.jn_sigtable.specs.Machine.IsCovered.{closed, dirty, owed, run}
use Rattle.jn_sigtable.proofs.Frames.{at_before, at_after, unseen_kept}
use Rattle.jn_sigtable.specs.Machine.{start_of, IsCovered, IsCurrent, IsLive, Has, Holds, Reads, after_read}
use Rattle.jn_sigtable.proofs.Bits.{within_refl}
use Rattle.jn_sigtable.proofs.Keeping.{loaded}
use Rattle.jn_sigtable.proofs.Counting.{counted_set}

module _ {C : Type 0} (describe : C → System) (k : Setting C) where
  read_kept : (s : State ℕ (View C)) (id i : ℕ) (v : View C) (c : List (ℕ × ℕ))
      → i < (describe k.system).words → Holds describe k s → get_elem? s.views id ≡ some v → IsLive v
      → Holds describe k (stepped s i (slice_index s.words i) id c (after_read describe v i (slice_index s.words i)) keeps)
  read_kept s id i v c inside h at live =
      let sys : System = describe k.system in
      let n : ℕ = slice_index s.words i in
      let w : View C = after_read describe v i n in
      let fit = h.fits id v at live in
      let room : i < length v.values = let e = fit.count in omega arith in
      let here : get_elem? (set s.views id w) id ≡ some w = at_after s.views id v w at in
      let new : (u : ℕ) → u ≡ i → slice_index w.values u ≡ slice_index s.words u = λ u e. ap (λ x. slice_index w.values x) e ∙ (get_or-set_same v.values i n 0 room ∙ ap (λ x. slice_index s.words x) (sym e)) in
      let old : (u : ℕ) → u ≢ i → slice_index w.values u ≡ slice_index v.values u = λ u ne. get_or-set_other v.values i u n 0 ne in
      let cur : (d : ℕ) → IsCurrent sys d v s.words → IsCurrent sys d w s.words = λ d now u below reads has.
      dite (ℕ_discrete u i) (λ e. new u e) (λ ne. old u ne ∙ now u below reads (⊎_elim (λ e. absurd (ne (sym e))) (λ r. r) has)) in
      let cover : (d : ℕ) → d < sys.bodies → IsCovered sys s.words (set s.views id w) d = λ d less. elim (h.cover d less) [
        | closed f ↦ closed f
        | dirty f ↦ dirty f
        | owed j u there alive due ↦ ⊎_elim (λ e. owed id w here live (subst (λ (x : View C). Has x.owed d) e due)) (λ now. owed j u now alive due) (at_before s.views id v w at j u there)
        | run j u there alive is now ↦ ⊎_elim
            (λ e. run id w here live (subst (λ (x : View C). x.body ≡ Some d) e is) (cur d (subst (λ (x : View C). IsCurrent sys d x s.words) e now)))
            (λ still. run j u still alive is now)
            (at_before s.views id v w at j u there)
      ] in
      loaded describe k s i id v c w h at (h.fixed id v at live) refl refl
      record {
        count = length-set v.values i n ∙ fit.count;
        values = λ u less. dite (ℕ_discrete u i) (λ e. subst (λ x. Within x (slice_index s.words u)) (sym (new u e)) (within_refl (slice_index s.words u))) (λ ne. subst (λ x. Within x (slice_index s.words u)) (sym (old u ne)) (fit.values u less));
        raised = fit.raised;
        inside = fit.inside;
      }
      cover
      (λ d less is. unseen_kept s.views id v w d at refl (λ x. x) (h.scanned d less is))
      (counted_set sys (start_of describe k) s.words s.words s.views id v w at h.counted (omega arith) (h.counted.runs id v at live))

  pub read_allowed : (slots id i : ℕ) (v : View C) (c : List (ℕ × ℕ)) → IsLive v → i < (describe k.system).words
      → Allows (Holds describe k) slots id (v, c) i (λ n. n) (Reads describe (step slots i 0 0 none) (v, c))
  read_allowed slots id i v c live inside s h homes at small = (after_read describe v i (slice_index s.words i), keeps, tt, read_kept s id i v c inside h at live, refl)
