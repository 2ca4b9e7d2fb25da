-- A mark keeps the rule, and a scan.
use Rattle.std.proofs.Common.{◌≡◌, ◌≢◌, ℕ, ◌+◌, ◌-◌, ◌*◌, ◌/◌, ◌%◌, ◌<◌, ◌≤◌, ◌==◌, ◌&&◌, not, Bool, true, false, List, length, set, Some, None, if◌then◌else◌, Option, sym, refl, ap, ◌∙◌, subst, ⊎_elim, arith, bit_or, get_or-set_same, get_or-set_other}
use mathlib.Core.Option.{none, some}
use mathlib.Core.Logic.{dite}
use native.Mathlib.Decide.{ℕ_discrete}
use lib.ListN.{get_elem?}
use Rattle.std.specs.Prelude.{slice_index}
use Rattle.std.specs.Int.{bit_at}
use Rattle.std.proofs.lemmas.Bool.{eqb-true}
use Rattle.atomic_table.specs.Table.{State, step, keeps, stepped, Allows}
use Rattle.jn_sigtable.specs.declared.view.View.{View}
use Rattle.jn_sigtable.specs.declared.view.Setting.{Setting}
use Rattle.jn_sigtable.specs.System.{System, IsLawful, Within, least, ones_in, risen}
use Rattle.jn_sigtable.specs.Machine.IsCovered.{closed, dirty, owed, run}
use Rattle.jn_sigtable.proofs.Frames.{at_before, at_after, closed_kept, finished_closed, unseen_kept}
use Rattle.std.proofs.lemmas.Nat.Bits.{bit_at-lt}
use Rattle.std.specs.List.{range_with_len}
use Rattle.jn_sigtable.specs.Machine.{start_of, IsCovered, IsCurrent, IsAtRest, IsIdle, IsDirty, IsLive, Has, Holds, Marks, MayMark, Scans, after_mark, after_scan, is_marked, own_marked, dirty_words}
use Rattle.jn_sigtable.proofs.Bits.{within_trans, within_refl, within_or_l, within_or_r}
use Rattle.jn_sigtable.proofs.Counting.{bounded, counted_set, dirty_more, mark_runs, marked_more, marks_held, ones_in_as}
use Rattle.jn_sigtable.proofs.Keeping.{kept, loaded, none_has, both_true, has_filter, filter_has, has_either}

none_some : (d : ℕ) → None ≡ Some d → ⊥
none_some d e = cc

body_kept : (t : Bool) (x : Option ℕ) (d : ℕ) → (if t then None else x) ≡ Some d → x ≡ Some d
body_kept true x d e = absurd (none_some d e)
body_kept false x d e = e

-- a body that was marked is dirty, and else it is owed or run as before
module _ {C : Type 0} where
  owed_or : (t : Bool) (sys : System) (words : List ℕ) (views : List (View C)) (e id : ℕ) (w : View C) → get_elem? views id ≡ some w → IsLive w → (t ≡ true → IsDirty sys words e) → (t ≡ false → Has w.owed e) → IsCovered sys words views e
  owed_or true sys words views e id w at alive set_it left = dirty (set_it refl)
  owed_or false sys words views e id w at alive set_it left = owed id w at alive (left refl)

  run_or : (t : Bool) (sys : System) (words : List ℕ) (views : List (View C)) (e id : ℕ) (w : View C) → get_elem? views id ≡ some w → IsLive w → (t ≡ true → IsDirty sys words e) → (t ≡ false → w.body ≡ Some e) → IsCurrent sys e w words → IsCovered sys words views e
  run_or true sys words views e id w at alive set_it left now = dirty (set_it refl)
  run_or false sys words views e id w at alive set_it left now = run id w at alive (left refl) now

module _ {C : Type 0} (describe : C → System) (k : Setting C) where
  module _ (law : IsLawful (describe k.system)) where
    mark_kept : (s : State ℕ (View C)) (id d ones : ℕ) (v : View C) (c : List (ℕ × ℕ))
        → d < dirty_words (describe k.system) → Holds describe k s → get_elem? s.views id ≡ some v → IsLive v → MayMark v d ones
        → Holds describe k (stepped s ((describe k.system).words + d) (bit_or (slice_index s.words ((describe k.system).words + d)) ones) id c (after_mark describe v d ones) keeps)
    mark_kept s id d ones v c inside h at live due =
        let sys : System = describe k.system in
        let i : ℕ = sys.words + d in
        let n : ℕ = slice_index s.words i in
        let m : ℕ = bit_or n ones in
        let after : List ℕ = set s.words i m in
        let w : View C = after_mark describe v d ones in
        let fit = h.fits id v at live in
        let room : i < length s.words = let e = h.count in omega arith in
        let long : sys.words ≤ length s.words = let e = h.count in omega arith in
        let here : get_elem? (set s.views id w) id ≡ some w = at_after s.views id v w at in
        let new : (u : ℕ) → u ≡ i → slice_index after u ≡ m = λ u e. ap (λ x. slice_index after x) e ∙ get_or-set_same s.words i m 0 room in
        let old : (u : ℕ) → u ≢ i → slice_index after u ≡ slice_index s.words u = λ u ne. get_or-set_other s.words i u m 0 ne in
        let sig : (u : ℕ) → u < sys.words → slice_index after u ≡ slice_index s.words u = λ u less. old u (λ e. absurd (omega arith)) in
        let grows : (u : ℕ) → Within (slice_index s.words u) (slice_index after u) = λ u. dite (ℕ_discrete u i)
        (λ e. subst (λ x. Within x (slice_index after u)) (ap (λ x. slice_index s.words x) (sym e)) (subst (Within n) (sym (new u e)) (within_or_l n ones)))
        (λ ne. subst (Within (slice_index s.words u)) (sym (old u ne)) (within_refl (slice_index s.words u))) in
        let stays : (e : ℕ) → IsDirty sys s.words e → IsDirty sys after e = λ e is.
        let p = grows (sys.words + e / 64) (e % 64) in let q = bit_at-lt (slice_index after (sys.words + e / 64)) (e % 64) in omega arith in
        let marked : (e : ℕ) → is_marked d ones e ≡ true → IsDirty sys after e = λ e is.
        let t = both_true (e / 64 == d) (bit_at ones (e % 64) == 1) is in
        let place : sys.words + e / 64 ≡ i = ap (λ (x : ℕ). sys.words + x) (eqb-true (e / 64) d t.0) in
        let one : bit_at ones (e % 64) ≡ 1 = eqb-true (bit_at ones (e % 64)) 1 t.1 in
        let p : bit_at ones (e % 64) ≤ bit_at m (e % 64) = within_or_r n ones (e % 64) in
        let q : bit_at m (e % 64) < 2 = bit_at-lt m (e % 64) in
        let r : bit_at m (e % 64) ≡ 1 = omega arith in
        ap (λ (y : ℕ). bit_at y (e % 64)) (new (sys.words + e / 64) place) ∙ r in
        let cover : (e : ℕ) → e < sys.bodies → IsCovered sys after (set s.views id w) e = λ e less. elim (h.cover e less) [
          | closed f ↦ closed (closed_kept sys law s.words after e less long (λ u less'. grows u) (λ u below _. sig u below) f)
          | dirty f ↦ dirty (stays e f)
          | owed j u there alive due ↦ ⊎_elim
              (λ same. owed_or (is_marked d ones e) sys after (set s.views id w) e id w here live (marked e) (λ out. has_filter (λ b. not (is_marked d ones b)) v.owed e (ap not out) (subst (λ (x : View C). Has x.owed e) same due)))
              (λ now. owed j u now alive due) (at_before s.views id v w at j u there)
          | run j u there alive is now ↦ ⊎_elim
              (λ same. run_or (is_marked d ones e) sys after (set s.views id w) e id w here live (marked e)
              (λ out. let b : v.body ≡ Some e = subst (λ (x : View C). x.body ≡ Some e) same is in
              let own : own_marked v.body d ones ≡ false = ap (λ x. own_marked x d ones) b ∙ out in
              ap (λ (t : Bool). if t then None else v.body) own ∙ b)
              (λ x below reads has. subst (λ (x : View C). IsCurrent sys e x s.words) same now x below reads has ∙ sym (sig x below)))
              (λ still. run j u still alive is (λ x below reads has. now x below reads has ∙ sym (sig x below)))
              (at_before s.views id v w at j u there)
        ] in
        kept describe k s i m id v c w h at (h.fixed id v at live) refl refl (λ u less. grows u)
        (λ u less. subst (λ x. Within x (slice_index (least sys (start_of describe k)) u)) (sym (sig u less)) (h.below u less))
        record {
          count = fit.count;
          values = λ u less. within_trans _ _ _ (fit.values u less) (grows u);
          raised = λ u less. within_trans _ _ _ (fit.raised u less) (grows u);
          inside = λ b e. fit.inside b (body_kept (own_marked v.body d ones) v.body b e);
        }
        cover
        (λ e less is. (id, w, here, live, λ has. has))
        (counted_set sys (start_of describe k) s.words after s.views id v w at h.counted
        (let p = dirty_more sys s.words after (is_marked d ones) sys.bodies (λ e. marked_more n ones d e (slice_index after (sys.words + e / 64)) (slice_index s.words (sys.words + e / 64)) (λ here'. let place = ap (λ (x : ℕ). sys.words + x) here' in (new (sys.words + e / 64) place, ap (λ x. slice_index s.words x) place)) (λ apart. old (sys.words + e / 64) (λ e'. apart (omega arith)))) in
        let q = marks_held v d ones sys.bodies due (h.counted.runs id v at live) in
        let r : risen sys (start_of describe k) s.words ≡ risen sys (start_of describe k) after = ap (λ (x : ℕ). x - ones_in sys.words (start_of describe k)) (ones_in_as sys.words s.words after (λ u less. sym (sig u less))) in
        let t : sys.bodies * risen sys (start_of describe k) s.words ≡ sys.bodies * risen sys (start_of describe k) after = ap (λ (x : ℕ). sys.bodies * x) r in
        omega arith)
        (λ b e. mark_runs v d ones b (h.counted.runs id v at live) e))

    pub mark_allowed : (slots id i d ones : ℕ) (v : View C) (c : List (ℕ × ℕ)) → IsLive v → MayMark v d ones → d < dirty_words (describe k.system) → i ≡ (describe k.system).words + d
        → Allows (Holds describe k) slots id (v, c) i (λ n. bit_or n ones) (Marks describe (step slots i ones 0 none) (v, c))
    mark_allowed slots id i d ones v c live due inside is s h homes at small =
        let same : v.system ≡ k.system = h.fixed id v at live in (
          after_mark describe v d ones,
          keeps,
          tt,
          subst (λ (x : ℕ). Holds describe k (stepped s x (bit_or (slice_index s.words x) ones) id c (after_mark describe v d ones) keeps)) (sym is) (mark_kept s id d ones v c inside h at live due),
          λ e word. let p : (describe k.system).words + d ≡ (describe k.system).words + e = sym is ∙ (word ∙ ap (λ (x : C). (describe x).words + e) same) in
              let q : d ≡ e = omega arith in ap (λ (x : ℕ). (after_mark describe v x ones, c)) q,
        )

    scan_kept : (s : State ℕ (View C)) (id d : ℕ) (v : View C) (c : List (ℕ × ℕ))
        → Holds describe k s → get_elem? s.views id ≡ some v → IsLive v → IsAtRest (describe k.system) v
        → Holds describe k (stepped s ((describe k.system).words + d) (slice_index s.words ((describe k.system).words + d)) id c (after_scan describe v d (slice_index s.words ((describe k.system).words + d))) keeps)
    scan_kept s id d v c h at live rest =
        let sys : System = describe k.system in
        let i : ℕ = sys.words + d in
        let n : ℕ = slice_index s.words i in
        let w : View C = after_scan describe v d n in
        let fit = h.fits id v at live in
        let cover : (e : ℕ) → e < sys.bodies → IsCovered sys s.words (set s.views id w) e = λ e less. elim (h.cover e less) [
          | closed f ↦ closed f
          | dirty f ↦ dirty f
          | owed j u there alive due ↦ ⊎_elim (λ e'. absurd (none_has v.owed e rest.0 (subst (λ (x : View C). Has x.owed e) e' due))) (λ now. owed j u now alive due) (at_before s.views id v w at j u there)
          | run j u there alive is now ↦ ⊎_elim
              (λ e'. closed (finished_closed sys law s.words v e less fit (rest.1 e (subst (λ (x : View C). x.body ≡ Some e) e' is)) (subst (λ (x : View C). IsCurrent sys e x s.words) e' now)))
              (λ still. run j u still alive is now)
              (at_before s.views id v w at j u there)
        ] in
        let test : ℕ → Bool = λ b. (b / 64 == d) && (bit_at n (b % 64) == 0) in
        loaded describe k s i id v c w h at (h.fixed id v at live) refl refl
        record { count = fit.count; values = fit.values; raised = fit.raised; inside = λ b e. absurd (none_some b e) }
        cover
        (λ e less is. unseen_kept s.views id v w e at refl
        (λ has. ⊎_elim (λ was. was)
        (λ new.
        let f = filter_has test (range_with_len 0 (describe v.system).bodies) e new in
        let t = both_true (e / 64 == d) (bit_at n (e % 64) == 0) f.1 in
        let place : sys.words + e / 64 ≡ i = ap (λ (x : ℕ). sys.words + x) (eqb-true (e / 64) d t.0) in
        let zero_is : bit_at n (e % 64) ≡ 0 = eqb-true (bit_at n (e % 64)) 0 t.1 in
        let one_is : bit_at n (e % 64) ≡ 1 = ap (λ (x : ℕ). bit_at (slice_index s.words x) (e % 64)) (sym place) ∙ is in
        absurd (omega arith))
        (has_either v.clear _ e has))
        (h.scanned e less is))
        (counted_set sys (start_of describe k) s.words s.words s.views id v w at h.counted (omega arith) (λ b e. absurd (none_some b e)))

    pub scan_allowed : (slots id i d : ℕ) (v : View C) (c : List (ℕ × ℕ)) → IsLive v → i ≡ (describe k.system).words + d → IsIdle describe v
        → Allows (Holds describe k) slots id (v, c) i (λ n. n) (Scans describe (step slots i 0 0 none) (v, c))
    scan_allowed slots id i d v c live is idle s h homes at small =
        let same : v.system ≡ k.system = h.fixed id v at live in
        let rest : IsAtRest (describe k.system) v = subst (λ (x : C). IsAtRest (describe x) v) same idle in
        let w : View C = after_scan describe v d (slice_index s.words i) in
        let kept : Holds describe k (stepped s i (slice_index s.words i) id c w keeps) = subst (λ (x : ℕ). Holds describe k (stepped s x (slice_index s.words x) id c (after_scan describe v d (slice_index s.words x)) keeps)) (sym is) (scan_kept s id d v c h at live rest) in (
          w,
          keeps,
          tt,
          kept,
          (
            (λ e word. let p : (describe k.system).words + d ≡ (describe k.system).words + e = sym is ∙ (word ∙ ap (λ (x : C). (describe x).words + e) same) in
                let q : d ≡ e = omega arith in ap (λ (x : ℕ). (after_scan describe v x (slice_index s.words i), c)) q),
            bounded describe k (stepped s i (slice_index s.words i) id c w keeps) id w kept (at_after s.views id v w at) live,
          ),
        )
