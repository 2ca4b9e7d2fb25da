-- A take keeps the rule.
use Rattle.std.proofs.Common.{◌≡◌, ◌≢◌, ◌⊎◌, ℕ, zero, suc, ◌+◌, ◌-◌, ◌*◌, ◌/◌, ◌%◌, ◌<◌, ◌≤◌, ◌==◌, Bool, true, false, List, [], length, set, replicate, Some, None, if◌then◌else◌, sym, refl, ap, ◌∙◌, subst, ⊎_elim, arith, bit_and, get_or-set_same, get_or-set_other, eq-eqb, ne_eqb, true≢false}
use mathlib.Core.Option.{none, some}
use mathlib.Core.Logic.{dite}
use native.Mathlib.Decide.{ℕ_discrete}
use lib.ListN.{get_elem?}
use Rattle.std.proofs.lemmas.List.{length-replicate}
use Rattle.std.specs.Prelude.{slice_index}
use Rattle.std.specs.Int.{bit_at}
use Rattle.atomic_table.specs.Table.{State, step, keeps, stepped, Allows}
use Rattle.jn_sigtable.specs.declared.view.View.{View}
use Rattle.jn_sigtable.specs.declared.view.Setting.{Setting}
use Rattle.jn_sigtable.specs.System.{System, IsLawful, Within, Covers, bits_for, ones_in, risen}
use Rattle.jn_sigtable.specs.Machine.{start_of, IsCovered, IsCurrent, IsBelow, IsAtRest, IsIdle, IsDirty, IsLive, Has, Holds, Takes, after_take, taken_up, found_clear, all_but, one_at, dirty_words, held}
use Rattle.jn_sigtable.specs.Machine.IsCovered.{closed, dirty, owed, run}
use Rattle.jn_sigtable.proofs.Bits.{within_trans, within_refl, zero_within, cleared_same, cleared_other, same_body, same_number, place_below, masked_zero, masked_some}
use Rattle.jn_sigtable.proofs.Frames.{at_before, at_after, closed_kept, finished_closed, unseen_kept}
use Rattle.jn_sigtable.proofs.Keeping.{kept, none_has}
use Rattle.jn_sigtable.proofs.Counting.{bounded, counted_set, dirt, dirty_one, ones_in_as}
use Rattle.std.proofs.lemmas.Bool.{eqb-true}
use Rattle.std.proofs.lemmas.Nat.Bits.{bit_at-lt}

pub at_replicate : (n k : ℕ) → slice_index (replicate n 0) k ≡ 0
at_replicate zero k = refl
at_replicate (suc n) zero = refl
at_replicate (suc n) (suc k) = at_replicate n k

-- another body's dirty bit is as it was
other_bit : (sys : System) (words : List ℕ) (b d : ℕ) → sys.words + b / 64 < length words → d ≢ b
    → bit_at (slice_index (set words (sys.words + b / 64) (bit_and (slice_index words (sys.words + b / 64)) (all_but (b % 64)))) (sys.words + d / 64)) (d % 64) ≡ bit_at (slice_index words (sys.words + d / 64)) (d % 64)
other_bit sys words b d inside other =
    let i : ℕ = sys.words + b / 64 in
    let n : ℕ = slice_index words i in
    let x : ℕ = bit_and n (all_but (b % 64)) in
    dite (ℕ_discrete (d / 64) (b / 64))
    (λ same.
    let there : sys.words + d / 64 ≡ i = ap (λ (y : ℕ). sys.words + y) same in
    let place : d % 64 ≢ b % 64 = λ e. other (same_number d b same e) in
    let now : slice_index (set words i x) (sys.words + d / 64) ≡ x = ap (slice_index (set words i x)) there ∙ get_or-set_same words i x 0 inside in
    ap (λ (y : ℕ). bit_at y (d % 64)) now ∙ (cleared_other n b (d % 64) (place_below d) place ∙ ap (λ (y : ℕ). bit_at (slice_index words y) (d % 64)) (sym there)))
    (λ apart. ap (λ (y : ℕ). bit_at y (d % 64)) (get_or-set_other words i (sys.words + d / 64) x 0 (λ e. apart (omega arith))))

own_bit : (sys : System) (words : List ℕ) (b : ℕ) → sys.words + b / 64 < length words
    → bit_at (slice_index (set words (sys.words + b / 64) (bit_and (slice_index words (sys.words + b / 64)) (all_but (b % 64)))) (sys.words + b / 64)) (b % 64) ≡ 0
own_bit sys words b inside =
    let i : ℕ = sys.words + b / 64 in
    let x : ℕ = bit_and (slice_index words i) (all_but (b % 64)) in
    ap (λ (y : ℕ). bit_at y (b % 64)) (get_or-set_same words i x 0 inside) ∙ cleared_same (slice_index words i) b

-- there is a dirty word for each body
pub dirty_inside : (sys : System) (n b : ℕ) → b < sys.bodies → n ≡ sys.words + dirty_words sys → sys.words + b / 64 < n
dirty_inside sys n b inside e = let p : b / 64 < (sys.bodies + 63) / 64 = omega arith in omega arith

some_is : (b d : ℕ) → Some b ≡ Some d → b ≡ d
some_is b d e = cc

none_some : (d : ℕ) → None ≡ Some d → ⊥
none_some d e = cc

module _ {C : Type 0} (describe : C → System) where
  pub take_share : (v : View C) (b n : ℕ) → (after_take describe v b n).share ≡ v.share
  take_share v b n = go (bit_at n (b % 64) == 1)
    where
      go : (t : Bool) → (if t then taken_up describe v b else found_clear describe v b).share ≡ v.share
      go true = refl
      go false = refl

  pub take_limit : (v : View C) (b n : ℕ) → (after_take describe v b n).limit ≡ v.limit
  take_limit v b n = go (bit_at n (b % 64) == 1)
    where
      go : (t : Bool) → (if t then taken_up describe v b else found_clear describe v b).limit ≡ v.limit
      go true = refl
      go false = refl

  pub take_system : (v : View C) (b n : ℕ) → (after_take describe v b n).system ≡ v.system
  take_system v b n = go (bit_at n (b % 64) == 1)
    where
      go : (t : Bool) → (if t then taken_up describe v b else found_clear describe v b).system ≡ v.system
      go true = refl
      go false = refl

module _ {C : Type 0} (describe : C → System) (k : Setting C) (law : IsLawful (describe k.system)) where
  -- after the step at body b, which found n, with the view w
  takes_kept : (s : State ℕ (View C)) (id b : ℕ) (v : View C) (c : List (ℕ × ℕ)) (w : View C)
      → b < (describe k.system).bodies → Holds describe k s → get_elem? s.views id ≡ some v → IsLive v → IsAtRest (describe k.system) v
      → w.system ≡ k.system → IsBelow (describe k.system) (set s.words ((describe k.system).words + b / 64) (bit_and (slice_index s.words ((describe k.system).words + b / 64)) (all_but (b % 64)))) w
      → w.limit ≡ v.limit → w.share ≡ v.share → ((d : ℕ) → Has w.clear d → (b ≡ d) ⊎ Has v.clear d)
      → ((bit_at (slice_index s.words ((describe k.system).words + b / 64)) (b % 64) ≡ 1) → (w.body ≡ Some b) × (w.read ≡ []))
      → held w ≡ held v + bit_at (slice_index s.words ((describe k.system).words + b / 64)) (b % 64) → ((d : ℕ) → w.body ≡ Some d → 0 < w.taken)
      → Holds describe k (stepped s ((describe k.system).words + b / 64) (bit_and (slice_index s.words ((describe k.system).words + b / 64)) (all_but (b % 64))) id c w keeps)
  takes_kept s id b v c w inside h at live rest same fit room share clear runs more taken =
      let sys : System = describe k.system in
      let i : ℕ = sys.words + b / 64 in
      let n : ℕ = slice_index s.words i in
      let after : List ℕ = set s.words i (bit_and n (all_but (b % 64))) in
      let sig : (u : ℕ) → u < sys.words → slice_index after u ≡ slice_index s.words u = λ u less. get_or-set_other s.words i u (bit_and n (all_but (b % 64))) 0 (λ e. absurd (omega arith)) in
      let rises : Covers sys.words s.words after = λ u less. subst (Within (slice_index s.words u)) (sym (sig u less)) (within_refl (slice_index s.words u)) in
      let falls : Covers sys.words after s.words = λ u less. subst (λ x. Within x (slice_index s.words u)) (sym (sig u less)) (within_refl (slice_index s.words u)) in
      let long : sys.words ≤ length s.words = let e = h.count in omega arith in
      let inside' : i < length s.words = let e = h.count in dirty_inside sys (length s.words) b inside e in
      let here : get_elem? (set s.views id w) id ≡ some w = at_after s.views id v w at in
      let live_w : IsLive w = subst (λ x. 0 < length x) (sym share) live in
      let cover : (d : ℕ) → d < sys.bodies → IsCovered sys after (set s.views id w) d = λ d less. elim (h.cover d less) [
        | closed f ↦ closed (closed_kept sys law s.words after d less long rises (λ u below _. sig u below) f)
        | dirty f ↦ dite (ℕ_discrete d b)
            (λ e.
            let mine = runs (subst (IsDirty sys s.words) e f) in
            run id w here live_w (mine.0 ∙ ap Some (sym e)) (λ u below reads has. absurd (none_has w.read u mine.1 has)))
            (λ ne. dirty (other_bit sys s.words b d inside' ne ∙ f))
        | owed j u there alive due ↦ ⊎_elim (λ e. absurd (none_has v.owed d rest.0 (subst (λ (x : View C). Has x.owed d) e due))) (λ now. owed j u now alive due) (at_before s.views id v w at j u there)
        | run j u there alive is now ↦ ⊎_elim
            (λ e.
            let mine : v.body ≡ Some d = subst (λ (x : View C). x.body ≡ Some d) e is in
            let cur : IsCurrent sys d v s.words = subst (λ (x : View C). IsCurrent sys d x s.words) e now in
            closed (closed_kept sys law s.words after d less long rises (λ u below _. sig u below) (finished_closed sys law s.words v d less (h.fits id v at live) (rest.1 d mine) cur)))
            (λ still. run j u still alive is (λ x below reads has. now x below reads has ∙ sym (sig x below)))
            (at_before s.views id v w at j u there)
      ] in
      kept describe k s i (bit_and n (all_but (b % 64))) id v c w h at same room share rises
      (λ u less. within_trans _ _ _ (falls u less) (h.below u less))
      fit
      cover
      (λ d less is. dite (ℕ_discrete d b)
      (λ e. let z : bit_at (slice_index after (sys.words + d / 64)) (d % 64) ≡ 0 = subst (λ x. bit_at (slice_index after (sys.words + x / 64)) (x % 64) ≡ 0) (sym e) (own_bit sys s.words b inside') in let bad : 0 ≡ 1 = sym z ∙ is in absurd (omega arith))
      (λ ne. unseen_kept s.views id v w d at share (λ has. ⊎_elim (λ e. absurd (ne (sym e))) (λ old. old) (clear d has)) (h.scanned d less (sym (other_bit sys s.words b d inside' ne) ∙ is))))
      (counted_set sys (start_of describe k) s.words after s.views id v w at h.counted
      (let p = dirty_one sys s.words after b (λ d ne. other_bit sys s.words b d inside' ne) sys.bodies inside in
      let q : dirt sys after b ≡ 0 = own_bit sys s.words b inside' in
      let r : risen sys (start_of describe k) s.words ≡ risen sys (start_of describe k) after = ap (λ (x : ℕ). x - ones_in sys.words (start_of describe k)) (ones_in_as sys.words s.words after (λ u less. sym (sig u less))) in
      let t : sys.bodies * risen sys (start_of describe k) s.words ≡ sys.bodies * risen sys (start_of describe k) after = ap (λ (x : ℕ). sys.bodies * x) r in
      omega arith)
      taken)

  -- the same at the view that the step makes
  take_at : (s : State ℕ (View C)) (id b : ℕ) (v : View C) (c : List (ℕ × ℕ)) (t : Bool)
      → b < (describe k.system).bodies → Holds describe k s → get_elem? s.views id ≡ some v → IsLive v → IsAtRest (describe k.system) v
      → (bit_at (slice_index s.words ((describe k.system).words + b / 64)) (b % 64) == 1) ≡ t
      → Holds describe k (stepped s ((describe k.system).words + b / 64) (bit_and (slice_index s.words ((describe k.system).words + b / 64)) (all_but (b % 64))) id c (if t then taken_up describe v b else found_clear describe v b) keeps)
  take_at s id b v c true inside h at live rest is =
      let sys : System = describe k.system in
      let same : v.system ≡ k.system = h.fixed id v at live in
      let after : List ℕ = set s.words (sys.words + b / 64) (bit_and (slice_index s.words (sys.words + b / 64)) (all_but (b % 64))) in
      let size : (describe v.system).words ≡ sys.words = ap (λ (x : C). (describe x).words) same in
      takes_kept s id b v c (taken_up describe v b) inside h at live rest same
      record {
        count = length-replicate (describe v.system).words 0 ∙ size;
        values = λ u less. subst (λ x. Within x (slice_index after u)) (sym (at_replicate (describe v.system).words u)) (zero_within (slice_index after u));
        raised = λ u less. zero_within (slice_index after u);
        inside = λ d e. subst (λ x. x < sys.bodies) (some_is b d e) inside;
      }
      refl
      refl
      (λ d has. absurd has)
      (λ found. (refl, refl))
      (let o = eqb-true (bit_at (slice_index s.words (sys.words + b / 64)) (b % 64)) 1 is in omega arith)
      (λ d e. omega arith)
  take_at s id b v c false inside h at live rest is =
      let sys : System = describe k.system in
      let n : ℕ = slice_index s.words (sys.words + b / 64) in
      let after : List ℕ = set s.words (sys.words + b / 64) (bit_and n (all_but (b % 64))) in
      let same : v.system ≡ k.system = h.fixed id v at live in
      let fit = h.fits id v at live in
      let sig : (u : ℕ) → u < sys.words → slice_index s.words u ≡ slice_index after u = λ u less. sym (get_or-set_other s.words (sys.words + b / 64) u (bit_and n (all_but (b % 64))) 0 (λ e. absurd (omega arith))) in
      takes_kept s id b v c (found_clear describe v b) inside h at live rest same
      record {
        count = fit.count;
        values = λ u less. subst (Within (slice_index v.values u)) (sig u less) (fit.values u less);
        raised = λ u less. subst (Within (bits_for v.raised u)) (sig u less) (fit.raised u less);
        inside = λ d e. absurd (none_some d e);
      }
      refl
      refl
      (λ d has. has)
      (λ found. absurd (true≢false (sym (eq-eqb _ 1 found) ∙ is)))
      (let o : bit_at n (b % 64) < 2 = bit_at-lt n (b % 64) in
      dite (ℕ_discrete (bit_at n (b % 64)) 1) (λ one. absurd (true≢false (sym (eq-eqb _ 1 one) ∙ is))) (λ ne. omega arith))
      (λ d e. absurd (none_some d e))

  pub take_allowed : (slots id i b : ℕ) (v : View C) (c : List (ℕ × ℕ)) → IsLive v → b < (describe k.system).bodies → i ≡ (describe k.system).words + b / 64 → IsIdle describe v
      → Allows (Holds describe k) slots id (v, c) i (λ n. bit_and n (all_but (b % 64))) (Takes describe (step slots i (all_but (b % 64)) 0 none) (v, c))
  take_allowed slots id i b v c live inside is idle s h homes at small =
      let sys : System = describe k.system in
      let n : ℕ = slice_index s.words i in
      let same : v.system ≡ k.system = h.fixed id v at live in
      let rest : IsAtRest sys v = subst (λ (x : C). IsAtRest (describe x) v) same idle in
      let fit = h.fits id v at live in
      let w : View C = after_take describe v b n in
      let kept : Holds describe k (stepped s i (bit_and n (all_but (b % 64))) id c w keeps) = subst (λ (x : ℕ). Holds describe k (stepped s x (bit_and (slice_index s.words x) (all_but (b % 64))) id c (after_take describe v b (slice_index s.words x)) keeps)) (sym is) (take_at s id b v c (bit_at (slice_index s.words (sys.words + b / 64)) (b % 64) == 1) inside h at live rest refl) in
      let here : get_elem? (set s.views id w) id ≡ some w = at_after s.views id v w at in
      let live_w : IsLive w = subst (λ x. 0 < length x) (sym (take_share describe v b n)) live in (
        w,
        keeps,
        tt,
        kept,
        (
          (λ d word first. ap (λ (x : ℕ). (after_take describe v x n, c)) (same_body sys.words b d (sym is ∙ (word ∙ ap (λ (x : C). (describe x).words + d / 64) same)) first)),
          bounded describe k (stepped s i (bit_and n (all_but (b % 64))) id c w keeps) id w kept here live_w,
        ),
      )

module _ {C : Type 0} (describe : C → System) where
  pub tells_clear : (v : View C) (b n : ℕ) → bit_and n (one_at (b % 64)) ≡ 0 → after_take describe v b n ≡ found_clear describe v b
  tells_clear v b n e = ap (λ (t : Bool). if t then taken_up describe v b else found_clear describe v b) (ne_eqb (bit_at n (b % 64)) 1 (λ one. let z = masked_zero n b e in absurd (omega arith)))

  pub tells_taken : (v : View C) (b n : ℕ) → bit_and n (one_at (b % 64)) ≢ 0 → after_take describe v b n ≡ taken_up describe v b
  tells_taken v b n ne = ap (λ (t : Bool). if t then taken_up describe v b else found_clear describe v b) (eq-eqb (bit_at n (b % 64)) 1 (masked_some n b ne))
