-- What a worker knows after a scan.
use Rattle.std.proofs.Common.{◌≡◌, ℕ, ◌+◌, ◌/◌, ◌%◌, ◌<◌, ◌≤◌, ◌==◌, ◌&&◌, ◌||◌, Bool, true, false, Option, Some, None, List, [], ◌++◌, length, sym, ap, ◌∙◌, subst, arith, eq-eqb, ◌∷◌, ◌^◌, ◌-◌, sum_by, add-zero}
use Rattle.std.proofs.lemmas.List.Sums.{sum_by-append, sum_by-cons}
use Rattle.jn_sigtable.proofs.SplitKept.{bound_of, last_bound, cut}
use Rattle.jn_workers.specs.Ends.{WeighsAs, SeenBelow, SeenIn, SeenUpTo, StillSeen, Took}
use mathlib.Core.Logic.{dite}
use native.Mathlib.Decide.{ℕ_discrete}
use Rattle.std.specs.Int.{bit_at}
use Rattle.jn_sigtable.specs.declared.view.View.{View}
use Rattle.jn_sigtable.specs.System.{System}
use Rattle.jn_sigtable.specs.Machine.{Has, has, IsWhole, HasSeenAll, last_of, raised_last, both_seen, left_seen, right_seen, IsAtRest, after_scan, described}
use Rattle.std.proofs.Common.{mod-lt}
use Rattle.jn_worklist.proofs.RunSteps.{has_true}
use Rattle.jn_sigtable.proofs.Keeping.{has_left, has_right, bodies_have, has_filter}

none_some : (d : ℕ) → None ≡ Some d → ⊥
none_some d e = cc

module _ {C : Type 0} (describe : C → System) (it : C) (v : View (Option C)) (same : v.system ≡ Some it) where
  pub scan_rests : (d n : ℕ) → v.owed ≡ [] → (w : View (Option C)) → w ≡ after_scan (described describe) v d n → IsAtRest (describe it) w
  scan_rests d n none w e = (ap (λ (x : View (Option C)). x.owed) e ∙ none, λ b runs. absurd (none_some b (sym (ap (λ (x : View (Option C)). x.body) e) ∙ runs)))

  pub scan_sees : (d n : ℕ) → (w : View (Option C)) → w ≡ after_scan (described describe) v d n → StillSeen v w × SeenIn (describe it) w d n
  scan_sees d n w e =
      let sys : System = described describe v.system in
      let test : ℕ → Bool = λ x. (x / 64 == d) && (bit_at n (x % 64) == 0) in (
        (λ b has. subst (λ (x : View (Option C)). Has x.clear b) (sym e) (has_left v.clear _ b has)),
        (λ b inside here none. subst (λ (x : View (Option C)). Has x.clear b) (sym e)
            (has_right v.clear _ b (bodies_have sys test b (subst (λ x. b < (described describe x).bodies) (sym same) inside)
            (λ i. eq-eqb (b / 64) d here i && eq-eqb (bit_at n (b % 64)) 0 none i)))),
      )

-- the words below d, and then d
pub seen_more : {C : Type 0} (sys : System) (v w u : View C) (d : ℕ) → SeenBelow sys v d → StillSeen v w → StillSeen w u → SeenUpTo sys u d 64 → SeenBelow sys u (d + 1)
seen_more sys v w u d below one two here b inside low =
    dite (ℕ_discrete (b / 64) d) (λ e. here b inside e (mod-lt b (omega arith))) (λ ne. two b (one b (below b inside (omega arith))))

-- the places below p, and then p
pub place_more : {C : Type 0} (sys : System) (v w : View C) (d p : ℕ) → SeenUpTo sys v d p → StillSeen v w → ((b : ℕ) → b < sys.bodies → b / 64 ≡ d → b % 64 ≡ p → Has w.clear b) → SeenUpTo sys w d (p + 1)
place_more sys v w d p below still here b inside word low =
    dite (ℕ_discrete (b % 64) p) (λ e. here b inside word e) (λ ne. still b (below b inside word (omega arith)))

pub still_in : {C : Type 0} (sys : System) (v w : View C) (d ones : ℕ) → SeenIn sys v d ones → StillSeen v w → SeenIn sys w d ones
still_in sys v w d ones seen still b inside word none = still b (seen b inside word none)

module _ {C : Type 0} (describe : C → System) (sys : System) where
  pub both_see : (v u w : View (Option C)) → w ≡ both_seen describe v u → HasSeenAll sys v → HasSeenAll sys u → HasSeenAll sys w
  both_see v u w e mine theirs b inside = subst (λ (x : View (Option C)). Has x.clear b) (sym e) (has_filter (has u.clear) v.clear b (has_true u.clear b (theirs b inside)) (mine b inside))

-- a share that is cut and put together again
module _ {C : Type 0} (describe : C → System) where
  pub weighs_joined : (v l r ours theirs w : View (Option C)) → 0 < length v.share → l ≡ left_seen describe v → r ≡ right_seen describe v → WeighsAs ours l → theirs.share ≡ r.share → w ≡ both_seen describe ours theirs → WeighsAs w v
  weighs_joined v l r ours theirs w live left right mine same joined e fine =
      let share : w.share ≡ ours.share ++ theirs.share = ap (λ (x : View (Option C)). x.share) joined in
      let fine' : (d : ℕ) → Has (ours.share ++ theirs.share) d → d ≤ e = subst (λ (xs : List ℕ). (d : ℕ) → Has xs d → d ≤ e) share fine in
      let a = mine e (λ d has. fine' d (has_left ours.share theirs.share d has)) in
      let ls : l.share ≡ raised_last v.share = ap (λ (x : View (Option C)). x.share) left in
      let rs : theirs.share ≡ (last_of v.share + 1) ∷ [] = same ∙ ap (λ (x : View (Option C)). x.share) right in
      let fine_l : (d : ℕ) → Has (raised_last v.share) d → d ≤ e = subst (λ (xs : List ℕ). (d : ℕ) → Has xs d → d ≤ e) ls a.0 in
      let f : ℕ → ℕ = λ d. 2 ^ (e - d) in
      let p : sum_by f w.share ≡ sum_by f (ours.share ++ theirs.share) = ap (sum_by f) share in
      let q : sum_by f (ours.share ++ theirs.share) ≡ sum_by f ours.share + sum_by f theirs.share = sum_by-append f ours.share theirs.share in
      let t : sum_by f theirs.share ≡ f (last_of v.share + 1) = ap (sum_by f) rs ∙ sum_by-cons f (last_of v.share + 1) [] ∙ add-zero (f (last_of v.share + 1)) in
      let u : sum_by f l.share ≡ sum_by f (raised_last v.share) = ap (sum_by f) ls in
      let m : sum_by f ours.share ≡ sum_by f l.share = a.1 in
      let c : sum_by f (raised_last v.share) + f (last_of v.share + 1) ≡ sum_by f v.share = cut v.share e live (last_bound v.share e live fine_l) in
      (bound_of v.share e fine_l, omega arith)

-- the pass of a new table is whole, and so is what comes back from the workers
pub whole_back : {C : Type 0} (w v : View C) → v.share ≡ 0 ∷ [] → WeighsAs w v → IsWhole w
whole_back w v first back e fine =
    let b = back e fine in
    let f : ℕ → ℕ = λ d. 2 ^ (e - d) in
    let p : sum_by f v.share ≡ f 0 = ap (sum_by f) first ∙ sum_by-cons f 0 [] ∙ add-zero (f 0) in
    let z : e - 0 ≡ e = omega arith in
    b.1 ∙ p ∙ ap (λ (x : ℕ). 2 ^ x) z

-- ---- bodies taken
module _ {C : Type 0} where
  pub took_with : (t : Bool) (v w : View C) (A B : Type 0) → (A → B) → Took t v w A → Took t v w B
  took_with true v w A B f m = m
  took_with false v w A B f m = (m.0, f m.1)

  took_most : (t : Bool) (v w : View C) (A : Type 0) → Took t v w A → v.taken ≤ w.taken
  took_most true v w A m = omega (arith, m)
  took_most false v w A m = let e = m.0 in omega arith

  -- one part of the work after another, and a step between that takes no body
  pub took_on : (s t : Bool) (u v x w : View C) (A B D : Type 0) → Took s u v A → x.taken ≡ v.taken → Took t x w B → (A → B → D) → Took (s || t) u w D
  took_on true t u v x w A B D m e n f = let p = took_most t x w B n in omega (arith, m, e)
  took_on false true u v x w A B D m e n f = let p = m.0 in omega (arith, n, e)
  took_on false false u v x w A B D m e n f = (n.0 ∙ (e ∙ m.0), f m.1 n.1)
