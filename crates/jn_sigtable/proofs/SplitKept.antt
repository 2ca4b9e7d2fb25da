-- A split and a join keep the rule.
use Rattle.std.proofs.Common.{◌≡◌, ◌≢◌, ◌⊎◌, ℕ, suc, ◌+◌, ◌-◌, ◌<◌, ◌≤◌, List, [], ◌∷◌, ◌++◌, length, set, get_or, Some, None, sym, refl, ap, ◌∙◌, subst, inl, inr, ⊎_elim, arith}
use mathlib.Core.Option.{some, some-injective}
use mathlib.Core.Logic.{dite}
use native.Mathlib.Decide.{ℕ_discrete}
use lib.ListN.{get_elem?}
use Rattle.std.specs.Prelude.{slice_index}
use Rattle.jn_sigtable.specs.declared.view.View.{View}
use Rattle.jn_sigtable.specs.declared.view.Setting.{Setting}
use Rattle.jn_sigtable.specs.System.{System, IsLawful, Within, limit_of}
use Rattle.jn_sigtable.specs.Machine.IsCovered.{closed, dirty, owed, run}
use Rattle.jn_sigtable.proofs.Frames.{at_below, at_before, at_after, each_set, finished_closed}
use Rattle.std.proofs.Common.{◌*◌, ◌^◌, sum_by, pow-suc}
use Rattle.std.proofs.lemmas.List.Sums.{sum_by-append, sum_by-set, sum_by-cons}
use Rattle.atomic_table.specs.Table.{Splits, Joins}
use Rattle.atomic_table.proofs.Lists.{at_longer, at_last, at_snoc, set_else}
use Rattle.jn_sigtable.proofs.Frames.{get_of}
use Rattle.jn_sigtable.specs.Machine.{start_of, IsCurrent, IsBelow, IsAtRest, IsIdle, IsLive, IsFine, Has, has, Holds, held, weight, last_of, raised_last, left_of, right_of, both_of}
use Rattle.jn_sigtable.proofs.Bits.{zero_within}
use Rattle.jn_sigtable.proofs.Keeping.{none_has, has_left, has_right, filter_has, list_any_has}
use Rattle.jn_sigtable.proofs.TakeKept.{at_replicate}
use Rattle.std.proofs.lemmas.List.{length-replicate}

-- ---- shares
none_some : (d : ℕ) → None ≡ Some d → ⊥
none_some d e = cc

pub bound_of : (xs : List ℕ) (e : ℕ) → ((d : ℕ) → Has (raised_last xs) d → d ≤ e) → (d : ℕ) → Has xs d → d ≤ e
bound_of [] e f d h = absurd h
bound_of (x ∷ []) e f d h = ⊎_elim (λ s. let p = f (x + 1) (inl refl) in omega arith) (λ n. absurd n) h
bound_of (x ∷ y ∷ ys) e f d h = ⊎_elim (λ s. f d (inl s)) (λ r. bound_of (y ∷ ys) e (λ z has. f z (inr has)) d r) h

pub last_bound : (xs : List ℕ) (e : ℕ) → 0 < length xs → ((d : ℕ) → Has (raised_last xs) d → d ≤ e) → last_of xs + 1 ≤ e
last_bound [] e any f = absurd (omega arith)
last_bound (x ∷ []) e any f = f (x + 1) (inl refl)
last_bound (x ∷ y ∷ ys) e any f = last_bound (y ∷ ys) e (omega arith) (λ z has. f z (inr has))

halves : (e d : ℕ) → d + 1 ≤ e → 2 ^ (e - (d + 1)) + 2 ^ (e - (d + 1)) ≡ 2 ^ (e - d)
halves e d h =
    let k : ℕ = e - (d + 1) in
    let p : e - d ≡ suc k = omega arith in
    let q : 2 ^ suc k ≡ 2 ^ k * 2 = pow-suc 2 k in
    let r : 2 ^ (e - d) ≡ 2 ^ k * 2 = ap (λ (x : ℕ). 2 ^ x) p ∙ q in
    omega arith

pub cut : (xs : List ℕ) (e : ℕ) → 0 < length xs → last_of xs + 1 ≤ e
    → sum_by (λ d. 2 ^ (e - d)) (raised_last xs) + 2 ^ (e - (last_of xs + 1)) ≡ sum_by (λ d. 2 ^ (e - d)) xs
cut [] e any h = absurd (omega arith)
cut (x ∷ []) e any h = let p = halves e x h in omega arith
cut (x ∷ y ∷ ys) e any h =
    let f : ℕ → ℕ = λ d. 2 ^ (e - d) in
    let p : sum_by f (raised_last (y ∷ ys)) + f (last_of (y ∷ ys) + 1) ≡ sum_by f (y ∷ ys) = cut (y ∷ ys) e (omega arith) h in
    let a : sum_by f (raised_last (x ∷ y ∷ ys)) ≡ f x + sum_by f (raised_last (y ∷ ys)) = sum_by-cons f x (raised_last (y ∷ ys)) in
    let b : sum_by f (x ∷ y ∷ ys) ≡ f x + sum_by f (y ∷ ys) = sum_by-cons f x (y ∷ ys) in
    omega arith

pub live_left : (xs : List ℕ) → 0 < length xs → 0 < length (raised_last xs)
live_left [] h = h
live_left (x ∷ []) h = omega arith
live_left (x ∷ y ∷ ys) h = omega arith

left_live : (xs : List ℕ) → 0 < length (raised_last xs) → 0 < length xs
left_live [] h = h
left_live (x ∷ []) h = omega arith
left_live (x ∷ y ∷ ys) h = omega arith

live_more : (xs ys : List ℕ) → 0 < length xs → 0 < length (xs ++ ys)
live_more [] ys h = absurd (omega arith)
live_more (x ∷ xs) ys h = omega arith

spent_dead : (xs : List ℕ) → xs ≡ [] → 0 < length xs → ⊥
spent_dead xs e h = let p : length xs ≡ 0 = ap (λ (ys : List ℕ). length ys) e in absurd (omega arith)

module _ {C : Type 0} (describe : C → System) (k : Setting C) where
  pub split_allowed : (id : ℕ) (v : View C) → IsLive v → Splits (Holds describe k) id v (left_of describe v) (right_of describe v)
  split_allowed id v live s h at =
      let sys : System = describe k.system in
      let l : View C = left_of describe v in
      let r : View C = right_of describe v in
      let mid : List (View C) = set s.views id l in
      let views : List (View C) = mid ++ r ∷ [] in
      let same : v.system ≡ k.system = h.fixed id v at live in
      let fit = h.fits id v at live in
      let here : get_elem? views id ≡ some l = at_longer mid (r ∷ []) id l (at_after s.views id v l at) in
      let size : (describe v.system).words ≡ sys.words = ap (λ (x : C). (describe x).words) same in
      -- each view after is the left one, the right one or an old one
      let each : (P : View C → Type 0) → ((i : ℕ) (u : View C) → get_elem? s.views i ≡ some u → P u) → P l → P r → (i : ℕ) (u : View C) → get_elem? views i ≡ some u → P u = λ P before left right i u there.
      ⊎_elim (λ old. each_set P P s.views id l before (λ x p. p) left i u old) (λ (e : r ≡ u). subst P e right) (at_snoc mid r u i there) in
      let stays : (i : ℕ) (u : View C) → get_elem? s.views i ≡ some u → (u ≡ v) ⊎ (get_elem? views i ≡ some u) = λ i u there. ⊎_elim (λ e. inl e) (λ still. inr (at_longer mid (r ∷ []) i u still)) (at_before s.views id v l at i u there) in
      record {
        count = h.count;
        start = h.start;
        below = h.below;
        top = h.top;
        fixed = each (λ u. IsLive u → u.system ≡ k.system) h.fixed (λ _. same) (λ _. same);
        limited = let room = h.limited id v at live in each (λ u. IsLive u → u.limit ≡ limit_of sys (start_of describe k)) h.limited (λ _. room) (λ _. room);
        fits = each (λ u. IsLive u → IsBelow sys s.words u) h.fits
            (λ _. record { count = fit.count; values = fit.values; raised = fit.raised; inside = fit.inside })
            (λ _. record {
              count = length-replicate (describe v.system).words 0 ∙ size;
              values = λ u less. subst (λ x. Within x (slice_index s.words u)) (sym (at_replicate (describe v.system).words u)) (zero_within (slice_index s.words u));
              raised = λ u less. zero_within (slice_index s.words u);
              inside = λ b e. absurd (none_some b e);
            });
        cover = λ e less. elim (h.cover e less) [
          | closed f ↦ closed f
          | dirty f ↦ dirty f
          | owed j u there alive due ↦ ⊎_elim (λ e'. owed id l here (live_left v.share live) (subst (λ (x : View C). Has x.owed e) e' due)) (λ now. owed j u now alive due) (stays j u there)
          | run j u there alive is now ↦ ⊎_elim
              (λ e'. run id l here (live_left v.share live) (subst (λ (x : View C). x.body ≡ Some e) e' is) (subst (λ (x : View C). IsCurrent sys e x s.words) e' now))
              (λ still. run j u still alive is now)
              (stays j u there)
        ];
        scanned = λ e less is. let u = h.scanned e less is in
            ⊎_elim
            (λ (e' : u.1 ≡ v). (id, l, here, live_left v.share live, λ has. u.4 (subst (λ (x : View C). Has x.clear e) (sym e') has)))
            (λ still. (u.0, u.1, still, u.3, u.4))
            (stays u.0 u.1 u.2);
        shares = λ e fine.
            let mine = fine id l here in
            let fresh = fine (length mid) r (at_last mid r (length mid) refl) in
            let last : last_of v.share + 1 ≤ e = last_bound v.share e live mine in
            let fine' : IsFine e s.views = λ i u there d has. ⊎_elim
            (λ (e' : u ≡ v). bound_of v.share e mine d (subst (λ (x : View C). Has x.share d) e' has)) (λ still. fine i u still d has) (stays i u there) in
            let p = sum_by-set (weight e) s.views id l v (at_below s.views id v at) in
            let old : weight e (get_or s.views id v) ≡ weight e v = ap (weight e) (get_of s.views id v at) in
            let q = sum_by-append (weight e) mid (r ∷ []) in
            let c = cut v.share e live last in
            let t = h.shares e fine' in
            omega arith;
        counted = record {
          most =
              let p = sum_by-set held s.views id l v (at_below s.views id v at) in
              let old : held (get_or s.views id v) ≡ held v = ap held (get_of s.views id v at) in
              let q = sum_by-append held mid (r ∷ []) in
              let t = h.counted.most in
              omega arith;
          runs = let mine = h.counted.runs id v at live in
              each (λ u. IsLive u → (b : ℕ) → u.body ≡ Some b → 0 < u.taken) h.counted.runs (λ _. mine) (λ _ b e. absurd (none_some b e));
        };
      }

-- the other pass's view is taken in, and the other is spent
module _ {C : Type 0} (describe : C → System) (k : Setting C) (law : IsLawful (describe k.system)) (gone : View C) (none_owed : gone.owed ≡ []) (none_run : gone.body ≡ None) (no_share : gone.share ≡ []) (none_taken : gone.taken ≡ 0) where
  pub join_allowed : (id other : ℕ) (v u : View C) → IsLive v → IsLive u → IsIdle describe u → Joins (Holds describe k) id v other u (both_of describe v u) gone
  join_allowed id other v u live live' idle s h at apart there =
      let sys : System = describe k.system in
      let b : View C = both_of describe v u in
      let mid : List (View C) = set s.views id b in
      let views : List (View C) = set mid other gone in
      let at' : get_elem? s.views other ≡ some u = sym (set_else s.views id other b apart) ∙ there in
      let same : v.system ≡ k.system = h.fixed id v at live in
      let fit = h.fits id v at live in
      let fit' = h.fits other u at' live' in
      let rest : IsAtRest sys u = subst (λ (x : C). IsAtRest (describe x) u) (h.fixed other u at' live') idle in
      let apart' : id ≢ other = λ e. apart (sym e) in
      let here : get_elem? views id ≡ some b = set_else mid other id gone apart' ∙ at_after s.views id v b at in
      let gone_spent : IsLive gone → ⊥ = λ l. let e = no_share in spent_dead gone.share e l in
      let each : (P : View C → Type 0) → ((i : ℕ) (x : View C) → get_elem? s.views i ≡ some x → P x) → P b → P gone → (i : ℕ) (x : View C) → get_elem? views i ≡ some x → P x = λ P before mine theirs i x is.
      each_set P P mid other gone (λ j y e. each_set P P s.views id b before (λ z p. p) mine j y e) (λ z p. p) theirs i x is in
      -- a view before is one of the two, or stands there still
      let stays : (i : ℕ) (x : View C) → get_elem? s.views i ≡ some x → (x ≡ v) ⊎ ((x ≡ u) ⊎ (get_elem? views i ≡ some x)) = λ i x is.
      dite (ℕ_discrete i other)
      (λ e. inr (inl (some-injective x u (sym is ∙ (ap (λ y. get_elem? s.views y) e ∙ at')))))
      (λ ne. ⊎_elim (λ e. inl e) (λ still. inr (inr (set_else mid other i gone ne ∙ still))) (at_before s.views id v b at i x is)) in
      record {
        count = h.count;
        start = h.start;
        below = h.below;
        top = h.top;
        fixed = each (λ x. IsLive x → x.system ≡ k.system) h.fixed (λ _. same) (λ l. absurd (gone_spent l));
        limited = let room = h.limited id v at live in each (λ x. IsLive x → x.limit ≡ limit_of sys (start_of describe k)) h.limited (λ _. room) (λ l. absurd (gone_spent l));
        fits = each (λ x. IsLive x → IsBelow sys s.words x) h.fits
            (λ _. record { count = fit.count; values = fit.values; raised = fit.raised; inside = fit.inside })
            (λ l. absurd (gone_spent l));
        cover = λ e less. elim (h.cover e less) [
          | closed f ↦ closed f
          | dirty f ↦ dirty f
          | owed j x is alive due ↦ ⊎_elim
              (λ e'. owed id b here (live_more v.share u.share live) (subst (λ (y : View C). Has y.owed e) e' due))
              (λ r. ⊎_elim (λ e'. absurd (none_has u.owed e rest.0 (subst (λ (y : View C). Has y.owed e) e' due))) (λ still. owed j x still alive due) r)
              (stays j x is)
          | run j x is alive runs now ↦ ⊎_elim
              (λ e'. run id b here (live_more v.share u.share live) (subst (λ (y : View C). y.body ≡ Some e) e' runs) (subst (λ (y : View C). IsCurrent sys e y s.words) e' now))
              (λ r. ⊎_elim
              (λ e'. closed (finished_closed sys law s.words u e less fit' (rest.1 e (subst (λ (y : View C). y.body ≡ Some e) e' runs)) (subst (λ (y : View C). IsCurrent sys e y s.words) e' now)))
              (λ still. run j x still alive runs now) r)
              (stays j x is)
        ];
        scanned = λ e less is. let w = h.scanned e less is in
            ⊎_elim
            (λ (e' : w.1 ≡ v). (id, b, here, live_more v.share u.share live, λ has'. w.4 (subst (λ (x : View C). Has x.clear e) (sym e') (filter_has (has u.clear) v.clear e has').0)))
            (λ r. ⊎_elim
            (λ (e' : w.1 ≡ u). (id, b, here, live_more v.share u.share live, λ has'. w.4 (subst (λ (x : View C). Has x.clear e) (sym e') (list_any_has u.clear e (filter_has (has u.clear) v.clear e has').1))))
            (λ still. (w.0, w.1, still, w.3, w.4)) r)
            (stays w.0 w.1 w.2);
        shares = λ e fine.
            let mine = fine id b here in
            let fine' : IsFine e s.views = λ i x is d has'. ⊎_elim
            (λ (e' : x ≡ v). mine d (has_left v.share u.share d (subst (λ (y : View C). Has y.share d) e' has')))
            (λ r. ⊎_elim (λ (e' : x ≡ u). mine d (has_right v.share u.share d (subst (λ (y : View C). Has y.share d) e' has'))) (λ still. fine i x still d has') r)
            (stays i x is) in
            let p = sum_by-set (weight e) s.views id b v (at_below s.views id v at) in
            let old : weight e (get_or s.views id v) ≡ weight e v = ap (weight e) (get_of s.views id v at) in
            let q = sum_by-set (weight e) mid other gone u (at_below mid other u there) in
            let old' : weight e (get_or mid other u) ≡ weight e u = ap (weight e) (get_of mid other u there) in
            let g : weight e gone ≡ 0 = ap (sum_by (λ d. 2 ^ (e - d))) no_share in
            let a : weight e b ≡ weight e v + weight e u = sum_by-append (λ d. 2 ^ (e - d)) v.share u.share in
            let t = h.shares e fine' in
            omega arith;
        counted = record {
          most =
              let p = sum_by-set held s.views id b v (at_below s.views id v at) in
              let old : held (get_or s.views id v) ≡ held v = ap held (get_of s.views id v at) in
              let q = sum_by-set held mid other gone u (at_below mid other u there) in
              let old' : held (get_or mid other u) ≡ held u = ap held (get_of mid other u there) in
              let g : length gone.owed ≡ 0 = ap (λ (xs : List ℕ). length xs) none_owed in
              let g' = none_taken in
              let o : length u.owed ≡ 0 = ap (λ (xs : List ℕ). length xs) rest.0 in
              let t = h.counted.most in
              omega arith;
          runs = let mine = h.counted.runs id v at live in
              each (λ x. IsLive x → (e : ℕ) → x.body ≡ Some e → 0 < x.taken) h.counted.runs (λ _ e is. let m = mine e is in omega arith) (λ l. absurd (gone_spent l));
        };
      }
