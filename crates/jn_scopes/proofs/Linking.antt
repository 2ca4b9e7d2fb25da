-- The last local of each group of names, as locals come and go.
use Rattle.std.proofs.Common.{◌≡◌, ◌<◌, ◌^◌, lit<, ℕ, zero, suc, ◌+◌, ◌-◌, List, [], ◌∷◌, ◌++◌, length, take, get_or, set, refl, sym, ap, ◌∙◌, subst, arith, ⊎_elim}
use Rattle.std.proofs.Math.ListN.{get_or-append}
use Rattle.std.proofs.Math.Seq.{get_or-append_seam}
use Rattle.std.proofs.lemmas.Bool.{cases_eq, cases_lt}
use Rattle.std.proofs.lemmas.List.{get_or_default, get_or-set_same, get_or-set_other, get_or-take, length-append, length-set, length-take-le}
use Rattle.std.proofs.lemmas.Nat.{mod_below}
use Rattle.jn_scopes.specs.declared.context.Variable.{Variable}
use Rattle.jn_scopes.specs.Linked.{IsLast, Linked, group_of}

group_below : (v : Variable) → group_of v < 64
group_below v = mod_below v.name.0 64 (omega arith)

-- only the locals before the place count
same : (vs ws : List Variable) (n g k : ℕ) → ((i : ℕ) (v : Variable) → i < n → get_or ws i v ≡ get_or vs i v) → IsLast vs n g k → IsLast ws n g k
same vs ws n g k agree l = record {
  within = l.within;
  there = λ v some. ap group_of (agree (k - 1) v (omega (l.within, some, arith))) ∙ l.there v some;
  behind = λ i v from below is. l.behind i v from below (sym (ap group_of (agree i v below)) ∙ is);
}

-- no local

abbrev zeros : ℕ → List ℕ
zeros zero = []
zeros (suc n) = 0 ∷ zeros n

none_yet : (g k : ℕ) → k ≡ 0 → IsLast [] 0 g k
none_yet g k e = record {
  within = omega (e, arith);
  there = λ v some. absurd (omega (e, some, arith));
  behind = λ i v from below is. absurd (omega (below, arith));
}

zero_at : (n g : ℕ) → get_or (zeros n) g 0 ≡ 0
zero_at zero g = refl
zero_at (suc n) zero = refl
zero_at (suc n) (suc g) = zero_at n g

pub fresh : (vs : List Variable) (previous : List ℕ) → vs ≡ [] → previous ≡ [] → Linked vs previous (zeros 64)
fresh vs previous no_locals no_places =
    rw no_locals (rw no_places (record {
      few = lit< tt;
      lengths = refl;
      groups = refl;
      before = λ p v lt. absurd (omega (lt, arith));
      last = λ g lt. none_yet g (get_or (zeros 64) g 0) (zero_at 64 g);
    }))

module _ (vs : List Variable) (v : Variable) where
  old_place : (i : ℕ) (d : Variable) → i < length vs → get_or (vs ++ v ∷ []) i d ≡ get_or vs i d
  old_place i d lt = get_or-append vs (v ∷ []) d i lt

  new_place : (i : ℕ) (d : Variable) → i ≡ length vs → get_or (vs ++ v ∷ []) i d ≡ v
  new_place i d e = ap (λ j. get_or (vs ++ v ∷ []) j d) e ∙ get_or-append_seam vs v [] d

  other_more : (g k : ℕ) → (group_of v ≡ g → ⊥) → IsLast vs (length vs) g k → IsLast (vs ++ v ∷ []) (length vs + 1) g k
  other_more g k differs l =
      let s : IsLast (vs ++ v ∷ []) (length vs) g k = same vs (vs ++ v ∷ []) (length vs) g k old_place l in record {
        within = omega (s.within, arith);
        there = s.there;
        behind = λ i d from below is. ⊎_elim (λ lt. s.behind i d from lt is) (λ ge. differs (sym (ap group_of (new_place i d (omega (ge, below, arith)))) ∙ is)) (cases_lt i (length vs));
      }

  this_more : IsLast (vs ++ v ∷ []) (length vs + 1) (group_of v) (length vs + 1)
  this_more = record {
    within = omega arith;
    there = λ d some. ap group_of (new_place (length vs + 1 - 1) d (omega arith));
    behind = λ i d from below is. absurd (omega (from, below, arith));
  }

  -- one local more
  pub pushed : (previous ends : List ℕ) → length vs + 1 < 2 ^ 32 → Linked vs previous ends → Linked (vs ++ v ∷ []) (previous ++ get_or ends (group_of v) 0 ∷ []) (set ends (group_of v) (length vs + 1))
  pushed previous ends few old =
      let before = get_or ends (group_of v) 0 in
      let all : length (vs ++ v ∷ []) ≡ length vs + 1 = length-append vs (v ∷ []) in
      let alike : length (previous ++ before ∷ []) ≡ length previous + 1 = length-append previous (before ∷ []) in record {
        few = omega (all, few, arith);
        lengths = omega (all, alike, old.lengths, arith);
        groups = length-set ends (group_of v) (length vs + 1) ∙ old.groups;
        before = λ p d lt. ⊎_elim
            (λ inside.
            subst (λ k. IsLast (vs ++ v ∷ []) p (group_of (get_or (vs ++ v ∷ []) p d)) k) (sym (get_or-append previous (before ∷ []) 0 p (omega (inside, old.lengths, arith))))
            (subst (λ u. IsLast (vs ++ v ∷ []) p (group_of u) (get_or previous p 0)) (sym (old_place p d inside))
            (same vs (vs ++ v ∷ []) p (group_of (get_or vs p d)) (get_or previous p 0) (λ i u below. old_place i u (omega (below, inside, arith))) (old.before p d inside))))
            (λ ge.
            let e : p ≡ length vs = omega (ge, lt, all, arith) in
            let f : p ≡ length previous = omega (e, old.lengths, arith) in
            subst (λ k. IsLast (vs ++ v ∷ []) p (group_of (get_or (vs ++ v ∷ []) p d)) k) (sym (ap (λ j. get_or (previous ++ before ∷ []) j 0) f ∙ get_or-append_seam previous before [] 0))
            (subst (λ u. IsLast (vs ++ v ∷ []) p (group_of u) before) (sym (new_place p d e))
            (subst (λ n. IsLast (vs ++ v ∷ []) n (group_of v) before) (sym e)
            (same vs (vs ++ v ∷ []) (length vs) (group_of v) before old_place (old.last (group_of v) (group_below v))))))
            (cases_lt p (length vs));
        last = λ g lt. subst (λ n. IsLast (vs ++ v ∷ []) n g (get_or (set ends (group_of v) (length vs + 1)) g 0)) (sym all)
            (⊎_elim
            (λ is.
            let at : get_or (set ends (group_of v) (length vs + 1)) g 0 ≡ length vs + 1 = ap (λ j. get_or (set ends (group_of v) (length vs + 1)) j 0) (sym is) ∙ get_or-set_same ends (group_of v) (length vs + 1) 0 (omega (old.groups, group_below v, arith)) in
            subst (λ k. IsLast (vs ++ v ∷ []) (length vs + 1) g k) (sym at) (subst (λ h. IsLast (vs ++ v ∷ []) (length vs + 1) h (length vs + 1)) is this_more))
            (λ other.
            subst (λ k. IsLast (vs ++ v ∷ []) (length vs + 1) g k) (sym (get_or-set_other ends (group_of v) g (length vs + 1) 0 (λ e. other (sym e))))
            (other_more g (get_or ends g 0) other (old.last g lt)))
            (cases_eq (group_of v) g));
      }

module _ (vs : List Variable) (n : ℕ) (d : Variable) (ends_at : length vs ≡ n + 1) where
  kept : (i : ℕ) (v : Variable) → i < n → get_or (take n vs) i v ≡ get_or vs i v
  kept i v lt = get_or-take n vs i v lt

  other_less : (g k : ℕ) → (group_of (get_or vs n d) ≡ g → ⊥) → IsLast vs (length vs) g k → IsLast (take n vs) n g k
  other_less g k differs l = same vs (take n vs) n g k kept (record {
    within = ⊎_elim (λ lt. omega (lt, arith)) (λ ge. absurd (differs (ap (λ j. group_of (get_or vs j d)) (let e : n ≡ k - 1 = omega (ge, l.within, ends_at, arith) in e) ∙ l.there d (omega (ge, arith))))) (cases_lt k (n + 1));
    there = l.there;
    behind = λ i v from below is. l.behind i v from (omega (below, ends_at, arith)) is;
  })

  -- one local less
  pub popped : (previous ends : List ℕ) → Linked vs previous ends → Linked (take n vs) (take n previous) (set ends (group_of (get_or vs n d)) (get_or previous n 0))
  popped previous ends old =
      let group = group_of (get_or vs n d) in
      let before = get_or previous n 0 in
      let all : length (take n vs) ≡ n = length-take-le n vs (omega (ends_at, arith)) in
      let alike : length (take n previous) ≡ n = length-take-le n previous (omega (ends_at, old.lengths, arith)) in record {
        few = omega (all, ends_at, old.few, arith);
        lengths = omega (all, alike, arith);
        groups = length-set ends group before ∙ old.groups;
        before = λ p v lt.
            let inside : p < n = omega (lt, all, arith) in
            subst (λ k. IsLast (take n vs) p (group_of (get_or (take n vs) p v)) k) (sym (get_or-take n previous p 0 inside))
            (subst (λ u. IsLast (take n vs) p (group_of u) (get_or previous p 0)) (sym (kept p v inside))
            (same vs (take n vs) p (group_of (get_or vs p v)) (get_or previous p 0) (λ i u below. kept i u (omega (below, inside, arith))) (old.before p v (omega (inside, ends_at, arith)))));
        last = λ g lt. subst (λ m. IsLast (take n vs) m g (get_or (set ends group before) g 0)) (sym all)
            (⊎_elim
            (λ is.
            let at : get_or (set ends group before) g 0 ≡ before = ap (λ j. get_or (set ends group before) j 0) (sym is) ∙ get_or-set_same ends group before 0 (omega (old.groups, group_below (get_or vs n d), arith)) in
            subst (λ k. IsLast (take n vs) n g k) (sym at)
            (subst (λ h. IsLast (take n vs) n h before) is
            (same vs (take n vs) n group before kept (old.before n d (omega (ends_at, arith))))))
            (λ other.
            subst (λ k. IsLast (take n vs) n g k) (sym (get_or-set_other ends group g before 0 (λ e. other (sym e))))
            (other_less g (get_or ends g 0) other (old.last g lt)))
            (cases_eq group g));
      }

-- the same under other names

pub pushed_as : (vs : List Variable) (v : Variable) (previous ends : List ℕ) (ws : List Variable) (more : List ℕ) (group n : ℕ) → n + 1 < 2 ^ 32 → Linked vs previous ends → group ≡ group_of v → n ≡ length vs → ws ≡ vs ++ v ∷ [] → more ≡ previous ++ get_or ends group 0 ∷ [] → Linked ws more (set ends group (n + 1))
pushed_as vs v previous ends ws more group n few old is_group is_length items places =
    let as_group : Linked (vs ++ v ∷ []) (previous ++ get_or ends group 0 ∷ []) (set ends group (length vs + 1)) = subst (λ g. Linked (vs ++ v ∷ []) (previous ++ get_or ends g 0 ∷ []) (set ends g (length vs + 1))) (sym is_group) (pushed vs v previous ends (omega (few, is_length, arith)) old) in
    subst (λ us. Linked us more (set ends group (n + 1))) (sym items)
    (subst (λ ks. Linked (vs ++ v ∷ []) ks (set ends group (n + 1))) (sym places)
    (subst (λ m. Linked (vs ++ v ∷ []) (previous ++ get_or ends group 0 ∷ []) (set ends group (m + 1))) (sym is_length) as_group))

pub popped_as : (vs : List Variable) (n : ℕ) (d : Variable) → length vs ≡ n + 1 → (previous ends : List ℕ) (ws : List Variable) (less : List ℕ) (group before : ℕ) → Linked vs previous ends → ws ≡ take n vs → less ≡ take n previous → group ≡ group_of (get_or vs n d) → before ≡ get_or previous n before → Linked ws less (set ends group before)
popped_as vs n d ends_at previous ends ws less group before old items places is_group is_before =
    let at : before ≡ get_or previous n 0 = is_before ∙ get_or_default previous n before 0 (omega (ends_at, old.lengths, arith)) in
    subst (λ us. Linked us less (set ends group before)) (sym items)
    (subst (λ ks. Linked (take n vs) ks (set ends group before)) (sym places)
    (subst (λ g. Linked (take n vs) (take n previous) (set ends g before)) (sym is_group)
    (subst (λ k. Linked (take n vs) (take n previous) (set ends (group_of (get_or vs n d)) k)) (sym at) (popped vs n d ends_at previous ends old))))
