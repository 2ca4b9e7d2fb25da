-- Levels grow by one, and bound how far the text is.
use Rattle.std.proofs.Common.{◌≡◌, ℕ, zero, suc, ◌+◌, ◌<◌, ◌≤◌, ◌⊎◌, inl, inr, ⊎_elim, List, [], ◌∷◌, ◌++◌, Option, Some, None, refl, sym, ap, ◌∙◌, subst, arith}
use Rattle.std.proofs.lemmas.Bool.{cases_lt}
use Rattle.std.proofs.lemmas.List.{get_or_append_left, get_or_push, length_push}
use Rattle.jn_reasons_law.specs.declared.item.Item.{Item}
use Rattle.jn_reasons_law.specs.declared.item.Place.{Place}
use Rattle.jn_reasons_law.specs.Sources.{IsOneOf}
use Rattle.jn_chain.specs.declared.chains.Rest.{Rest}
use Rattle.jn_chain.specs.Search.{Ground, IsSeen, level_at, IsNext, IsReached, Reaches, IsWithin, left_of, IsAtMost, IsBound, AreMet, AreRests, AreLevels}
use Rattle.jn_chain.proofs.Members.{seen_where}
use Rattle.jn_chain.proofs.Resting.{left_reaches, left_least}

abbrev Source : Type 0
Source = Option Item

raise : (best : Option ℕ) (a b : ℕ) → a ≤ b → IsAtMost best a → IsAtMost best b
raise None a b le h = h
raise (Some n) a b le h = omega (arith, le, h)

text_known : (K : Item → Option Rest) → left_of K None ≡ None → ⊥
text_known K e = by e
  where
    by : ◌≡◌ {A = Option ℕ} (Some 0) None → ⊥
    by f = cc

module _ (G : Ground) (K : Item → Option Rest) where
  -- the item alone
  pub levels_start : (x : Item) → AreLevels G K ((Some x ∷ []) ∷ []) x 0 None
  levels_start x = record {
    long = refl;
    item = inl refl;
    spread = λ m y z p lt. absurd (omega (arith, lt));
    reached = λ m j z le h r. at_start m j z le h r;
    endless = λ m le h. text m le h;
    given = λ b e. absurd (none_some b e);
  }
    where
      none_some : (b : ℕ) → None ≡ Some b → ⊥
      none_some b e = cc

      alone : (z : Source) → IsOneOf z (Some x ∷ []) → z ≡ Some x
      alone z (inl e) = e
      alone z (inr m) = absurd m

      at_start : (m j : ℕ) (z : Source) → m ≤ 0 → IsOneOf z (level_at ((Some x ∷ []) ∷ []) m) → Reaches G j z → Reaches G (m + j) (Some x)
      at_start zero j z le h r = let e : j ≡ 0 + j = omega arith in subst (λ (k : ℕ). Reaches G k (Some x)) e (subst (Reaches G j) (alone z h) r)
      at_start (suc m) j z le h r = absurd (omega (arith, le))

      not_item : None ≡ Some x → ⊥
      not_item e = cc

      text : (m : ℕ) → m ≤ 0 → IsOneOf None (level_at ((Some x ∷ []) ∷ []) m) → ⊥
      text zero le h = not_item (alone None h)
      text (suc m) le h = absurd (omega (arith, le))

  -- one level more
  module _ (R : AreRests G K) (x : Item) (n : ℕ) (ls : List (List Source)) (best : Option ℕ) (next : List Source) (now : Option ℕ) (L : AreLevels G K ls x n best) (M : AreMet K ls (n + 1) (IsReached G (level_at ls n)) [] next best now) where
    abbrev new : List (List Source)
    new = ls ++ next ∷ []

    old_level : (m : ℕ) → m < n + 1 → level_at new m ≡ level_at ls m
    old_level m lt = get_or_append_left ls (next ∷ []) [] m (omega (arith, lt, L.long))

    pub new_level : level_at new (n + 1) ≡ next
    new_level = get_or_push ls next [] (n + 1) L.long

    to_old : (m : ℕ) (z : Source) → m < n + 1 → IsOneOf z (level_at new m) → IsOneOf z (level_at ls m)
    to_old m z lt = subst (IsOneOf z) (old_level m lt)

    from_old : (m : ℕ) (z : Source) → m < n + 1 → IsOneOf z (level_at ls m) → IsOneOf z (level_at new m)
    from_old m z lt = subst (IsOneOf z) (sym (old_level m lt))

    widened : (m : ℕ) (z : Source) → m ≤ n → IsWithin ls m z → IsWithin new m z
    widened m z le w = record { level = w.level; within = w.within; among = from_old w.level z (omega (arith, le, w.within)) w.among }

    lowered : (d : ℕ) (z : Source) → IsBound K d best z → IsBound K d now z
    lowered d z b = record { left = b.left; known = b.known; most = M.lower (d + b.left) b.most }

    seen_within : (z : Source) → IsSeen z ls ⊎ IsOneOf z next → IsWithin new (n + 1) z
    seen_within z (inl s) = let w = seen_where z ls s in record { level = w.level; within = omega (arith, w.inside, L.long); among = from_old w.level z (omega (arith, w.inside, L.long)) w.among }
    seen_within z (inr h) = record { level = n + 1; within = omega arith; among = subst (IsOneOf z) (sym new_level) h }

    spread_more : (m : ℕ) (y z : Source) (p : Place) → m < n + 1 → IsOneOf y (level_at new m) → IsNext G y p z → IsBound K (m + 1) now z ⊎ IsWithin new (m + 1) z
    spread_more m y z p lt h i = ⊎_elim
        (λ (low : m < n). ⊎_elim (λ b. inl (lowered (m + 1) z b)) (λ w. inr (widened (m + 1) z (omega (arith, low)) w)) (L.spread m y z p low (to_old m y lt h) i))
        (λ (le : n ≤ m).
        let e : m ≡ n = omega (arith, lt, le) in
        subst (λ (k : ℕ). IsBound K (k + 1) now z ⊎ IsWithin new (k + 1) z) (sym e)
        (⊎_elim (λ b. inl b) (λ s. inr (seen_within z s)) (M.there z (record { from = y; place = p; among = subst (λ (k : ℕ). IsOneOf y (level_at ls k)) e (to_old m y lt h); next = i }))))
        (cases_lt m n)

    nothing : (z : Source) → IsOneOf z [] → ⊥
    nothing z h = h

    -- so many steps from the item, and the rest of them
    step_back : (j : ℕ) (z : Source) → IsReached G (level_at ls n) z → Reaches G j z → Reaches G (n + suc j) (Some x)
    step_back j z w r = L.reached n (suc j) w.from (omega arith) w.among (w.place, z, w.next, r)

    reached_more : (m j : ℕ) (z : Source) → m ≤ n + 1 → IsOneOf z (level_at new m) → Reaches G j z → Reaches G (m + j) (Some x)
    reached_more m j z le h r = ⊎_elim
        (λ (low : m < n + 1). L.reached m j z (omega (arith, low)) (to_old m z low h) r)
        (λ (ge : n + 1 ≤ m).
        let e : m ≡ n + 1 = omega (arith, le, ge) in
        let here : IsOneOf z next = subst (IsOneOf z) (ap (level_at new) e ∙ new_level) h in
        let long : n + suc j ≡ m + j = omega (arith, e) in
        ⊎_elim (λ a. absurd (nothing z a)) (λ c. subst (λ (k : ℕ). Reaches G k (Some x)) long (step_back j z c.0 r)) (M.from z here))
        (cases_lt m (n + 1))

    endless_more : (m : ℕ) → m ≤ n + 1 → IsOneOf None (level_at new m) → ⊥
    endless_more m le h = ⊎_elim
        (λ (low : m < n + 1). L.endless m (omega (arith, low)) (to_old m None low h))
        (λ (ge : n + 1 ≤ m).
        let e : m ≡ n + 1 = omega (arith, le, ge) in
        let here : IsOneOf None next = subst (IsOneOf None) (ap (level_at new) e ∙ new_level) h in
        ⊎_elim (λ a. nothing None a) (λ c. text_known K c.1) (M.from None here))
        (cases_lt m (n + 1))

    some_nat : (a b : ℕ) → Some a ≡ Some b → a ≡ b
    some_nat a b e = cc

    given_more : (b : ℕ) → now ≡ Some b → Reaches G b (Some x)
    given_more b e = ⊎_elim
        (λ (s : now ≡ best). L.given b (sym s ∙ e))
        (λ g.
        let same = some_nat ((n + 1) + g.left) b (sym g.is ∙ e) in
        let long : n + suc g.left ≡ b = omega (arith, same) in
        subst (λ (k : ℕ). Reaches G k (Some x)) long (step_back g.left g.source g.one (left_reaches G K R g.source g.left g.known)))
        M.is

    pub levels_more : AreLevels G K new x (n + 1) now
    levels_more = record {
      long = omega (arith, length_push ls next, L.long);
      item = from_old 0 (Some x) (omega arith) L.item;
      spread = spread_more;
      reached = reached_more;
      endless = endless_more;
      given = given_more;
    }

  -- where the last level is no nearer than the best, the text is no nearer from any
  module _ (R : AreRests G K) (x : Item) (n : ℕ) (ls : List (List Source)) (best : Option ℕ) (L : AreLevels G K ls x n best) (stops : (z : Source) → IsOneOf z (level_at ls n) → IsAtMost best n) where
    pub far : (j m : ℕ) (z : Source) → m ≤ n → IsOneOf z (level_at ls m) → Reaches G j z → IsAtMost best (m + j)
    far zero m z le h r = absurd (L.endless m le (subst (λ (y : Source). IsOneOf y (level_at ls m)) r h))
    far (suc j) m z le h r = ⊎_elim
        (λ (lt : m < n). ⊎_elim
        (λ b. let low = left_least G K R r.1 b.left j b.known r.3 in raise best ((m + 1) + b.left) (m + suc j) (omega (arith, low)) b.most)
        (λ w. let i = w.within in raise best (w.level + j) (m + suc j) (omega (arith, i)) (far j w.level r.1 (omega (arith, i, lt)) w.among r.3))
        (L.spread m z r.1 r.0 lt h r.2))
        (λ (ge : n ≤ m).
        let e : m ≡ n = omega (arith, le, ge) in
        raise best n (m + suc j) (omega (arith, e)) (stops z (subst (λ (k : ℕ). IsOneOf z (level_at ls k)) e h)))
        (cases_lt m n)
