-- From the last level back: what is known of a level makes known what is to be known of the one before.
use Rattle.std.proofs.Common.{◌≡◌, ℕ, zero, suc, ◌+◌, ◌-◌, ◌<◌, ◌≤◌, ◌⊎◌, inl, inr, ⊎_elim, List, [], ◌∷◌, length, take, Option, Some, None, refl, sym, ap, ◌∙◌, subst, arith}
use Rattle.std.specs.Prelude.{slice_index_or}
use Rattle.std.proofs.lemmas.Bool.{cases_lt}
use Rattle.std.proofs.lemmas.List.{take_all}
use Rattle.jn_reasons_law.specs.declared.item.Item.{Item}
use Rattle.jn_reasons_law.specs.declared.item.Place.{Place}
use Rattle.jn_reasons_law.specs.Sources.{IsOneOf}
use Rattle.jn_reasons.specs.declared.causes.Cause.{Cause}
use Rattle.jn_reasons.specs.Listed.{cause_at}
use Rattle.jn_chain.specs.declared.chains.Rest.{Rest}
use Rattle.jn_chain.specs.Keys.{IsPut}
use Rattle.jn_chain.specs.Search.{Ground, level_at, IsLeastAmong, IsUnwanted, IsNext, AreCauses, Reaches, left_of, IsRest, AreRests, IsKept, AreAllLevels, AreDue, AreSettled, IsFound}
use Rattle.jn_chain.proofs.Leveling.{far}
use Rattle.jn_chain.proofs.Members.{at_place, front_cases, nothing}
use Rattle.jn_chain.proofs.Resting.{left_least, left_reaches, put_keeps, put_rests, put_left}

abbrev Source : Type 0
Source = Option Item

alone : (z y : Source) → IsOneOf z (y ∷ []) → z ≡ y
alone z y (inl e) = e
alone z y (inr m) = absurd m

split : (n : ℕ) → 0 < n → n ≡ suc (n - 1)
split n lt = omega (arith, lt)

module _ (G : Ground) where
  -- one step, of which one less is left
  step_of : (z : Source) (left : ℕ) → 0 < left → Reaches G left z → Reaches G (suc (left - 1)) z
  step_of z left lt r = subst (λ (k : ℕ). Reaches G k z) (split left lt) r

  text_far : (left : ℕ) → 0 < left → Reaches G left None → ⊥
  text_far left lt r = (step_of None left lt r).2

  -- of the text nothing is to be known
  pub text_settled : (K : Item → Option Rest) (source : Source) (left : ℕ) → 0 < left → source ≡ None → AreDue G K (source ∷ []) left → AreSettled G (source ∷ []) left K K
  text_settled K source left lt e D = record {
    rests_are = D.rests_are;
    keeps = λ z n k. k;
    all = λ z m r. absurd (text_far left lt (subst (Reaches G left) (alone z source m ∙ e) r));
  }

  module _ (K : Item → Option Rest) (item : Item) (causes : List Cause) (left : ℕ) (some : 0 < left) (C : AreCauses G (Some item) causes) (D : AreDue G K (Some item ∷ []) left) where
    abbrev Wanted : Source → Type 0
    Wanted z = left_of K z ≡ Some (left - 1)

    complete : (z : Source) (p : Place) → IsNext G (Some item) p z → Reaches G (left - 1) z → Wanted z
    complete z p i r = D.complete (Some item) z p (inl refl) i r

    -- none of its causes leaves one less
    pub none_settled : (new : Item → Option Rest) → new ≡ K → IsUnwanted causes Wanted → AreSettled G (Some item ∷ []) left K new
    none_settled new same u = subst (AreSettled G (Some item ∷ []) left K) (sym same) (record {
      rests_are = D.rests_are;
      keeps = λ z n k. k;
      all = λ z m r. absurd (never (step_of (Some item) left some (subst (Reaches G left) (alone z (Some item) m) r)));
    })
      where
        never : Reaches G (suc (left - 1)) (Some item) → ⊥
        never r = u (cause_at r.0 r.1) (C.all r.0 r.1 r.2) (complete r.1 r.0 r.2 r.3)

    rest_is : (c : Cause) → IsLeastAmong causes Wanted c → IsRest G K item (record { left = left; cause = c })
    rest_is c h = record {
      some = some;
      next = here;
      behind = h.among;
      reaches = subst (λ (k : ℕ). Reaches G k (Some item)) (sym (split left some)) (c.place, c.source, here, left_reaches G K D.rests_are c.source (left - 1) h.among);
      shortest = λ m r. D.sharp (Some item) m (inl refl) r;
      least = λ p z i r. h.least (cause_at p z) (C.all p z i) (complete z p i r);
    }
      where
        here : IsNext G (Some item) c.place c.source
        here = C.none_else c.place c.source h.listed

    -- the least of those that do
    pub one_settled : (new : Item → Option Rest) (c : Cause) → IsLeastAmong causes Wanted c → IsPut item (record { left = left; cause = c }) K new → AreSettled G (Some item ∷ []) left K new
    one_settled new c h put =
        let rest : Rest = record { left = left; cause = c } in
        record {
          rests_are = put_rests G K new item rest D.rests_are (rest_is c h) put;
          keeps = put_keeps G K new item rest D.rests_are (rest_is c h) put;
          all = λ z m r. subst (λ (v : Source). left_of new v ≡ Some left) (sym (alone z (Some item) m)) (put_left G K new item rest D.rests_are (rest_is c h) put);
        }

  -- ---- the sources of a level

  module _ (first : Item → Option Rest) (level : List Source) (left : ℕ) (D : AreDue G first level left) where
    abbrev IsPassed : ℕ → (Item → Option Rest) → Type 0
    IsPassed i K = AreSettled G (take i level) left first K

    pub settled_none : IsPassed 0 first
    settled_none = record { rests_are = D.rests_are; keeps = λ z n k. k; all = λ z m r. absurd (subst (IsOneOf z) (nothing Source level) m) }

    -- what is due of the next one
    pub due_next : (i : ℕ) (d : Source) (K : Item → Option Rest) → i < length level → IsPassed i K → AreDue G K (slice_index_or level i d ∷ []) left
    due_next i d K lt A = record {
      rests_are = A.rests_are;
      sharp = λ z n h r. D.sharp z n (there z h) r;
      complete = λ y z p h j r. A.keeps z (left - 1) (D.complete y z p (there y h) j r);
    }
      where
        there : (z : Source) → IsOneOf z (slice_index_or level i d ∷ []) → IsOneOf z level
        there z h = subst (λ (v : Source). IsOneOf v level) (sym (alone z (slice_index_or level i d) h)) (at_place level i d lt)

    pub settled_more : (i : ℕ) (d : Source) (K new : Item → Option Rest) → i < length level → IsPassed i K → AreSettled G (slice_index_or level i d ∷ []) left K new → IsPassed (i + 1) new
    settled_more i d K new lt A B = record {
      rests_are = B.rests_are;
      keeps = λ z n k. B.keeps z n (A.keeps z n k);
      all = λ z m r. ⊎_elim
          (λ a. B.keeps z left (A.all z a r))
          (λ e. B.all z (inl e) r)
          (front_cases z level i d lt m);
    }

    pub settled_all : (i : ℕ) (K : Item → Option Rest) → length level ≤ i → IsPassed i K → AreSettled G level left first K
    settled_all i K le A = subst (λ (l : List Source). AreSettled G l left first K) (take_all i level le) A

  -- ---- levels

  module _ (first : Item → Option Rest) (ls : List (List Source)) (x : Item) (best : ℕ) (A : AreAllLevels G first ls x best) (R : AreRests G first) where
    -- from level k on what is to be known is known
    pub record IsDone (k : ℕ) (K : Item → Option Rest) : Type 0 where
      pub inside : k ≤ A.count + 1
      pub rests_are : AreRests G K
      pub keeps : IsKept first K
      pub all : (m j : ℕ) (z : Source) → k ≤ m → m < A.count → m + j ≡ best → IsOneOf z (level_at ls m) → Reaches G j z → left_of K z ≡ Some j

    pub done_start : IsDone (length ls - 0) first
    done_start = record {
      inside = let l = A.levels_to.long in omega (arith, l);
      rests_are = R;
      keeps = λ z n h. h;
      all = λ m j z le lt. let l = A.levels_to.long in absurd (omega (arith, le, lt, l));
    }

    stops : (z : Source) → IsOneOf z (level_at ls A.count) → best ≤ A.count
    stops z h = A.ends z h

    away : (j m : ℕ) (z : Source) → m ≤ A.count → IsOneOf z (level_at ls m) → Reaches G j z → best ≤ m + j
    away j m z le h r = far G first R x A.count ls (Some best) A.levels_to stops j m z le h r

    at_end : (K : Item → Option Rest) (j : ℕ) (z : Source) → j ≤ 0 → Reaches G j z → left_of K z ≡ Some j
    at_end K zero z le r = ap (left_of K) r
    at_end K (suc j) z le r = absurd (omega (arith, le))

    -- what a source of level k comes from
    next_known : (k j : ℕ) (K : Item → Option Rest) (y z : Source) (p : Place) → k < A.count → k + suc j ≡ best → IsDone (k + 1) K → IsOneOf y (level_at ls k) → IsNext G y p z → Reaches G j z → left_of K z ≡ Some j
    next_known k j K y z p lt e I h i r = ⊎_elim
        (λ b.
        let low = left_least G first R z b.left j b.known r in
        let high : best ≤ (k + 1) + b.left = b.most in
        let is : b.left ≡ j = omega (arith, low, high, e) in
        I.keeps z j (b.known ∙ ap Some is))
        (λ w.
        let within = w.within in
        let high = away j w.level z (omega (arith, within, lt)) w.among r in
        let is : w.level ≡ k + 1 = omega (arith, within, high, e) in
        let there : IsOneOf z (level_at ls (k + 1)) = subst (λ (m : ℕ). IsOneOf z (level_at ls m)) is w.among in
        ⊎_elim
        (λ (less : k + 1 < A.count). I.all (k + 1) j z (omega arith) less (omega (arith, e)) there r)
        (λ (ge : A.count ≤ k + 1).
        let last : k + 1 ≡ A.count = omega (arith, ge, lt) in
        let low = stops z (subst (λ (m : ℕ). IsOneOf z (level_at ls m)) last there) in
        at_end K j z (omega (arith, low, last, e)) r)
        (cases_lt (k + 1) A.count))
        (A.levels_to.spread k y z p lt h i)

    -- what is due of a level: of the last one nothing
    due_at : (k : ℕ) (K : Item → Option Rest) → k ≤ A.count → k < best → IsDone (k + 1) K → AreDue G K (level_at ls k) (best - k)
    due_at k K inside less I = record {
      rests_are = I.rests_are;
      sharp = λ z m h r. let f = away m k z inside h r in omega (arith, f);
      complete = λ y z p h i r. ⊎_elim
          (λ (lt : k < A.count). next_known k (best - k - 1) K y z p lt (omega (arith, less)) I h i r)
          (λ (ge : A.count ≤ k).
          let same : k ≡ A.count = omega (arith, ge, inside) in
          let low = stops y (subst (λ (m : ℕ). IsOneOf y (level_at ls m)) same h) in
          absurd (omega (arith, low, same, less)))
          (cases_lt k A.count);
    }

    module _ (done : ℕ) (lt : done < length ls) where
      abbrev k : ℕ
      k = length ls - 1 - done

      next : length ls - done ≡ k + 1
      next = omega (arith, lt)

      later : k ≡ length ls - (done + 1)
      later = omega (arith, lt)

      inside : k ≤ A.count
      inside = let l = A.levels_to.long in omega (arith, l)

      pub level_due : (K : Item → Option Rest) (level : List Source) → k < best → level ≡ level_at ls k → IsDone (length ls - done) K → AreDue G K level (best - k)
      level_due K level less is I = subst (λ (l : List Source). AreDue G K l (best - k)) (sym is) (due_at k K inside less (subst (λ (n : ℕ). IsDone n K) next I))

      pub done_more : (K new : Item → Option Rest) (level : List Source) → k < best → level ≡ level_at ls k → IsDone (length ls - done) K → AreSettled G level (best - k) K new → IsDone (length ls - (done + 1)) new
      done_more K new level less is I S = subst (λ (n : ℕ). IsDone n new) later (record {
        inside = omega (arith, inside);
        rests_are = S.rests_are;
        keeps = λ z n h. S.keeps z n (I.keeps z n h);
        all = λ m j z le inner long h r. ⊎_elim
            (λ (up : k < m). S.keeps z j (I.all m j z (omega (arith, up, next)) inner long h r))
            (λ (low : m ≤ k).
            let same : m ≡ k = omega (arith, le, low) in
            let left : j ≡ best - k = omega (arith, long, same) in
            let here : IsOneOf z level = subst (IsOneOf z) (ap (level_at ls) same ∙ sym is) h in
            S.all z here (subst (λ (n : ℕ). Reaches G n z) left r) ∙ ap Some (sym left))
            (cases_lt k m);
      })

      -- a level that is no nearer than the best
      pub done_past : (K : Item → Option Rest) → best ≤ k → IsDone (length ls - done) K → IsDone (length ls - (done + 1)) K
      done_past K past I = subst (λ (n : ℕ). IsDone n K) later (record {
        inside = omega (arith, inside);
        rests_are = I.rests_are;
        keeps = I.keeps;
        all = λ m j z le inner long h r. at_end K j z (omega (arith, long, le, past)) r;
      })

    pub done_found : (done : ℕ) (K : Item → Option Rest) → length ls ≤ done → IsDone (length ls - done) K → IsFound G K x best
    done_found done K le I = record {
      rests_are = I.rests_are;
      known = I.all 0 best (Some x) (omega (arith, le)) A.some (omega arith) A.levels_to.item (A.levels_to.given best refl);
    }
