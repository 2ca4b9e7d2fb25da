-- The steps of the loops over causes, sources and levels.
use Rattle.std.proofs.Common.{◌≡◌, ℕ, suc, ◌+◌, ◌<◌, ◌≤◌, ◌⊎◌, inl, inr, ⊎_elim, List, [], ◌∷◌, ◌++◌, length, take, Option, Some, None, refl, sym, ap, ◌∙◌, subst, arith}
use Rattle.std.specs.Prelude.{slice_index_or}
use Rattle.std.proofs.lemmas.List.{get_or_push, take_all}
use Rattle.jn_reasons_law.specs.declared.item.Item.{Item}
use Rattle.jn_reasons_law.specs.Sources.{IsOneOf}
use Rattle.jn_reasons_law.specs.Chains.{HasChain}
use Rattle.jn_reasons.specs.declared.causes.Cause.{Cause}
use Rattle.jn_reasons.specs.Listed.{IsListed, cause_at}
use Rattle.jn_chain.specs.declared.chains.Rest.{Rest}
use Rattle.jn_chain.specs.Search.{Ground, IsSeen, level_at, left_of, IsAtMost, IsLower, AreSeen, IsAdded, IsBound, AreMet, IsSource, IsNext, AreCauses, IsReached, AreRests, AreLevels, AreAllLevels}
use Rattle.jn_chain.proofs.Members.{one_left, pushed, push_cases, front_cases, front_kept, front_new, causes_cases, causes_kept, causes_new, seen_left, seen_right, nothing}
use Rattle.jn_chain.proofs.Leveling.{levels_start, levels_more, far}
use Rattle.jn_chain.proofs.Walks.{chain_reaches}

abbrev Source : Type 0
Source = Option Item

-- ---- a source more

pub added_seen : (levels : List (List Source)) (z : Source) (seen next : List Source) → AreSeen seen levels next → IsOneOf z seen → IsAdded levels z next next
added_seen levels z seen next h m = record { kept = λ w i. i; from = λ w i. inl i; there = h z m }

pub added_new : (levels : List (List Source)) (z : Source) (old new : List Source) → new ≡ old ++ z ∷ [] → IsAdded levels z old new
added_new levels z old new e = subst (IsAdded levels z old) (sym e) (record { kept = λ w h. one_left w old (z ∷ []) h; from = λ w h. push_cases w z old h; there = inr (pushed z old) })

pub seen_new : (levels : List (List Source)) (z : Source) (seen met old new : List Source) → AreSeen seen levels old → met ≡ seen ++ z ∷ [] → new ≡ old ++ z ∷ [] → AreSeen met levels new
seen_new levels z seen met old new h e f w m = subst (λ (l : List Source). IsSeen w levels ⊎ IsOneOf w l) (sym f)
    (⊎_elim
    (λ a. ⊎_elim (λ s. inl s) (λ i. inr (one_left w old (z ∷ []) i)) (h w a))
    (λ (same : w ≡ z). inr (subst (λ (y : Source). IsOneOf y (old ++ z ∷ [])) (sym same) (pushed z old)))
    (push_cases w z seen (subst (IsOneOf w) e m)))

-- the next level is one of the levels
pub seen_level : (levels new : List (List Source)) (seen next : List Source) → AreSeen seen levels next → new ≡ levels ++ next ∷ [] → AreSeen seen new []
seen_level levels new seen next h e w m = subst (λ (l : List (List Source)). IsSeen w l ⊎ IsOneOf w []) (sym e)
    (⊎_elim (λ s. inl (seen_left w levels (next ∷ []) s)) (λ i. inl (seen_right w levels (next ∷ []) (inl i))) (h w m))

pub seen_first : (x : Item) (seen before : List Source) (levels none : List (List Source)) (level : List Source) → before ≡ [] → seen ≡ before ++ Some x ∷ [] → none ≡ [] → level ≡ Some x ∷ [] → levels ≡ none ++ level ∷ [] → AreSeen seen levels []
seen_first x seen before levels none level e f g h i w m =
    inl (subst (IsSeen w) (sym (i ∙ ap (λ (l : List (List Source)). l ++ level ∷ []) g ∙ ap (λ (l : List Source). l ∷ []) h))
    (inl (subst (IsOneOf w) (f ∙ ap (λ (l : List Source). l ++ Some x ∷ []) e) m)))

-- ---- the best

pub lower_none : (n : ℕ) → IsLower None n (Some n)
lower_none n = record { lower = λ m h. absurd h; here = omega arith; from = inr refl }

pub lower_kept : (b n : ℕ) → b ≤ n → IsLower (Some b) n (Some b)
lower_kept b n le = record { lower = λ m h. h; here = le; from = inl refl }

pub lower_new : (b n : ℕ) → n ≤ b → IsLower (Some b) n (Some n)
lower_new b n le = record { lower = λ m (h : b ≤ m). omega (arith, h, le); here = omega arith; from = inr refl }

-- ---- what is met

module _ (K : Item → Option Rest) (ls : List (List Source)) (d : ℕ) where
  pub met_none : (These : Source → Type 0) → ((z : Source) → These z → ⊥) → (next : List Source) (best : Option ℕ) → AreMet K ls d These next next best best
  met_none These none next best = record { kept = λ w h. h; from = λ w h. inl h; there = λ z h. absurd (none z h); lower = λ m h. h; is = inl refl }

  pub met_known : (source : Source) (left : ℕ) (next : List Source) (best now : Option ℕ) → left_of K source ≡ Some left → IsLower best (d + left) now → AreMet K ls d (λ z. z ≡ source) next next best now
  met_known source left next best now k L = record {
    kept = λ w h. h;
    from = λ w h. inl h;
    there = λ z e. inl (record { left = left; known = ap (left_of K) e ∙ k; most = L.here });
    lower = L.lower;
    is = ⊎_elim (λ a. inl a) (λ g. inr (record { source = source; one = refl; left = left; known = k; is = g })) L.from;
  }

  pub met_unknown : (source : Source) (old new : List Source) (best : Option ℕ) → left_of K source ≡ None → IsAdded ls source old new → AreMet K ls d (λ z. z ≡ source) old new best best
  met_unknown source old new best k A = record {
    kept = A.kept;
    from = λ w h. ⊎_elim (λ a. inl a) (λ e. inr (e, ap (left_of K) e ∙ k)) (A.from w h);
    there = λ z e. inr (subst (λ (y : Source). IsSeen y ls ⊎ IsOneOf y new) (sym e) A.there);
    lower = λ m h. h;
    is = inl refl;
  }

  -- these, and then those
  module _ (These Those All : Source → Type 0) (old mid new : List Source) (best middle now : Option ℕ) (A : AreMet K ls d These old mid best middle) (B : AreMet K ls d Those mid new middle now)
      (parts : (z : Source) → All z → These z ⊎ Those z) (these : (z : Source) → These z → All z) (those : (z : Source) → Those z → All z) where
    lowered : (z : Source) → IsBound K d middle z → IsBound K d now z
    lowered z b = record { left = b.left; known = b.known; most = B.lower (d + b.left) b.most }

    pub met_both : AreMet K ls d All old new best now
    met_both = record {
      kept = λ w h. B.kept w (A.kept w h);
      from = λ w h. ⊎_elim
          (λ a. ⊎_elim (λ o. inl o) (λ c. inr (these w c.0, c.1)) (A.from w a))
          (λ c. inr (those w c.0, c.1))
          (B.from w h);
      there = λ z h. ⊎_elim
          (λ c. ⊎_elim (λ b. inl (lowered z b)) (λ s. inr (⊎_elim (λ a. inl a) (λ m. inr (B.kept z m)) s)) (A.there z c))
          (λ c. B.there z c)
          (parts z h);
      lower = λ m h. B.lower m (A.lower m h);
      is = ⊎_elim
          (λ (e : now ≡ middle). ⊎_elim (λ (f : middle ≡ best). inl (e ∙ f)) (λ g. inr (record { source = g.source; one = these g.source g.one; left = g.left; known = g.known; is = e ∙ g.is })) A.is)
          (λ g. inr (record { source = g.source; one = those g.source g.one; left = g.left; known = g.known; is = g.is }))
          B.is;
    }

  pub met_no_cause : (causes : List Cause) (next : List Source) (best : Option ℕ) → AreMet K ls d (IsSource (take 0 causes)) next next best best
  met_no_cause causes next best = met_none (IsSource (take 0 causes)) (λ z h. subst (IsListed (cause_at h.0 z)) (nothing Cause causes) h.1) next best

  -- a cause more
  pub met_cause : (causes : List Cause) (i : ℕ) (c : Cause) (old mid new : List Source) (best middle now : Option ℕ) → i < length causes
      → AreMet K ls d (IsSource (take i causes)) old mid best middle → AreMet K ls d (λ z. z ≡ (slice_index_or causes i c).source) mid new middle now
      → AreMet K ls d (IsSource (take (i + 1) causes)) old new best now
  met_cause causes i c old mid new best middle now lt A B =
      let this : Cause = slice_index_or causes i c in
      met_both (IsSource (take i causes)) (λ z. z ≡ this.source) (IsSource (take (i + 1) causes)) old mid new best middle now A B
      (λ z h. ⊎_elim (λ a. inl (h.0, a)) (λ e. inr (ap (λ (x : Cause). x.source) e)) (causes_cases (cause_at h.0 z) causes i c lt h.1))
      (λ z h. (h.0, causes_kept (cause_at h.0 z) causes i c lt h.1))
      (λ z e. (this.place, subst (λ (y : Source). IsListed (cause_at this.place y) (take (i + 1) causes)) (sym e) (causes_new causes i c lt)))

  pub met_causes : (causes : List Cause) (i : ℕ) (old new : List Source) (best now : Option ℕ) → length causes ≤ i → AreMet K ls d (IsSource (take i causes)) old new best now → AreMet K ls d (IsSource causes) old new best now
  met_causes causes i old new best now le A = subst (λ (l : List Cause). AreMet K ls d (IsSource l) old new best now) (take_all i causes le) A

  module _ (G : Ground) where
    pub met_no_source : (last next : List Source) (best : Option ℕ) → next ≡ [] → AreMet K ls d (IsReached G (take 0 last)) [] next best best
    met_no_source last next best e = subst (λ (l : List Source). AreMet K ls d (IsReached G (take 0 last)) [] l best best) (sym e)
        (met_none (IsReached G (take 0 last)) (λ z r. subst (IsOneOf r.from) (nothing Source last) r.among) [] best)

    -- the causes of a source more
    pub met_more : (last : List Source) (i : ℕ) (s : Source) (causes listed : List Cause) (old mid new : List Source) (best middle now : Option ℕ) → i < length last
        → AreCauses G (slice_index_or last i s) causes → listed ≡ causes
        → AreMet K ls d (IsReached G (take i last)) old mid best middle → AreMet K ls d (IsSource listed) mid new middle now
        → AreMet K ls d (IsReached G (take (i + 1) last)) old new best now
    met_more last i s causes listed old mid new best middle now lt C e A B =
        met_both (IsReached G (take i last)) (IsSource listed) (IsReached G (take (i + 1) last)) old mid new best middle now A B
        (λ z r. ⊎_elim
        (λ a. inl (record { from = r.from; place = r.place; among = a; next = r.next }))
        (λ f. inr (r.place, subst (IsListed (cause_at r.place z)) (sym e) (C.all r.place z (subst (λ (v : Source). IsNext G v r.place z) f r.next))))
        (front_cases r.from last i s lt r.among))
        (λ z r. record { from = r.from; place = r.place; among = front_kept r.from last i s lt r.among; next = r.next })
        (λ z h. record { from = slice_index_or last i s; place = h.0; among = front_new last i s lt; next = C.none_else h.0 z (subst (IsListed (cause_at h.0 z)) e h.1) })

    pub met_all : (last : List Source) (i : ℕ) (old new : List Source) (best now : Option ℕ) → length last ≤ i → AreMet K ls d (IsReached G (take i last)) old new best now → AreMet K ls d (IsReached G last) old new best now
    met_all last i old new best now le A = subst (λ (l : List Source). AreMet K ls d (IsReached G l) old new best now) (take_all i last le) A

-- ---- levels

module _ (G : Ground) (K : Item → Option Rest) where
  pub levels_init : (x : Item) (ls before : List (List Source)) (l : List Source) → before ≡ [] → l ≡ Some x ∷ [] → ls ≡ before ++ l ∷ [] → AreLevels G K ls x 0 None
  levels_init x ls before l e f g = subst (λ (k : List (List Source)). AreLevels G K k x 0 None) (sym (g ∙ ap (λ (k : List (List Source)). k ++ l ∷ []) e ∙ ap (λ (k : List Source). k ∷ []) f)) (levels_start G K x)

  -- what a turn of the search met
  pub record IsTurn (ls given new : List (List Source)) (last next pushed : List Source) (n : ℕ) (best now : Option ℕ) : Type 0 where
    pub given_is : given ≡ ls
    pub last_is : last ≡ level_at ls n
    pub pushed_is : pushed ≡ next
    pub new_is : new ≡ ls ++ pushed ∷ []
    pub met : AreMet K given (n + 1) (IsReached G last) [] next best now

  module _ (x : Item) (n : ℕ) (ls given new : List (List Source)) (last next pushed : List Source) (best now : Option ℕ) (R : AreRests G K) (L : AreLevels G K ls x n best) (t : IsTurn ls given new last next pushed n best now) where
    met_here : AreMet K ls (n + 1) (IsReached G (level_at ls n)) [] next best now
    met_here =
        subst (λ (l : List Source). AreMet K ls (n + 1) (IsReached G l) [] next best now) t.last_is
        (subst (λ (k : List (List Source)). AreMet K k (n + 1) (IsReached G last) [] next best now) t.given_is t.met)

    new_here : new ≡ ls ++ next ∷ []
    new_here = t.new_is ∙ ap (λ (l : List Source). ls ++ l ∷ []) t.pushed_is

    pub turn_more : AreLevels G K new x (n + 1) now
    turn_more = subst (λ (k : List (List Source)). AreLevels G K k x (n + 1) now) (sym new_here) (levels_more G K R x n ls best next now L met_here)

    turn_last : level_at new (n + 1) ≡ next
    turn_last = ap (λ (k : List (List Source)). level_at k (n + 1)) new_here ∙ get_or_push ls next [] (n + 1) L.long

    module _ (stops : (z : Source) → IsOneOf z next → IsAtMost now (n + 1)) where
      ends : (z : Source) → IsOneOf z (level_at new (n + 1)) → IsAtMost now (n + 1)
      ends z h = stops z (subst (IsOneOf z) turn_last h)

      -- an item that has a chain doesn't end without one
      pub turn_reaches : HasChain G.program G.sig G.tables x → now ≡ None → ⊥
      turn_reaches h none = subst (λ (b : Option ℕ). IsAtMost b (0 + suc (length h.more))) none
          (far G K R x (n + 1) new now turn_more ends (suc (length h.more)) 0 (Some x) (omega arith) (turn_more).item (chain_reaches G (record { item = x; place = h.place }) h.more h.chain))

      pub turn_ends : (b : ℕ) → now ≡ Some b → AreAllLevels G K new x b
      turn_ends b e = record {
        count = n + 1;
        some = omega arith;
        levels_to = subst (AreLevels G K new x (n + 1)) e turn_more;
        ends = λ z h. subst (λ (o : Option ℕ). IsAtMost o (n + 1)) e (ends z h);
      }
