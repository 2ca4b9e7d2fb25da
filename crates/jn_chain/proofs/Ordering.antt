-- The order of numbers, and the least of some causes.
use Rattle.std.proofs.Common.{◌≡◌, ℕ, ◌+◌, ◌<◌, Bool, true, false, ◌&&◌, ◌||◌, ◌⊎◌, inl, inr, ⊎_elim, List, [], ◌∷◌, length, take, Option, Some, None, refl, sym, ◌∙◌, subst, arith}
use Rattle.std.specs.Prelude.{eqb, ltb, slice_index_or, MatchOption}
use Rattle.std.proofs.lemmas.Bool.{and_from, and_parts, or_cases, or_left, or_right, eqb-true, eq-eqb, ltb-true, lt-ltb}
use Rattle.jn_reasons_law.specs.declared.item.Item.{Item}
use Rattle.jn_reasons_law.specs.Choice.{is_before}
use Rattle.jn_reasons.specs.declared.causes.Cause.{Cause}
use Rattle.jn_chain.specs.Search.{way_list, IsBest, IsBetter, IsLeastAmong, IsUnwanted}
use Rattle.jn_chain.proofs.Members.{causes_cases, causes_kept, causes_new}

pub never : false ≡ true → ⊥
never e = cc

-- nothing comes before itself
irreflexive : (xs : List ℕ) → is_before xs xs ≡ true → ⊥
irreflexive [] h = never h
irreflexive (x ∷ xs) h = ⊎_elim
    (λ l. let lt = ltb-true x x l in omega (arith, lt))
    (λ r. irreflexive xs (and_parts (eqb x x) (is_before xs xs) r).1)
    (or_cases (ltb x x) (eqb x x && is_before xs xs) h)

transitive : (xs ys zs : List ℕ) → is_before xs ys ≡ true → is_before ys zs ≡ true → is_before xs zs ≡ true
transitive [] ys zs h k = absurd (never h)
transitive (x ∷ xs) [] zs h k = absurd (never h)
transitive (x ∷ xs) (y ∷ ys) [] h k = absurd (never k)
transitive (x ∷ xs) (y ∷ ys) (z ∷ zs) h k = by (transitive xs ys zs) (or_cases (ltb x y) (eqb x y && is_before xs ys) h) (or_cases (ltb y z) (eqb y z && is_before ys zs) k)
  where
    less : x < z → (ltb x z || (eqb x z && is_before xs zs)) ≡ true
    less lt = or_left (ltb x z) (eqb x z && is_before xs zs) (lt-ltb x z lt)

    by : (is_before xs ys ≡ true → is_before ys zs ≡ true → is_before xs zs ≡ true) → (ltb x y ≡ true) ⊎ ((eqb x y && is_before xs ys) ≡ true) → (ltb y z ≡ true) ⊎ ((eqb y z && is_before ys zs) ≡ true) → (ltb x z || (eqb x z && is_before xs zs)) ≡ true
    by more (inl a) (inl c) = let m = ltb-true x y a in let n = ltb-true y z c in less (omega (arith, m, n))
    by more (inl a) (inr c) = let m = ltb-true x y a in let n = eqb-true y z (and_parts (eqb y z) (is_before ys zs) c).0 in less (omega (arith, m, n))
    by more (inr a) (inl c) = let m = eqb-true x y (and_parts (eqb x y) (is_before xs ys) a).0 in let n = ltb-true y z c in less (omega (arith, m, n))
    by more (inr a) (inr c) =
        let f = and_parts (eqb x y) (is_before xs ys) a in
        let g = and_parts (eqb y z) (is_before ys zs) c in
        or_right (ltb x z) (eqb x z && is_before xs zs) (and_from (eqb x z) (is_before xs zs) (eq-eqb x z (eqb-true x y f.0 ∙ eqb-true y z g.0)) (more f.1 g.1))

pub as_false : (t : Bool) → (t ≡ true → ⊥) → t ≡ false
as_false true f = absurd (f refl)
as_false false f = refl

abbrev before : Cause → Cause → Bool
before c d = is_before (way_list c.place c.source) (way_list d.place d.source)

module _ (causes : List Cause) (W : Option Item → Type 0) (i : ℕ) (d : Cause) (lt : i < length causes) where
  abbrev this : Cause
  this = slice_index_or causes i d

  pub best_kept : (best : Option Cause) → (W this.source → ⊥) → MatchOption best (IsUnwanted (take i causes) W) (IsLeastAmong (take i causes) W) → MatchOption best (IsUnwanted (take (i + 1) causes) W) (IsLeastAmong (take (i + 1) causes) W)
  best_kept None f h = λ c l w. ⊎_elim (λ a. h c a w) (λ e. f (subst (λ (x : Cause). W x.source) e w)) (causes_cases c causes i d lt l)
  best_kept (Some b) f h = record {
    listed = causes_kept b causes i d lt h.listed;
    among = h.among;
    least = λ c l w. ⊎_elim (λ a. h.least c a w) (λ e. absurd (f (subst (λ (x : Cause). W x.source) e w))) (causes_cases c causes i d lt l);
  }

  pub best_first : W this.source → IsUnwanted (take i causes) W → IsLeastAmong (take (i + 1) causes) W this
  best_first w h = record {
    listed = causes_new causes i d lt;
    among = w;
    least = λ c l v. ⊎_elim (λ a. absurd (h c a v)) (λ e. as_false (before c this) (λ t. irreflexive (way_list this.place this.source) (subst (λ (x : Cause). is_before (way_list x.place x.source) (way_list this.place this.source) ≡ true) e t))) (causes_cases c causes i d lt l);
  }

  pub best_new : (b : Cause) → W this.source → is_before (way_list this.place this.source) (way_list b.place b.source) ≡ true → IsLeastAmong (take i causes) W b → IsLeastAmong (take (i + 1) causes) W this
  best_new b w t h = record {
    listed = causes_new causes i d lt;
    among = w;
    least = λ c l v. as_false (before c this) (λ u. ⊎_elim
        (λ a. never (sym (h.least c a v) ∙ transitive (way_list c.place c.source) (way_list this.place this.source) (way_list b.place b.source) u t))
        (λ e. irreflexive (way_list this.place this.source) (subst (λ (x : Cause). is_before (way_list x.place x.source) (way_list this.place this.source) ≡ true) e u))
        (causes_cases c causes i d lt l));
  }

  pub best_old : (b : Cause) → is_before (way_list this.place this.source) (way_list b.place b.source) ≡ false → IsLeastAmong (take i causes) W b → IsLeastAmong (take (i + 1) causes) W b
  best_old b t h = record {
    listed = causes_kept b causes i d lt h.listed;
    among = h.among;
    least = λ c l v. ⊎_elim (λ a. h.least c a v) (λ e. subst (λ (x : Cause). is_before (way_list x.place x.source) (way_list b.place b.source) ≡ false) (sym e) t) (causes_cases c causes i d lt l);
  }

  -- with the lesser of two
  best_wanted : (best result : Option Cause) → W this.source → IsBest best this result → MatchOption best (IsUnwanted (take i causes) W) (IsLeastAmong (take i causes) W) → MatchOption result (IsUnwanted (take (i + 1) causes) W) (IsLeastAmong (take (i + 1) causes) W)
  best_wanted None None w e h = absurd e
  best_wanted (Some b) None w e h = absurd e
  best_wanted None (Some c) w e h = subst (IsLeastAmong (take (i + 1) causes) W) (sym e) (best_first w h)
  best_wanted (Some b) (Some c) w (inl e) h = subst (IsLeastAmong (take (i + 1) causes) W) (sym e.1) (best_new b w e.0 h)
  best_wanted (Some b) (Some c) w (inr e) h = subst (IsLeastAmong (take (i + 1) causes) W) (sym e.1) (best_old b e.0 h)

  pub best_more : (best result : Option Cause) → IsBetter best this W result → MatchOption best (IsUnwanted (take i causes) W) (IsLeastAmong (take i causes) W) → MatchOption result (IsUnwanted (take (i + 1) causes) W) (IsLeastAmong (take (i + 1) causes) W)
  best_more best result (inl e) h = subst (λ (o : Option Cause). MatchOption o (IsUnwanted (take (i + 1) causes) W) (IsLeastAmong (take (i + 1) causes) W)) (sym e.1) (best_kept best e.0 h)
  best_more best result (inr e) h = best_wanted best result e.0 e.1 h
