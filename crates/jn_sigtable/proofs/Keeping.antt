-- What a step that changes one view and one word has to show.
use Rattle.std.proofs.Common.{◌≡◌, ◌⊎◌, ℕ, zero, suc, ◌+◌, ◌<◌, ◌≤◌, ◌==◌, ◌&&◌, ◌||◌, cond, Bool, true, false, List, [], ◌∷◌, ◌++◌, length, set, filter, Some, Option, sym, refl, ap, ◌∙◌, subst, inl, inr, ⊎_elim, arith, length-set, true≢false}
use mathlib.Core.Option.{some}
use mathlib.Core.Logic.{dite}
use native.Mathlib.Decide.{ℕ_discrete}
use lib.ListN.{get_elem?}
use Rattle.std.specs.Prelude.{slice_index}
use Rattle.std.specs.List.{range_with_len}
use Rattle.std.proofs.lemmas.Bool.{eqb-true}
use Rattle.std.proofs.lemmas.List.{set-get_or}
use Rattle.atomic_table.specs.Table.{State, keeps, stepped}
use Rattle.jn_sigtable.specs.declared.view.View.{View}
use Rattle.jn_sigtable.specs.declared.view.Setting.{Setting}
use Rattle.jn_sigtable.specs.System.{System, IsLawful, Covers, least, limit_of}
use Rattle.jn_sigtable.specs.Machine.{start_of, IsCovered, IsCounted, IsBelow, IsDirty, IsUnseen, IsLive, Has, has, Holds, bodies_where, described}
use Rattle.jn_sigtable.proofs.Bits.{within_trans, within_refl}
use Rattle.jn_sigtable.proofs.Frames.{each_set, shares_kept}

-- ---- lists of bodies
pub has_left : (xs ys : List ℕ) (x : ℕ) → Has xs x → Has (xs ++ ys) x
has_left [] ys x h = absurd h
has_left (y ∷ xs) ys x h = ⊎_elim (λ e. inl e) (λ r. inr (has_left xs ys x r)) h

pub has_right : (xs ys : List ℕ) (x : ℕ) → Has ys x → Has (xs ++ ys) x
has_right [] ys x h = h
has_right (y ∷ xs) ys x h = inr (has_right xs ys x h)

pub has_either : (xs ys : List ℕ) (x : ℕ) → Has (xs ++ ys) x → Has xs x ⊎ Has ys x
has_either [] ys x h = inr h
has_either (y ∷ xs) ys x h = ⊎_elim (λ e. inl (inl e)) (λ r. ⊎_elim (λ l. inl (inr l)) (λ q. inr q) (has_either xs ys x r)) h

has_cond : (t : Bool) (y : ℕ) (ys : List ℕ) (x : ℕ) → ((y ≡ x) → t ≡ true) → (y ≡ x) ⊎ Has ys x → Has (cond t (y ∷ ys) ys) x
has_cond true y ys x f h = h
has_cond false y ys x f h = ⊎_elim (λ s. absurd (true≢false (sym (f s)))) (λ r. r) h

cond_has : (t : Bool) (y : ℕ) (ys : List ℕ) (x : ℕ) → Has (cond t (y ∷ ys) ys) x → ((y ≡ x) × (t ≡ true)) ⊎ Has ys x
cond_has true y ys x h = ⊎_elim (λ s. inl (s, refl)) (λ r. inr r) h
cond_has false y ys x h = inr h

pub has_filter : (p : ℕ → Bool) (xs : List ℕ) (x : ℕ) → p x ≡ true → Has xs x → Has (filter p xs) x
has_filter p [] x e h = absurd h
has_filter p (y ∷ xs) x e h = has_cond (p y) y (filter p xs) x (λ s. ap p s ∙ e) (⊎_elim (λ s. inl s) (λ r. inr (has_filter p xs x e r)) h)

pub filter_has : (p : ℕ → Bool) (xs : List ℕ) (x : ℕ) → Has (filter p xs) x → Has xs x × (p x ≡ true)
filter_has p [] x h = absurd h
filter_has p (y ∷ xs) x h =
    ⊎_elim
    (λ (s : (y ≡ x) × (p y ≡ true)). (inl s.0, ap p (sym s.0) ∙ s.1))
    (λ r. let q = filter_has p xs x r in (inr q.0, q.1))
    (cond_has (p y) y (filter p xs) x h)

pub range_has : (a n x : ℕ) → a ≤ x → x < a + n → Has (range_with_len a n) x
range_has a zero x low high = absurd (omega arith)
range_has a (suc n) x low high = dite (ℕ_discrete a x) (λ e. inl e) (λ ne. inr (range_has (a + 1) n x (omega arith) (omega arith)))

pub bodies_have : (sys : System) (p : ℕ → Bool) (b : ℕ) → b < sys.bodies → p b ≡ true → Has (bodies_where sys p) b
bodies_have sys p b inside e = has_filter p (range_with_len 0 sys.bodies) b e (range_has 0 sys.bodies b (omega arith) (omega arith))

either_has : (t : Bool) (y x : ℕ) (xs : List ℕ) (rest : Bool) → (t ≡ true → y ≡ x) → (rest ≡ true → Has xs x) → (t || rest) ≡ true → (y ≡ x) ⊎ Has xs x
either_has true y x xs rest f g h = inl (f refl)
either_has false y x xs rest f g h = inr (g h)

pub list_any_has : (xs : List ℕ) (x : ℕ) → has xs x ≡ true → Has xs x
list_any_has [] x e = absurd (true≢false (sym e))
list_any_has (y ∷ xs) x e = either_has (y == x) y x xs (has xs x) (λ t. eqb-true y x t) (λ t. list_any_has xs x t) e

pub none_has : (xs : List ℕ) (x : ℕ) → xs ≡ [] → Has xs x → ⊥
none_has xs x e h = subst (λ ys. Has ys x) e h

pub none_from : (xs : List ℕ) → ((x : ℕ) → Has xs x → ⊥) → xs ≡ []
none_from [] f = refl
none_from (x ∷ xs) f = absurd (f x (inl refl))

pub both_true : (a b : Bool) → (a && b) ≡ true → (a ≡ true) × (b ≡ true)
both_true true b e = (refl, e)
both_true false b e = absurd (true≢false (sym e))

module _ {C : Type 0} (describe : C → System) (k : Setting C) where
  -- the parts of the rule that follow from the words' rise and the new view
  pub kept : (s : State ℕ (View C)) (i n id : ℕ) (v : View C) (c : List (ℕ × ℕ)) (w : View C)
      → Holds describe k s → get_elem? s.views id ≡ some v → w.system ≡ k.system → w.limit ≡ v.limit → w.share ≡ v.share
      → Covers (describe k.system).words s.words (set s.words i n)
      → Covers (describe k.system).words (set s.words i n) (least (describe k.system) (start_of describe k))
      → IsBelow (describe k.system) (set s.words i n) w
      → ((b : ℕ) → b < (describe k.system).bodies → IsCovered (describe k.system) (set s.words i n) (set s.views id w) b)
      → ((b : ℕ) → b < (describe k.system).bodies → IsDirty (describe k.system) (set s.words i n) b → IsUnseen (set s.views id w) b)
      → IsCounted (describe k.system) (start_of describe k) (set s.words i n) (set s.views id w)
      → Holds describe k (stepped s i n id c w keeps)
  kept s i n id v c w h at same room share rises below fit cover scanned counted =
      let sys : System = describe k.system in
      let after : List ℕ = set s.words i n in
      record {
        count = length-set s.words i n ∙ h.count;
        start = λ u less. within_trans _ _ _ (h.start u less) (rises u less);
        below = below;
        top = h.top;
        fixed = each_set (λ u. IsLive u → u.system ≡ k.system) (λ u. IsLive u → u.system ≡ k.system) s.views id w h.fixed (λ u e. e) (λ _. same);
        limited = each_set (λ u. IsLive u → u.limit ≡ limit_of sys (start_of describe k)) (λ u. IsLive u → u.limit ≡ limit_of sys (start_of describe k)) s.views id w h.limited (λ u e. e)
            (λ live. room ∙ h.limited id v at (subst (λ (x : List ℕ). 0 < length x) share live));
        fits = each_set (λ u. IsLive u → IsBelow sys s.words u) (λ u. IsLive u → IsBelow sys after u) s.views id w h.fits
            (λ u f live. let e : IsBelow sys s.words u = f live in record {
              count = e.count;
              values = λ x less. within_trans _ _ _ (e.values x less) (rises x less);
              raised = λ x less. within_trans _ _ _ (e.raised x less) (rises x less);
              inside = e.inside;
            }) (λ _. fit);
        cover = cover;
        scanned = scanned;
        shares = shares_kept s.views id v w at share h.shares;
        counted = counted;
      }

  -- a load changes no word
  pub loaded : (s : State ℕ (View C)) (i id : ℕ) (v : View C) (c : List (ℕ × ℕ)) (w : View C)
      → Holds describe k s → get_elem? s.views id ≡ some v → w.system ≡ k.system → w.limit ≡ v.limit → w.share ≡ v.share
      → IsBelow (describe k.system) s.words w
      → ((b : ℕ) → b < (describe k.system).bodies → IsCovered (describe k.system) s.words (set s.views id w) b)
      → ((b : ℕ) → b < (describe k.system).bodies → IsDirty (describe k.system) s.words b → IsUnseen (set s.views id w) b)
      → IsCounted (describe k.system) (start_of describe k) s.words (set s.views id w)
      → Holds describe k (stepped s i (slice_index s.words i) id c w keeps)
  loaded s i id v c w h at same room share fit cover scanned counted =
      let sys : System = describe k.system in
      let e : s.words ≡ set s.words i (slice_index s.words i) = sym (set-get_or s.words i 0) in
      kept s i (slice_index s.words i) id v c w h at same room share
      (subst (Covers sys.words s.words) e (λ u less. within_refl (slice_index s.words u)))
      (subst (λ x. Covers sys.words x (least sys (start_of describe k))) e h.below)
      (subst (λ x. IsBelow sys x w) e fit)
      (subst (λ x. (b : ℕ) → b < sys.bodies → IsCovered sys x (set s.views id w) b) e cover)
      (subst (λ x. (b : ℕ) → b < sys.bodies → IsDirty sys x b → IsUnseen (set s.views id w) b) e scanned)
      (subst (λ x. IsCounted sys (start_of describe k) x (set s.views id w)) e counted)

-- the laws at an optional system
pub lawful_at : {C : Type 0} (describe : C → System) (it : C) (x : Option C) → x ≡ Some it → IsLawful (describe it) → IsLawful (described describe x)
lawful_at describe it x e law = subst (λ y. IsLawful (described describe y)) (sym e) law
