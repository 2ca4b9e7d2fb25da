-- Where a fact turned is a dataflow problem.
use Rattle.std.proofs.Common.{◌≡◌, ℕ, ◌+◌, ◌-◌, ◌<◌, ◌≤◌, ◌⊎◌, Bool, true, false, IsTrue, cond, ltb, inl, inr, ⊎_elim, List, [], ◌∷◌, ◌++◌, Option, Some, None, refl, sym, ap, ◌∙◌, subst, arith}
use Rattle.std.specs.Prelude.{◌&&◌, flat_map}
use Rattle.std.proofs.lemmas.Bool.{ltb-true, ltb-false, lt-ltb}
use Rattle.jn_dataflow.specs.Problem.{IsLawful, IsAmong}
use Rattle.jn_voided.specs.declared.course.Passed.{Passed}
use Rattle.jn_voided.specs.declared.course.Way.{Way}
use Rattle.jn_voided.specs.Turning.{along, arriving, as_wanted, handed, is_below, least, handed_to, turning, turning_edges, weight_of}

-- ---- the lesser of two

lesser_same : (x : ℕ) → cond (ltb x x) x x ≡ x
lesser_same x = go (ltb x x)
  where
    go : (c : Bool) → cond c x x ≡ x
    go true = refl
    go false = refl

-- what the lesser of two is: the second where that is less
pub record IsLesser (x y z : ℕ) : Type 0 where
  pub le : z ≤ x
  pub le_other : z ≤ y
  pub either : (z ≡ x) ⊎ (z ≡ y)

lesser_by : (x y : ℕ) (c : Bool) → ltb y x ≡ c → IsLesser x y (cond c y x)
lesser_by x y true is = let h = ltb-true y x is in record { le = omega (arith, h); le_other = omega arith; either = inr refl }
lesser_by x y false is = record { le = omega arith; le_other = ltb-false y x is; either = inl refl }

lesser : (x y : ℕ) → IsLesser x y (cond (ltb y x) y x)
lesser x y = lesser_by x y (ltb y x) refl

lesser_one : (x y z w : ℕ) → IsLesser x y z → IsLesser x y w → z ≡ w
lesser_one x y z w h i =
    let a = h.le in
    let b = h.le_other in
    let c = i.le in
    let d = i.le_other in
    ⊎_elim (λ e. ⊎_elim (λ f. e ∙ sym f) (λ f. omega (arith, a, b, c, d, e, f)) i.either) (λ e. ⊎_elim (λ f. omega (arith, a, b, c, d, e, f)) (λ f. e ∙ sym f) i.either) h.either

lesser_swap : (x y : ℕ) → cond (ltb y x) y x ≡ cond (ltb x y) x y
lesser_swap x y =
    let h = lesser y x in
    lesser_one x y (cond (ltb y x) y x) (cond (ltb x y) x y) (lesser x y) (record { le = h.le_other; le_other = h.le; either = ⊎_elim (λ e. inr e) (λ e. inl e) h.either })

lesser_le : (x y z : ℕ) → z ≤ x → z ≤ y → (z ≡ x) ⊎ (z ≡ y) → z ≡ cond (ltb y x) y x
lesser_le x y z a b e = lesser_one x y z (cond (ltb y x) y x) (record { le = a; le_other = b; either = e }) (lesser x y)

-- over any lesser of the first two, u, and of the last two, v
group_by : (x y z u v : ℕ) → IsLesser x y u → IsLesser y z v → cond (ltb z u) z u ≡ cond (ltb v x) v x
group_by x y z u v h i =
    let w = cond (ltb z u) z u in
    let j = lesser u z in
    let a = h.le in
    let b = h.le_other in
    let c = i.le in
    let d = i.le_other in
    let e = j.le in
    let f = j.le_other in
    lesser_le x v w (omega (arith, a, e))
    (⊎_elim (λ same. omega (arith, same, b, e)) (λ same. omega (arith, same, f)) i.either)
    (⊎_elim
    (λ is. ⊎_elim (λ one. inl (is ∙ one)) (λ two. inr (omega (arith, is, two, c, f, e, is_low x y z u v w h i j))) h.either)
    (λ is. inr (omega (arith, is, d, is_low x y z u v w h i j)))
    j.either)
  where
    -- what is least of all is no greater than the lesser of the last two
    is_low : (x y z u v w : ℕ) → IsLesser x y u → IsLesser y z v → IsLesser u z w → w ≤ v
    is_low x y z u v w h i j =
        let b = h.le_other in
        let e = j.le in
        let f = j.le_other in
        ⊎_elim (λ same. omega (arith, same, b, e)) (λ same. omega (arith, same, f)) i.either

lesser_group : (x y z : ℕ) → cond (ltb z (cond (ltb y x) y x)) z (cond (ltb y x) y x) ≡ cond (ltb (cond (ltb z y) z y) x) (cond (ltb z y) z y) x
lesser_group x y z = group_by x y z (cond (ltb y x) y x) (cond (ltb z y) z y) (lesser x y) (lesser y z)

pub least_same : (x : Option ℕ) → least x x ≡ x
least_same None = refl
least_same (Some x) = ap Some (lesser_same x)

least_swap : (x y : Option ℕ) → least x y ≡ least y x
least_swap None None = refl
least_swap None (Some y) = refl
least_swap (Some x) None = refl
least_swap (Some x) (Some y) = ap Some (lesser_swap x y)

least_group : (x y z : Option ℕ) → least (least x y) z ≡ least x (least y z)
least_group None y z = refl
least_group (Some x) None z = refl
least_group (Some x) (Some y) None = refl
least_group (Some x) (Some y) (Some z) = ap Some (lesser_group x y z)

below_lesser : (n x y : ℕ) (c : Bool) → IsTrue (ltb x n) → IsTrue (ltb y n) → IsTrue (ltb (cond c y x) n)
below_lesser n x y true vx vy = vy
below_lesser n x y false vx vy = vx

below_least : (n : ℕ) (x y : Option ℕ) → IsTrue (is_below n x) → IsTrue (is_below n y) → IsTrue (is_below n (least x y))
below_least n None y vx vy = vy
below_least n (Some x) None vx vy = vx
below_least n (Some x) (Some y) vx vy = below_lesser n x y (ltb y x) vx vy

from_true : (c : Bool) → IsTrue c → c ≡ true
from_true true v = refl
from_true false v = absurd cc

to_true : (c : Bool) → c ≡ true → IsTrue c
to_true c e = subst (λ d. IsTrue d) (sym e) refl

pub below_is : (n x : ℕ) → IsTrue (ltb x n) → x < n
below_is n x v = ltb-true x n (from_true (ltb x n) v)

rises_by : (n x y : ℕ) (c : Bool) → ltb y x ≡ c → x < n → (Some (cond c y x) ≡ Some x → ⊥) → n - x < n - cond c y x
rises_by n x y true is lt other = let h = ltb-true y x is in omega (arith, h, lt)
rises_by n x y false is lt other = absurd (other refl)

rises : (n : ℕ) (x y : Option ℕ) → IsTrue (is_below n x) → IsTrue (is_below n y) → (least x y ≡ x → ⊥) → weight_of n x < weight_of n (least x y)
rises n None None vx vy other = absurd (other refl)
rises n None (Some y) vx vy other = let h = below_is n y vy in omega (arith, h)
rises n (Some x) None vx vy other = absurd (other refl)
rises n (Some x) (Some y) vx vy other = rises_by n x y (ltb y x) refl (below_is n x vx) other

bounded : (n : ℕ) (x : Option ℕ) → weight_of n x ≤ n
bounded n None = omega arith
bounded n (Some x) = omega arith

-- ---- edges

pub among_cases : (x : ℕ × Option ℕ) (xs ys : List (ℕ × Option ℕ)) → IsAmong x (xs ++ ys) → IsAmong x xs ⊎ IsAmong x ys
among_cases x [] ys m = inr m
among_cases x (y ∷ xs) ys (inl e) = inl (inl e)
among_cases x (y ∷ xs) ys (inr m) = ⊎_elim (λ h. inl (inr h)) (λ h. inr h) (among_cases x xs ys m)

-- what is handed on goes along a way
pub record Along (n : ℕ) (at : ℕ → Passed) (wanted : Bool) (from : Option ℕ) (ways : List Way) (x : ℕ × Option ℕ) : Type 0 where
  pub way : Way
  pub among : IsAmong way ways
  pub target : x.0 ≡ way.to
  pub inside : x.0 < n
  pub carried : x.1 ≡ arriving wanted way.known (at way.to).known from

pub record Next (n p : ℕ) (x : ℕ × Option ℕ) : Type 0 where
  pub target : x.0 ≡ p + 1
  pub inside : x.0 < n
  pub nothing : x.1 ≡ None

module _ (n : ℕ) (at : ℕ → Passed) (source : ℕ → Bool) (wanted : Bool) where
  along_by : (from : Option ℕ) (w : Way) (ws : List Way) (x : ℕ × Option ℕ) (c : Bool) → ltb w.to n ≡ c → IsAmong x (cond c ((w.to, arriving wanted w.known (at w.to).known from) ∷ []) []) → Along n at wanted from (w ∷ ws) x
  along_by from w ws x true is (inl e) = record {
    way = w;
    among = inl refl;
    target = ap (λ (z : ℕ × Option ℕ). z.0) e;
    inside = subst (λ k. k < n) (sym (ap (λ (z : ℕ × Option ℕ). z.0) e)) (ltb-true w.to n is);
    carried = ap (λ (z : ℕ × Option ℕ). z.1) e;
  }
  along_by from w ws x true is (inr m) = absurd m
  along_by from w ws x false is m = absurd m

  pub along_one : (from : Option ℕ) (ways : List Way) (x : ℕ × Option ℕ) → IsAmong x (flat_map (along n at wanted from) ways) → Along n at wanted from ways x
  along_one from [] x m = absurd m
  along_one from (w ∷ ws) x m =
      ⊎_elim
      (λ h. along_by from w ws x (ltb w.to n) refl h)
      (λ h. let one = along_one from ws x h in record { way = one.way; among = inr one.among; target = one.target; inside = one.inside; carried = one.carried })
      (among_cases x (along n at wanted from w) (flat_map (along n at wanted from) ws) m)

  next_by : (p : ℕ) (x : ℕ × Option ℕ) (c : Bool) → ltb (p + 1) n ≡ c → IsAmong x (cond c ((p + 1, None) ∷ []) []) → Next n p x
  next_by p x true is (inl e) = record {
    target = ap (λ (z : ℕ × Option ℕ). z.0) e;
    inside = subst (λ k. k < n) (sym (ap (λ (z : ℕ × Option ℕ). z.0) e)) (ltb-true (p + 1) n is);
    nothing = ap (λ (z : ℕ × Option ℕ). z.1) e;
  }
  next_by p x true is (inr m) = absurd m
  next_by p x false is m = absurd m

  pub edge_cases : (p : ℕ) (from : Option ℕ) (x : ℕ × Option ℕ) → IsAmong x (turning_edges n at source wanted p from) → Next n p x ⊎ Along n at wanted (handed source p from) (at p).ways x
  edge_cases p from x m =
      ⊎_elim
      (λ h. inl (next_by p x (ltb (p + 1) n) refl h))
      (λ h. inr (along_one (handed source p from) (at p).ways x h))
      (among_cases x (handed_to n (p + 1) None) (flat_map (along n at wanted (handed source p from)) (at p).ways) m)

  below_if : (c : Bool) (from : Option ℕ) → IsTrue (is_below n from) → IsTrue (is_below n (cond c from None))
  below_if true from v = v
  below_if false from v = refl

  below_arriving : (known : Bool) (there : Option Bool) (from : Option ℕ) → IsTrue (is_below n from) → IsTrue (is_below n (arriving wanted known there from))
  below_arriving known None from v = refl
  below_arriving known (Some there) from v = below_if (as_wanted wanted known && as_wanted wanted there) from v

  below_either : (p : ℕ) (c : Bool) (from : Option ℕ) → p < n → IsTrue (is_below n from) → IsTrue (is_below n (cond c (Some p) from))
  below_either p true from lt v = to_true (ltb p n) (lt-ltb p n lt)
  below_either p false from lt v = v

  below_handed : (p : ℕ) (from : Option ℕ) → p < n → IsTrue (is_below n from) → IsTrue (is_below n (handed source p from))
  below_handed p from lt v = below_either p (source p) from lt v

  below_edge : (p : ℕ) (from : Option ℕ) (x : ℕ × Option ℕ) → p < n → IsTrue (is_below n from) → IsAmong x (turning_edges n at source wanted p from) → IsTrue (is_below n x.1)
  below_edge p from x lt v m =
      ⊎_elim
      (λ h. subst (λ z. IsTrue (is_below n z)) (sym h.nothing) refl)
      (λ h. subst (λ z. IsTrue (is_below n z)) (sym h.carried) (below_arriving h.way.known (at h.way.to).known (handed source p from) (below_handed p from lt v)))
      (edge_cases p from x m)

  pub turning_lawful : IsLawful (turning n at source wanted)
  turning_lawful = record {
    starts = refl;
    inside = λ p e x lt v a. ⊎_elim (λ h. h.inside) (λ h. h.inside) (edge_cases p e x a);
    carries = λ p e x lt v a. below_edge p e x lt v a;
    joins = λ x y vx vy. below_least n x y vx vy;
    same = λ x v. least_same x;
    swap = λ x y vx vy. least_swap x y;
    group = λ x y z vx vy vz. least_group x y z;
    rises = λ x y vx vy other. rises n x y vx vy other;
    bounded = λ x v. bounded n x;
  }
