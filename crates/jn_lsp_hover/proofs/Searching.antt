-- What is found place by place is the narrowest.
use Rattle.std.proofs.Common.{◌≡◌, ℕ, zero, suc, ◌+◌, ◌≤◌, ◌<◌, Bool, true, false, cond, List, [], ◌∷◌, ◌++◌, length, take, get_or, map, Option, Some, None, append-nil, append_assoc, add-one, refl, sym, ap, ◌∙◌, subst, arith}
use Rattle.std.specs.Prelude.{All, filter, nat_lt, slice_get}
use Rattle.std.proofs.lemmas.Bool.Decides.{nat_tests}
use Rattle.std.proofs.lemmas.List.{map-append, map_more}
use Rattle.std.proofs.lemmas.List.Elements.{All-append, All-cons, All-nil, All-push, All-same}
use Rattle.jn_points.specs.declared.point.Operand.{Operand}
use Rattle.jn_points.specs.declared.point.Point.{Point}
use Rattle.jn_points.specs.declared.program.Body.{Body}
use Rattle.jn_points.specs.declared.program.Program.{Program}
use Rattle.jn_points.specs.Lookup.{body_at, points_of}
use Rattle.jn_lsp_hover.specs.declared.sought.Sought.{Sought}
use Rattle.jn_lsp_hover.specs.declared.spot.Spot.{Spot}
use Rattle.jn_lsp_hover.specs.Searched.{better, narrower, passes, searched}
use Rattle.jn_lsp_hover.specs.Spots.{IsNarrowest, IsNarrowestOf, spots_of_bodies, spots_of_point, spots_of_points, width}

-- ---- one part after the other

module _ (sought : Sought) where
  over_both : (best : Option Spot) (xs ys : List Spot) → searched sought (searched sought best xs) ys ≡ searched sought best (xs ++ ys)
  over_both best [] ys = refl
  over_both best (x ∷ xs) ys = over_both (better sought best x) xs ys

  pub searched_both : (best mid end : Option Spot) (xs ys : List Spot) → mid ≡ searched sought best xs → end ≡ searched sought mid ys → end ≡ searched sought best (xs ++ ys)
  searched_both best mid end xs ys before after = after ∙ ap (λ b. searched sought b ys) before ∙ over_both best xs ys

  pub two_parts : (f : Operand → Spot) (best mid end : Option Spot) (xs ys : List Operand) → mid ≡ searched sought best (map f xs) → end ≡ searched sought mid (map f ys) → end ≡ searched sought best (map f (xs ++ ys))
  two_parts f best mid end xs ys before after = searched_both best mid end (map f xs) (map f ys) before after ∙ ap (searched sought best) (sym (map-append f xs ys))

  -- one operand more
  pub operand_more : (f : Operand → Spot) (best old new : Option Spot) (xs : List Operand) (i : ℕ) (d : Operand) → i < length xs
      → new ≡ better sought old (f (get_or xs i d)) → old ≡ searched sought best (map f (take i xs)) → new ≡ searched sought best (map f (take (i + 1) xs))
  operand_more f best old new xs i d lt is before = searched_both best old new (map f (take i xs)) (f (get_or xs i d) ∷ []) before is ∙ ap (searched sought best) (sym (map_more f xs i d lt))

-- ---- one point more, and one body more

from_zero : (n : ℕ) → n ≡ 0 + n
from_zero n = omega arith

spots_more : (b p : ℕ) (pts : List Point) (i : ℕ) (pt : Point) → i < length pts → pt ≡ get_or pts i pt
    → spots_of_points b p (take (suc i) pts) ≡ spots_of_points b p (take i pts) ++ spots_of_point b (p + i) pt
spots_more b p [] i pt lt is = absurd (omega (arith, lt))
spots_more b p (x ∷ pts) zero pt lt is =
    append-nil (spots_of_point b p x) ∙ ap (spots_of_point b p) (sym is) ∙ ap (λ n. spots_of_point b n pt) none
  where
    none : p ≡ p + 0
    none = omega arith
spots_more b p (x ∷ pts) (suc i) pt lt is =
    ap (λ ys. spots_of_point b p x ++ ys) (spots_more b (p + 1) pts i pt (omega (arith, lt)) is)
    ∙ sym (append_assoc (spots_of_point b p x) (spots_of_points b (p + 1) (take i pts)) (spots_of_point b ((p + 1) + i) pt))
    ∙ ap (λ n. (spots_of_point b p x ++ spots_of_points b (p + 1) (take i pts)) ++ spots_of_point b n pt) on
  where
    on : (p + 1) + i ≡ p + suc i
    on = omega arith

bodies_more : (b : ℕ) (bodies : List Body) (i : ℕ) → i < length bodies
    → spots_of_bodies b (take (suc i) bodies) ≡ spots_of_bodies b (take i bodies) ++ spots_of_points (b + i) 0 (points_of (slice_get bodies i))
bodies_more b [] i lt = absurd (omega (arith, lt))
bodies_more b (x ∷ bodies) zero lt = append-nil (spots_of_points b 0 x.points) ∙ ap (λ n. spots_of_points n 0 x.points) none
  where
    none : b ≡ b + 0
    none = omega arith
bodies_more b (x ∷ bodies) (suc i) lt =
    let next = points_of (slice_get bodies i) in
    ap (λ ys. spots_of_points b 0 x.points ++ ys) (bodies_more (b + 1) bodies i (omega (arith, lt)))
    ∙ sym (append_assoc (spots_of_points b 0 x.points) (spots_of_bodies (b + 1) (take i bodies)) (spots_of_points ((b + 1) + i) 0 next))
    ∙ ap (λ n. (spots_of_points b 0 x.points ++ spots_of_bodies (b + 1) (take i bodies)) ++ spots_of_points n 0 next) on
  where
    on : (b + 1) + i ≡ b + suc i
    on = omega arith

module _ (sought : Sought) where
  pub point_more : (b : ℕ) (best old new : Option Spot) (pts : List Point) (i : ℕ) (pt : Point) → i < length pts → pt ≡ get_or pts i pt
      → new ≡ searched sought old (spots_of_point b i pt) → old ≡ searched sought best (spots_of_points b 0 (take i pts)) → new ≡ searched sought best (spots_of_points b 0 (take (i + 1) pts))
  point_more b best old new pts i pt lt is after before =
      searched_both sought best old new (spots_of_points b 0 (take i pts)) (spots_of_point b i pt) before after
      ∙ ap (searched sought best) (ap (λ n. spots_of_points b 0 (take i pts) ++ spots_of_point b n pt) (from_zero i) ∙ sym (spots_more b 0 pts i pt lt is) ∙ ap (λ n. spots_of_points b 0 (take n pts)) (sym (add-one i)))

  pub body_more : (P : Program) (old new : Option Spot) (i : ℕ) → i < length P.bodies
      → new ≡ searched sought old (spots_of_points i 0 (points_of (body_at P i))) → old ≡ searched sought None (spots_of_bodies 0 (take i P.bodies)) → new ≡ searched sought None (spots_of_bodies 0 (take (i + 1) P.bodies))
  body_more P old new i lt after before =
      searched_both sought None old new (spots_of_bodies 0 (take i P.bodies)) (spots_of_points i 0 (points_of (body_at P i))) before after
      ∙ ap (searched sought None) (ap (λ n. spots_of_bodies 0 (take i P.bodies) ++ spots_of_points n 0 (points_of (body_at P i))) (from_zero i) ∙ sym (bodies_more 0 P.bodies i lt) ∙ ap (λ n. spots_of_bodies 0 (take n P.bodies)) (sym (add-one i)))

-- ---- the narrowest

abbrev Wider : Spot → Spot → Type 0
Wider spot other = width spot < width other

abbrev NotNarrower : Spot → Spot → Type 0
NotNarrower spot other = width spot ≤ width other

-- all before are wider than the best, and all after aren't narrower, so that all are wider than one that is narrower still
all_wider : (y x : Spot) (before behind : List Spot) → width x < width y → All (Wider y) before → All (NotNarrower y) behind → All (Wider x) (before ++ y ∷ behind)
all_wider y x before behind lt first least =
    All-append (Wider x) before (y ∷ behind)
    (λ k d inside. let h = first k d inside in omega (arith, lt, h))
    (All-cons (Wider x) y behind lt (λ k d inside. let h = least k d inside in omega (arith, lt, h)))

narrower_is : (done : List Spot) (y x : Spot) → IsNarrowest done y → (narrows : Bool) → nat_lt (width x) (width y) ≡ narrows → IsNarrowest (done ++ x ∷ []) (cond narrows x y)
narrower_is done y x is true e = record {
  before = done;
  behind = [];
  among = refl;
  first = All-same (Wider x) done (is.before ++ y ∷ is.behind) is.among (all_wider y x is.before is.behind (grind (arith, nat_tests, e)) is.first is.least);
  least = All-nil (NotNarrower x);
}
narrower_is done y x is false e = record {
  before = is.before;
  behind = is.behind ++ x ∷ [];
  among = ap (λ all. all ++ x ∷ []) is.among ∙ append_assoc is.before (y ∷ is.behind) (x ∷ []);
  first = is.first;
  least = All-push (NotNarrower y) is.behind x is.least (grind (arith, nat_tests, e));
}

-- one more
better_is : (done : List Spot) (best : Option Spot) (x : Spot) → IsNarrowestOf done best → IsNarrowest (done ++ x ∷ []) (narrower best x)
better_is done None x none = record {
  before = [];
  behind = [];
  among = ap (λ all. all ++ x ∷ []) none;
  first = All-nil (Wider x);
  least = All-nil (NotNarrower x);
}
better_is done (Some y) x is = narrower_is done y x is (nat_lt (width x) (width y)) refl

module _ (sought : Sought) where
  -- one place more, which passes or not
  by_test : (done : List Spot) (best : Option Spot) (x : Spot) (spots : List Spot) (b : Bool)
      → IsNarrowestOf ((done ++ x ∷ []) ++ filter (passes sought) spots) (searched sought (Some (narrower best x)) spots)
      → IsNarrowestOf (done ++ filter (passes sought) spots) (searched sought best spots)
      → IsNarrowestOf (done ++ cond b (x ∷ filter (passes sought) spots) (filter (passes sought) spots)) (searched sought (cond b (Some (narrower best x)) best) spots)
  by_test done best x spots true is other =
      subst (λ (all : List Spot). IsNarrowestOf all (searched sought (Some (narrower best x)) spots)) (append_assoc done (x ∷ []) (filter (passes sought) spots)) is
  by_test done best x spots false other is = is

  search_is : (done : List Spot) (best : Option Spot) (spots : List Spot) → IsNarrowestOf done best → IsNarrowestOf (done ++ filter (passes sought) spots) (searched sought best spots)
  search_is done best [] is = subst (λ (all : List Spot). IsNarrowestOf all best) (sym (append-nil done)) is
  search_is done best (x ∷ spots) is =
      by_test done best x spots (passes sought x) (search_is (done ++ x ∷ []) (Some (narrower best x)) spots (better_is done best x is)) (search_is done best spots is)

  pub found_is : (spots : List Spot) (found : Option Spot) → found ≡ searched sought None spots → IsNarrowestOf (filter (passes sought) spots) found
  found_is spots found e = subst (λ (b : Option Spot). IsNarrowestOf (filter (passes sought) spots) b) (sym e) (search_is [] None spots refl)
