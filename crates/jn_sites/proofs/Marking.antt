-- The points of each place, value by value and point by point.
use Rattle.std.proofs.Common.{◌≡◌, ℕ, ◌+◌, ◌<◌, ◌≤◌, List, [], ◌∷◌, ◌++◌, length, take, Option, Some, zero, suc, refl, sym, ap, ◌∙◌, subst, arith}
use Rattle.std.specs.Prelude.{slice_get, slice_index_or}
use Rattle.std.proofs.lemmas.List.{append_assoc, append-nil, take_more, take_all}
use Rattle.jn_base.specs.declared.place.Span.{Span}
use Rattle.jn_points.specs.declared.point.Operand.{Operand}
use Rattle.jn_points.specs.declared.point.Point.{Point}
use Rattle.jn_points.specs.declared.program.Program.{Program}
use Rattle.jn_points.specs.Lookup.{body_at, point_at, points_of}
use Rattle.jn_reasons.specs.declared.sources.Spot.{Spot}
use Rattle.jn_sites.specs.Marks.{asked, marks, point_marks, spot_of}
use Rattle.jn_sites.specs.Sites.{Key, Adds, at_place}
use Rattle.jn_sites.proofs.Siting.{alike, both}

there : (A : Type 0) (xs : List A) (i : ℕ) (d : A) → i < length xs → slice_get xs i ≡ Some (slice_index_or xs i d)
there A [] i d lt = absurd (omega (arith, lt))
there A (x ∷ xs) zero d lt = refl
there A (x ∷ xs) (suc i) d lt = there A xs i d (omega (arith, lt))

pub marks_append : (spot : Spot) (xs ys : List Operand) (z : Span) → marks spot xs z ++ marks spot ys z ≡ marks spot (xs ++ ys) z
marks_append spot [] ys z = refl
marks_append spot (x ∷ xs) ys z =
    append_assoc (at_place Spot x.span spot z) (marks spot xs z) (marks spot ys z)
    ∙ ap (λ (l : List Spot). at_place Spot x.span spot z ++ l) (marks_append spot xs ys z)

-- two lists of values
pub both_lists : (spot : Spot) (xs ys : List Operand) (old mid new : List (Key × List Spot)) → Adds Spot (marks spot xs) old mid → Adds Spot (marks spot ys) mid new → Adds Spot (marks spot (xs ++ ys)) old new
both_lists spot xs ys old mid new h i = alike Spot (λ z. marks spot xs z ++ marks spot ys z) (marks spot (xs ++ ys)) old new (marks_append spot xs ys) (both Spot (marks spot xs) (marks spot ys) old mid new h i)

-- a value more
pub value_more : (spot : Spot) (values : List Operand) (i : ℕ) (d : Operand) (first old new : List (Key × List Spot)) → i < length values
    → Adds Spot (marks spot (take i values)) first old → Adds Spot (at_place Spot (slice_index_or values i d).span spot) old new → Adds Spot (marks spot (take (i + 1) values)) first new
value_more spot values i d first old new lt h g =
    let v = slice_index_or values i d in
    subst (λ (l : List Operand). Adds Spot (marks spot l) first new) (sym (take_more values i d lt))
    (both_lists spot (take i values) (v ∷ []) first old new h
    (alike Spot (at_place Spot v.span spot) (marks spot (v ∷ [])) old new (λ z. sym (append-nil (at_place Spot v.span spot z))) g))

pub values_done : (spot : Spot) (values : List Operand) (i : ℕ) (first old : List (Key × List Spot)) → length values ≤ i → Adds Spot (marks spot (take i values)) first old → Adds Spot (marks spot values) first old
values_done spot values i first old le h = subst (λ (l : List Operand). Adds Spot (marks spot l) first old) (take_all i values le) h

-- the point that stands there
pub of_point : (P : Program) (b : ℕ) (points : List Point) (i : ℕ) (d : Point) (old new : List (Key × List Spot)) → points ≡ points_of (body_at P b) → i < length points
    → Adds Spot (marks (spot_of b i) (asked (slice_index_or points i d).kind)) old new → Adds Spot (λ z. point_marks (spot_of b i) (point_at P b i) z) old new
of_point P b points i d old new is lt h =
    alike Spot (marks (spot_of b i) (asked (slice_index_or points i d).kind)) (λ z. point_marks (spot_of b i) (point_at P b i) z) old new
    (λ z. ap (λ (o : Option Point). point_marks (spot_of b i) o z) (sym (there Point points i d lt) ∙ ap (λ (l : List Point). slice_get l i) is)) h
