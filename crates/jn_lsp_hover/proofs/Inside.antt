-- A point that is there is one of a body that is there.
use Rattle.std.proofs.Common.{◌≡◌, ℕ, zero, suc, ◌+◌, ◌^◌, ◌<◌, Bool, true, List, [], ◌∷◌, length, Some, ap, ◌∙◌, sym, arith}
use Rattle.std.specs.Prelude.{slice_get}
use Rattle.std.proofs.lemmas.Bool.{false≢true}
use Rattle.std.proofs.lemmas.Option.{none-some}
use Rattle.jn_points.specs.declared.point.BaseType.{BaseType}
use Rattle.jn_points.specs.declared.point.Point.{Point}
use Rattle.jn_points.specs.declared.program.Body.{Body}
use Rattle.jn_points.specs.declared.program.Program.{Program}
use Rattle.jn_points.specs.Lookup.{base_in, body_at, is_ref_base, point_at, points_of, reg_base}
use Rattle.jn_tables_law.specs.Inferable.{IsInferable}

is_inside : {X : Type 0} (xs : List X) (i : ℕ) (x : X) → slice_get xs i ≡ Some x → i < length xs
is_inside [] i x e = absurd (none-some x e)
is_inside (y ∷ xs) zero x e = omega arith
is_inside (y ∷ xs) (suc i) x e = let h = is_inside xs i x e in omega (arith, h)

in_body : (bodies : List Body) (b p : ℕ) (pt : Point) → slice_get (points_of (slice_get bodies b)) p ≡ Some pt → b < length bodies
in_body [] b p pt e = absurd (none-some pt e)
in_body (body ∷ bodies) zero p pt e = omega arith
in_body (body ∷ bodies) (suc b) p pt e = let h = in_body bodies b p pt e in omega (arith, h)

pub body_inside : (P : Program) (b p : ℕ) (pt : Point) → point_at P b p ≡ Some pt → b < length P.bodies
body_inside P b p pt e = in_body P.bodies b p pt e

pub point_small : (P : Program) (b p : ℕ) (pt : Point) → IsInferable P → point_at P b p ≡ Some pt → p + 1 < 2 ^ 32
point_small P b p pt inferable e =
    let few = inferable.short b (body_inside P b p pt e) in
    let inside = is_inside (points_of (body_at P b)) p pt e in
    omega (arith, few, inside)

-- so is a register of reference type
in_bodies : (bodies : List Body) (b r : ℕ) → is_ref_base (base_in (slice_get bodies b) r) ≡ true → b < length bodies
in_bodies [] b r e = absurd (false≢true e)
in_bodies (body ∷ bodies) zero r e = omega arith
in_bodies (body ∷ bodies) (suc b) r e = let h = in_bodies bodies b r e in omega (arith, h)

pub ref_inside : (P : Program) (b r : ℕ) (base : BaseType) (is : Bool) → base ≡ reg_base P b r → is ≡ is_ref_base base → is ≡ true → b < length P.bodies
ref_inside P b r base is at tested yes_it = in_bodies P.bodies b r (sym (tested ∙ ap is_ref_base at) ∙ yes_it)
