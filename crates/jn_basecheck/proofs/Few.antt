-- Each body of a regular program has a point, and its points have numbers.
use Rattle.std.proofs.Common.{◌≡◌, ℕ, zero, suc, ◌<◌, ◌^◌, arith, List, [], ◌∷◌, length, slice_get, Option, Some, None, refl}
use Rattle.jn_points.specs.declared.program.Body.{Body}
use Rattle.jn_points.specs.declared.program.Program.{Program}
use Rattle.jn_points.specs.Lookup.{body_at, points_of}
use Rattle.jn_points.specs.Regular.{Regular}

few_in : (P : Program) → Regular P → (b : ℕ) (o : Option Body) → body_at P b ≡ o → length (points_of o) < 2 ^ 32
few_in P R b None e = omega arith
few_in P R b (Some x) e = (R.bodies b x e).few

pub few_points : (P : Program) → Regular P → (b : ℕ) → length (points_of (body_at P b)) < 2 ^ 32
few_points P R b = few_in P R b (body_at P b) refl

none_there : {X : Type 0} (xs : List X) (i : ℕ) → i < length xs → slice_get xs i ≡ None → ⊥
none_there [] i lt e = omega (arith, lt)
none_there (x ∷ xs) zero lt e = cc
none_there (x ∷ xs) (suc i) lt e = none_there xs i (omega (arith, lt)) e

some_in : (P : Program) → Regular P → (b : ℕ) → b < length P.bodies → (o : Option Body) → body_at P b ≡ o → 0 < length (points_of o)
some_in P R b lt None e = absurd (none_there P.bodies b lt e)
some_in P R b lt (Some x) e = (R.bodies b x e).some

pub some_points : (P : Program) → Regular P → (b : ℕ) → b < length P.bodies → 0 < length (points_of (body_at P b))
some_points P R b lt = some_in P R b lt (body_at P b) refl
