-- What holds at each place of a given list.
use Rattle.std.proofs.Common.{◌≡◌, ℕ, zero, suc, inl, inr, List, [], ◌∷◌, Option, Some, None, sym, subst, refl}
use Rattle.std.specs.Prelude.{slice_get}
use Rattle.jn_points.specs.Lookup.{points_of, body_at, point_at}
use Rattle.jn_points.specs.declared.program.Program.{Program}
use Rattle.jn_points.specs.declared.program.Body.{Body}
use Rattle.jn_points.specs.declared.point.Point.{Point}
use Rattle.jn_env.specs.Environment.{Env}
use Rattle.jn_transfer.specs.Transfer.{IsAmong}

abbrev pub Each : {A : Type 0} → (ℕ → A → Type 0) → List A → Type 0
Each Q [] = Unit {0}
Each Q (x ∷ xs) = Q 0 x × Each (λ n. Q (suc n)) xs

pub each_at : {A : Type 0} (Q : ℕ → A → Type 0) (xs : List A) → Each Q xs → (p : ℕ) (x : A) → slice_get xs p ≡ Some x → Q p x
each_at Q [] h p x is = cc
each_at Q (y ∷ xs) h zero x is = let same : y ≡ x = cc in subst (λ z. Q 0 z) same h.0
each_at Q (y ∷ xs) h (suc p) x is = each_at (λ n. Q (suc n)) xs h.1 p x is

pub some_is : {A : Type 0} (R : A → Type 0) (x y : A) → Some x ≡ Some y → R x → R y
some_is R x y is h = let same : x ≡ y = cc in subst R same h

abbrev pub AllOf : (ℕ × Env → Type 0) → List (ℕ × Env) → Type 0
AllOf S [] = Unit {0}
AllOf S (y ∷ ys) = S y × AllOf S ys

pub all_of : (S : ℕ × Env → Type 0) (ys : List (ℕ × Env)) → AllOf S ys → (x : ℕ × Env) → IsAmong x ys → S x
all_of S [] h x is = absurd is
all_of S (y ∷ ys) h x (inl e) = subst S (sym e) h.0
all_of S (y ∷ ys) h x (inr is) = all_of S ys h.1 x is

-- what holds at each point of each body
pub points_each : (P : Program) (R : ℕ → ℕ → Point → Type 0) → Each (λ b x. Each (λ p pt. R b p pt) x.points) P.bodies → (b p : ℕ) (pt : Point) → point_at P b p ≡ Some pt → R b p pt
points_each P R h b p pt is = by (body_at P b) refl
  where
    by : (o : Option Body) → body_at P b ≡ o → R b p pt
    by None ib = absurd (let bad : slice_get (points_of None) p ≡ Some pt = subst (λ o. slice_get (points_of o) p ≡ Some pt) ib is in let k : None ≡ Some pt = bad in cc)
    by (Some x) ib = each_at (λ p pt. R b p pt) x.points (each_at (λ b x. Each (λ p pt. R b p pt) x.points) P.bodies h b x ib) p pt (subst (λ o. slice_get (points_of o) p ≡ Some pt) ib is)
