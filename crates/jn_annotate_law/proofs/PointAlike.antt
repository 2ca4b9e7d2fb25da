-- Points of programs that are alike stand at the same places.
use Rattle.std.proofs.Common.{◌≡◌, ℕ, zero, suc, List, [], ◌∷◌, Option, Some, None, refl, sym, ap, ◌∙◌}
use Rattle.std.specs.Prelude.{option_map, slice_get}
use Rattle.jn_points.specs.declared.point.Point.{Point}
use Rattle.jn_points.specs.declared.program.Program.{Program}
use Rattle.jn_points.specs.Lookup.{body_at, point_at, points_of}
use Rattle.jn_places_law.specs.Bare.{Alike, bare, bare_point, bare_points}
use Rattle.jn_places_law.proofs.Lookups.{points_is}

module _ (P Q : Program) (a : Alike P Q) where
  at_points : (pts : List Point) (p : ℕ) → slice_get (bare_points pts) p ≡ option_map bare_point (slice_get pts p)
  at_points [] p = refl
  at_points (pt ∷ pts) zero = refl
  at_points (pt ∷ pts) (suc p) = at_points pts p

  point_is : (R : Program) (b p : ℕ) → point_at (bare R) b p ≡ option_map bare_point (point_at R b p)
  point_is R b p = ap (λ pts. slice_get pts p) (points_is R b) ∙ at_points (points_of (body_at R b)) p

  -- a point of P, where it stands in Q
  pub the_point : (b p : ℕ) (x : Point) → point_at P b p ≡ Some x → (y : Point) × (point_at Q b p ≡ Some y) × (bare_point x ≡ bare_point y)
  the_point b p x e = go (point_at Q b p) refl (ap (option_map bare_point) (sym e) ∙ sym (point_is P b p) ∙ ap (λ R. point_at R b p) a ∙ point_is Q b p)
    where
      go : (o : Option Point) → point_at Q b p ≡ o → Some (bare_point x) ≡ option_map bare_point o → (y : Point) × (point_at Q b p ≡ Some y) × (bare_point x ≡ bare_point y)
      go None f g = absurd (let h : ◌≡◌ {A = Option Point} (Some (bare_point x)) None = g in cc)
      go (Some y) f g = (y, f, (let h : ◌≡◌ {A = Option Point} (Some (bare_point x)) (Some (bare_point y)) = g in cc))
