-- The read of a field by which a chain leaves its first registers.
use Rattle.std.proofs.Common.{◌≡◌, ⊎_elim, ℕ, ◌<◌, Bool, true, false, cond, eqb, List, [], ◌∷◌, length, Option, Some, None, refl, sym, ap, subst}
use Rattle.std.specs.Prelude.{slice_get}
use Rattle.std.proofs.lemmas.Option.{slice_get_within}
use Rattle.jn_points.specs.declared.point.Point.{Point}
use Rattle.jn_points.specs.declared.point.PointKind.{PointKind}
use Rattle.jn_points.specs.declared.point.PointKind.TheVariants.{FieldRead}
use Rattle.jn_points.specs.declared.program.Body.{Body}
use Rattle.jn_points.specs.declared.program.Program.{Program}
use Rattle.jn_points.specs.Lookup.{point_at, points_of}
use Rattle.jn_reasons_law.specs.declared.item.Bit.TheVariants.{Nullable, Committed, Free}
use Rattle.jn_reasons_law.specs.declared.item.Item.{Item}
use Rattle.jn_reasons_law.specs.declared.item.Item.TheVariants.{AtSlot, AtRegister}
use Rattle.jn_reasons_law.specs.declared.item.Place.{Place}
use Rattle.jn_reasons_law.specs.declared.item.Place.TheVariants.{OfSlot, OfMethod, OfBody, OfPoint}
use Rattle.jn_reasons_law.specs.declared.item.Step.{Step}
use Rattle.jn_note_words.specs.declared.leaving.ReadAt.{ReadAt}
use Rattle.jn_note_words.specs.Leaving.{goes_on, read_at, read_by, read_from, read_in}
use Rattle.jn_notes.proofs.Standing.{split_or}

never : (x : ReadAt) → None ≡ Some x → ⊥
never x e = absurd cc

cond_there : (c : Bool) (x : Option ReadAt) (r : ReadAt) → cond c x None ≡ Some r → x ≡ Some r
cond_there true x r e = e
cond_there false x r e = absurd (never r e)

-- ---- the body of a read

by_body : (c : Bool) (x y : ReadAt) → cond c (Some x) None ≡ Some y → y.body ≡ x.body
by_body true x y e = let same : x ≡ y = cc in ap (λ (z : ReadAt). z.body) (sym same)
by_body false x y e = absurd (never y e)

read_by_body : (b p r : ℕ) (k : PointKind) (x : ReadAt) → read_by b p r k ≡ Some x → x.body ≡ b
read_by_body b p r (FieldRead dst object f) x e = by_body (eqb dst.0 r) (record { body = b; point = p; object = object.reg.0; field = f.0 }) x e
read_by_body b p r k x e = absurd (never x e)

module _ (P : Program) where
  body_there : (o : Option Body) (q : ℕ) (pt : Point) → slice_get (points_of o) q ≡ Some pt → o ≡ None → ⊥
  body_there None q pt e is = let clash : None ≡ Some pt = e in absurd cc
  body_there (Some body) q pt e is = absurd cc

  point_inside : (c q : ℕ) (pt : Point) → point_at P c q ≡ Some pt → c < length P.bodies
  point_inside c q pt e = by (slice_get P.bodies c) refl
    where
      by : (o : Option Body) → slice_get P.bodies c ≡ o → c < length P.bodies
      by None is = absurd (body_there (slice_get P.bodies c) q pt e is)
      by (Some body) is = slice_get_within P.bodies c body is

  at_inside : (c q r : ℕ) (o : Option Point) (x : ReadAt) → point_at P c q ≡ o → read_at c q r o ≡ Some x → x.body < length P.bodies
  at_inside c q r None x is e = absurd (never x e)
  at_inside c q r (Some pt) x is e = subst (λ n. n < length P.bodies) (sym (read_by_body c q r pt.kind x e)) (point_inside c q pt is)

  from_inside : (item : Item) (place : Place) (x : ReadAt) → read_from P item place ≡ Some x → x.body < length P.bodies
  from_inside (AtRegister b p r Nullable) (OfPoint c q) x e = at_inside c q r (point_at P c q) x refl e
  from_inside (AtRegister b p r Nullable) (OfSlot k) x e = absurd (never x e)
  from_inside (AtRegister b p r Nullable) (OfMethod m) x e = absurd (never x e)
  from_inside (AtRegister b p r Nullable) (OfBody c) x e = absurd (never x e)
  from_inside (AtRegister b p r Committed) place x e = absurd (never x e)
  from_inside (AtRegister b p r Free) place x e = absurd (never x e)
  from_inside (AtSlot k bit) place x e = absurd (never x e)

  -- a chain's read is in a body that is there
  pub read_inside : (steps : List Step) (x : ReadAt) → read_in P steps ≡ Some x → x.body < length P.bodies
  read_inside [] x e = absurd (never x e)
  read_inside (step ∷ steps) x e =
      ⊎_elim (λ h. from_inside step.item step.place x h) (λ h. read_inside steps x (cond_there (goes_on step) (read_in P steps) x h))
      (split_or (read_from P step.item step.place) (cond (goes_on step) (read_in P steps) None) x e)
