-- Regular programs can be inferred.
use Rattle.std.proofs.Common.{◌≡◌, ℕ, zero, suc, ◌-◌, ◌<◌, ◌^◌, List, [], ◌∷◌, length, Some, refl, subst, sym, ap, arith}
use Rattle.std.specs.Prelude.{slice_get}
use Rattle.jn_points.specs.declared.program.Body.{Body}
use Rattle.jn_points.specs.declared.program.Program.{Program}
use Rattle.jn_points.specs.Lookup.{body_at, points_of}
use Rattle.jn_points.specs.Regular.{Regular}
use Rattle.jn_transfer.specs.Sized.{StaysInside}
use Rattle.jn_tables_law.specs.Inferable.{IsInferable}

there : (b : ℕ) (bodies : List Body) → b < length bodies → (x : Body) × (slice_get bodies b ≡ Some x)
there b [] lt = absurd (omega (arith, lt))
there zero (x ∷ bodies) lt = (x, refl)
there (suc b) (x ∷ bodies) lt = there b bodies (omega (arith, lt))

module _ (P : Program) (r : Regular P) where
  inside : (b : ℕ) → b < length P.bodies → StaysInside P b
  inside b lt =
      let x = there b P.bodies lt in
      let body = r.bodies b x.0 x.1 in
      let points : points_of (body_at P b) ≡ x.0.points = ap points_of x.1 in
      record {
        some = subst (λ pts. 0 < length pts) (sym points) body.some;
        edges = λ p pt at. (body.points p pt at).inside;
      }

  pub regular_inferable : IsInferable P
  regular_inferable = record {
    inside = inside;
    short = λ b lt. let x = there b P.bodies lt in let body = r.bodies b x.0 x.1 in subst (λ o. length (points_of o) < 2 ^ 32) (sym x.1) body.few;
    classes = r.few.classes;
    fields = r.few.fields;
    methods = r.few.methods;
    bodies = r.few.bodies;
    slots = r.few.slots;
  }

-- from tests of each body
pub tested_inferable : (P : Program) → length P.classes < 2 ^ 32 → length P.fields < 2 ^ 32 → length P.methods < 2 ^ 32 → length P.bodies < 2 ^ 32 → length P.slots < 2 ^ 32 → ((b : ℕ) → b < length P.bodies → StaysInside P b × (length (points_of (body_at P b)) < 2 ^ 32 - 1)) → IsInferable P
tested_inferable P c f m b s h = record {
  inside = λ n lt. (h n lt).0;
  short = λ n lt. let k = (h n lt).1 in omega (arith, k);
  classes = c;
  fields = f;
  methods = m;
  bodies = b;
  slots = s;
}
