-- Programs that are alike, by their one bare program.
use Rattle.std.proofs.Common.{◌≡◌, ℕ, List, Option, sym, ap, ◌∙◌, subst}
use Rattle.jn_quals.specs.Qualifier.{Qualifier}
use Rattle.jn_points.specs.declared.point.Point.{Point}
use Rattle.jn_points.specs.declared.program.Program.{Program}
use Rattle.jn_points.specs.Lookup.{method_in}
use Rattle.jn_env.specs.Environment.{Env}
use Rattle.jn_env.specs.Order.{Table}
use Rattle.jn_transfer.specs.Least.{IsLeastTable}
use Rattle.jn_transfer.specs.Rules.{ctor_rows, pair_rows, rows, rows_at}
use Rattle.jn_places_law.specs.Bare.{bare, Alike, bare_point, codes_of}
use Rattle.jn_places_law.proofs.Flow.{least_bare, least_full}
use Rattle.jn_places_law.proofs.Rules.{point_same, ctor_same, pair_same, rows_same}

module _ (P Q : Program) (s : List Qualifier) where
  pub tables : (b : ℕ) (t : Table) → Alike P Q → IsLeastTable P s b t → IsLeastTable Q s b t
  tables b t a h = least_full Q s b t (subst (λ R. IsLeastTable R s b t) a (least_bare P s b t h))

  pub points : (b : ℕ) (p q : Point) (e : Option Env) → Alike P Q → bare_point p ≡ bare_point q → codes_of (rows_at P s b p e) ≡ codes_of (rows_at Q s b q e)
  points b p q e a h = sym (point_same P s b p e) ∙ ap (λ R. codes_of (rows_at R s b (bare_point p) e)) a ∙ ap (λ x. codes_of (rows_at (bare Q) s b x e)) h ∙ point_same Q s b q e

  pub constructors : (b : ℕ) (t : Table) → Alike P Q → codes_of (ctor_rows P s b (method_in P b) t) ≡ codes_of (ctor_rows Q s b (method_in Q b) t)
  constructors b t a = sym (ctor_same P s b t) ∙ ap (λ R. codes_of (ctor_rows R s b (method_in R b) t)) a ∙ ctor_same Q s b t

  pub pairs : (m k : ℕ) → Alike P Q → codes_of (pair_rows P s m k) ≡ codes_of (pair_rows Q s m k)
  pairs m k a = sym (pair_same P s m k) ∙ ap (λ R. codes_of (pair_rows R s m k)) a ∙ pair_same Q s m k

  pub all : (tables : List (List (Option Env))) → Alike P Q → codes_of (rows P s tables) ≡ codes_of (rows Q s tables)
  all tables a = sym (rows_same P s tables) ∙ ap (λ R. codes_of (rows R s tables)) a ∙ rows_same Q s tables
