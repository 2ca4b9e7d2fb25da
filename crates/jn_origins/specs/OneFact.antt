-- That tables have environments of their bodies is one fact.
use Rattle.std.proofs.Common.{◌≡◌, ℕ, List, [], ◌∷◌, Some, None, ap, ◌∙◌}
use Rattle.std.specs.Prelude.{slice_index_or}
use Rattle.std.specs.Coded.{Unit-prop}
use Rattle.std.proofs.Math.Nat.{ℕ_set}
use Rattle.std.proofs.Math.Path.{fun_ext}
use Rattle.jn_points.specs.declared.program.Program.{Program}
use Rattle.jn_env.specs.Environment.{Env}
use Rattle.jn_env.specs.Order.{Table}
use Rattle.jn_env.specs.Sized.{EnvSized, Sized}
use Rattle.jn_origins.specs.Standing.{AreSized}

env_prop : (P : Program) (b : ℕ) (e : Env) → IsProp (EnvSized P b e)
env_prop P b e = hlevel ℕ_set

table_prop : (P : Program) (b : ℕ) (t : Table) → IsProp (Sized P b t)
table_prop P b [] = Unit-prop
table_prop P b (None ∷ t) = table_prop P b t
table_prop P b (Some e ∷ t) = λ x y. both x y (env_prop P b e x.0 y.0) (table_prop P b t x.1 y.1)
  where
    both : (x y : EnvSized P b e × Sized P b t) → x.0 ≡ y.0 → x.1 ≡ y.1 → x ≡ y
    both x y h i = ap (λ z. (z, x.1)) h ∙ ap (λ z. (y.0, z)) i

pub sized_prop : (P : Program) (tables : List Table) → IsProp (AreSized P tables)
sized_prop P tables = λ f g. fun_ext (λ b. fun_ext (λ lt. table_prop P b (slice_index_or tables b []) (f b lt) (g b lt)))
