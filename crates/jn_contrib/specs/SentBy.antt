-- What a reached point of a body sends.
use Rattle.std.specs.Prelude.{ℕ, ◌≡◌, Some}
use Rattle.jn_quals.specs.Qualifier.{Qualifier}
use Rattle.jn_points.specs.declared.point.Point.{Point}
use Rattle.jn_points.specs.declared.program.Program.{Program}
use Rattle.jn_points.specs.Lookup.{point_at}
use Rattle.jn_env.specs.Environment.{Env}
use Rattle.jn_env.specs.Order.{Table, env_in}
use Rattle.jn_transfer.specs.Contributions.{IsSent, kind_sends}

pub record IsSentBy (P : Program) (b : ℕ) (t : Table) (x : ℕ × Qualifier) : Type 0 where
  pub place : ℕ
  pub point : Point
  pub env : Env
  pub there : point_at P b place ≡ Some point
  pub reached : env_in t place ≡ Some env
  pub sent : IsSent x (kind_sends P b env point.kind)
