-- Tables of a body, and what bounds their rounds.
use Rattle.std.specs.Prelude.{ℕ, ◌+◌, ◌*◌, ◌≡◌, length}
use Rattle.jn_points.specs.declared.program.Program.{Program}
use Rattle.jn_points.specs.Lookup.{points_of, regs_of, body_at}
use Rattle.jn_env.specs.Order.{Table}
use Rattle.jn_env.specs.Keys.{fact_keys, own_keys}
use Rattle.jn_env.specs.Sized.{Sized}

-- a place for each point of the body, with environments of the body
pub record IsTableOf (P : Program) (b : ℕ) (t : Table) : Type 0 where
  pub long : length t ≡ length (points_of (body_at P b))
  pub sized : Sized P b t

-- the greatest weight of a table of the body
abbrev pub height : Program → ℕ → ℕ
height P b = length (points_of (body_at P b)) * (3 * regs_of (body_at P b) + length (fact_keys P b) + length (own_keys P b) + 1)
