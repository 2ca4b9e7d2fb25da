-- Edges whose environments and targets are of a body.
use Rattle.std.specs.Prelude.{ℕ, ◌<◌, List}
use Rattle.jn_points.specs.declared.program.Program.{Program}
use Rattle.jn_env.specs.Environment.{Env}
use Rattle.jn_transfer.specs.Transfer.{IsAmong}
use Rattle.jn_env.specs.Sized.{EnvSized}

pub record EdgeFits (P : Program) (b n : ℕ) (x : ℕ × Env) : Type 0 where
  pub size : EnvSized P b x.1
  pub target : x.0 < n

abbrev pub AllFit : Program → ℕ → ℕ → List (ℕ × Env) → Type 0
AllFit P b n xs = (x : ℕ × Env) → IsAmong x xs → EdgeFits P b n x
