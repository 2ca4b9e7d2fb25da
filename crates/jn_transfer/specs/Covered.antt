-- Edges by numbers, and edges that others cover.
use Rattle.std.specs.Prelude.{ℕ, List, [], ◌∷◌}
use Rattle.jn_base.specs.declared.number.PointNo.{PointNo}
use Rattle.jn_env.specs.Environment.{Env}
use Rattle.jn_env.specs.Order.{EnvWithin}
use Rattle.jn_transfer.specs.Transfer.{IsAmong}

abbrev pub numbered : List (PointNo × Env) → List (ℕ × Env)
numbered [] = []
numbered (x ∷ xs) = (x.0.0, x.1) ∷ numbered xs

-- one of the edges goes to the same target with an environment that is at least as great
pub record Covered (x : ℕ × Env) (edges : List (ℕ × Env)) : Type 0 where
  pub env : Env
  pub there : IsAmong (x.0, env) edges
  pub above : EnvWithin x.1 env
