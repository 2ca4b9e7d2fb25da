-- What is known at a point of a body.
use Rattle.std.specs.Prelude.{Bool, List}
use Rattle.jn_quals.specs.Qualifier.{Qualifier}

-- a qualifier for each register, for each key whether its field is known not to be null, and for each of a
-- constructor's own fields whether it is assigned
pub record Env : Type 0 where
  pub quals : List Qualifier
  pub facts : List Bool
  pub assigned : List Bool
