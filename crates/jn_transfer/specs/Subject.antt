-- What an analysis is of.
use Rattle.std.specs.Prelude.{ℕ, List}
use Rattle.jn_quals.specs.Qualifier.{Qualifier}
use Rattle.jn_points.specs.declared.program.Program.{Program}

-- a body of a program, under a signature
pub record Subject : Type 0 where
  pub program : Program
  pub sig : List Qualifier
  pub body : ℕ
