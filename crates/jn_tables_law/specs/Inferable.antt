-- The least table of a body as a function, what the body sends under it, and what inference asks of a program.
use Rattle.std.specs.Prelude.{ℕ, ◌<◌, ◌^◌, List, length}
use Rattle.jn_fixpoint.specs.Climb.{rounds}
use Rattle.jn_quals.specs.Qualifier.{Qualifier}
use Rattle.jn_points.specs.declared.program.Program.{Program}
use Rattle.jn_points.specs.Lookup.{points_of, body_at}
use Rattle.jn_env.specs.Order.{Table}
use Rattle.jn_transfer.specs.Least.{round, start_table}
use Rattle.jn_transfer.specs.Sized.{StaysInside}
use Rattle.jn_contrib.specs.Sends.{body_sends}
use Rattle.jn_tables_law.specs.Size.{height}

module _ (P : Program) (s : List Qualifier) (b : ℕ) where
  -- as many rounds from the entry as can change anything
  unfoldable pub least_table : Table
  least_table = rounds (round P s b) (height P b) (start_table P s b)

  -- what the body sends under it
  unfoldable pub least_sends : List (ℕ × Qualifier)
  least_sends = body_sends P b least_table

-- what inference asks of a program, as each regular one has it: numbers of 32 bits, and bodies whose edges stay in them
pub record IsInferable (P : Program) : Type 0 where
  pub inside : (b : ℕ) → b < length P.bodies → StaysInside P b
  pub short : (b : ℕ) → b < length P.bodies → length (points_of (body_at P b)) < 2 ^ 32
  pub classes : length P.classes < 2 ^ 32
  pub fields : length P.fields < 2 ^ 32
  pub methods : length P.methods < 2 ^ 32
  pub bodies : length P.bodies < 2 ^ 32
  pub slots : length P.slots < 2 ^ 32
