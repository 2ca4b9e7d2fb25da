-- The rows of all bodies and overriding pairs.
use Rattle.std.specs.Prelude.{ℕ, List}
use Rattle.jn_base.specs.declared.place.Row.{Row}
use Rattle.jn_quals.specs.Qualifier.{Qualifier}
use Rattle.jn_points.specs.declared.program.Program.{Program}
use Rattle.jn_diag.specs.Order.{IsOrderOf}
use Rattle.jn_transfer.specs.Rules.{Breaks, body_rows}
use Rattle.jn_tables_law.specs.Inferable.{least_table}

module _ (P : Program) (s : List Qualifier) where
  -- a body's, under its least table
  unfoldable pub least_rows : ℕ → List Row
  least_rows b = body_rows P s b (least_table P s b)

  -- the rows of all broken rules, in order
  pub record AreBroken (rows : List Row) : Type 0 where
    pub all : List Row
    pub broken : Breaks P s all
    pub ordered : IsOrderOf all rows
