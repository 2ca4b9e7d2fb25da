-- The rows by which a program is accepted or not.
use Rattle.std.specs.Prelude.{List}
use Rattle.std.specs.List.{Contains}
use Rattle.jn_base.specs.declared.place.Row.{Row}
use Rattle.jn_quals.specs.Qualifier.{Qualifier}
use Rattle.jn_points.specs.declared.program.Program.{Program}
use Rattle.jn_transfer.specs.Rules.{Breaks}

module _ (P : Program) (s : List Qualifier) where
  -- the rows of the rules under the least tables, in any order, and each as often as one likes
  pub record AreRowsOf (rows : List Row) : Type 0 where
    pub broken : List Row
    pub breaks : Breaks P s broken
    pub each : (row : Row) → Contains rows row → Contains broken row
    pub all : (row : Row) → Contains broken row → Contains rows row
