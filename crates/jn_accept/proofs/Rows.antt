-- Where there are no rows, no rule is broken.
use Rattle.std.proofs.Common.{List, [], ◌∷◌, ◌<◌, length, refl, arith}
use Rattle.std.specs.List.{Contains}
use Rattle.jn_base.specs.declared.place.Row.{Row}
use Rattle.jn_quals.specs.Qualifier.{Qualifier}
use Rattle.jn_points.specs.declared.program.Program.{Program}
use Rattle.jn_transfer.specs.Rules.{Breaks}
use Rattle.jn_accept.specs.Accepting.{AreRowsOf}

pub none_broken : (P : Program) (s : List Qualifier) (rows : List Row) → length rows < 1 → AreRowsOf P s rows → Breaks P s []
none_broken P s rows few are = by are.broken are.breaks are.all
  where
    by : (broken : List Row) → Breaks P s broken → ((row : Row) → Contains broken row → Contains rows row) → Breaks P s []
    by [] breaks all = breaks
    by (row ∷ broken) breaks all = let c = all row (0, omega arith, refl) in let l : c.0 < length rows = c.1 in absurd (omega (arith, l, few))
