use Rattle.std.proofs.Common.{List, drop}
use Rattle.jn_base.specs.declared.place.Row.{Row}
use Rattle.jn_places.specs.PlacedView.{placed_statements}
use Rattle.jn_lower_rows.specs.declared.standing.Names.{Names}
use Rattle.jn_lower_rows.specs.Standing.{WellKept}
use Rattle.jn_lower_rows.specs.Views.{setting_of}
use Rattle.jn_lower_rows.proofs.Stepping.{WalksAll}
use Rattle.jn_lower_rows.proofs.statements.+stepping.Given as goal

abbrev pub invariant-statements-loop-tree : goal.invariant-statements-loop-tree
invariant-statements-loop-tree l = WellKept l.names × ((last : Names) (z : List Row) → WalksAll l.place.program.now l.place.class.0 (setting_of l.place.at) (placed_statements (drop l.tree-index l.trees)) l.names last l.rows z → WalksAll l.place.program.now l.place.class.0 (setting_of l.place.at) (placed_statements l.trees) l.fn.names last l.fn.rows z)
