use Rattle.std.proofs.Common.{◌≡◌, List, Option, drop}
use Rattle.jn_base.specs.declared.place.Row.{Row}
use Rattle.jn_quals.specs.Qualifier.{Qualifier}
use Rattle.jn_places.specs.PlacedView.{placed_declarators}
use Rattle.jn_scopes.specs.Views.{faults_of}
use Rattle.jn_lower_rows.specs.declared.standing.Names.{Names}
use Rattle.jn_lower_rows.specs.Standing.{WellKept}
use Rattle.jn_lower_rows.specs.Views.{setting_of}
use Rattle.jn_lower_rows.proofs.Stepping.{WalksNames}
use Rattle.jn_lower_rows.proofs.statements.declarators.Given as goal

abbrev pub invariant-loop-declared : goal.invariant-loop-declared
invariant-loop-declared l = (l.names.faults.items ≡ l.fn.names.faults.items) × (WellKept l.names × ((b : Option Qualifier) (last : Names) (z : List Row) → WalksNames l.place.program.now l.place.class.0 (setting_of l.place.at) l.base l.is_final (faults_of l.fn.names.faults.items l.faults) b (placed_declarators (drop l.declared-index l.more)) l.names last l.rows z → WalksNames l.place.program.now l.place.class.0 (setting_of l.place.at) l.base l.is_final (faults_of l.fn.names.faults.items l.faults) b (placed_declarators l.more) l.fn.names last l.fn.rows z))
