use Rattle.std.proofs.Common.{◌≡◌, ◌≤◌, [], drop, length}
use Rattle.jn_places.specs.PlacedView.{placed_parameters}
use Rattle.jn_lowering.specs.Locals.{parameters_from}
use Rattle.jn_scopes.specs.Views.{scope_of}
use Rattle.jn_lower_rows.specs.Standing.{AllWithin, plain}
use Rattle.jn_lower_rows.proofs.entry.parameter_scope.Given as goal

abbrev pub invariant-loop-left : goal.invariant-loop-left
invariant-loop-left l = (l.left ≤ length l.parameters) × (l.left ≤ length l.bases) × (scope_of [] l.scope ≡ plain (parameters_from 0 (placed_parameters (drop l.left l.parameters)) (drop l.left l.bases))) × AllWithin 0 l.scope

abbrev pub decreases-loop-left : goal.decreases-loop-left
decreases-loop-left l = l.left
