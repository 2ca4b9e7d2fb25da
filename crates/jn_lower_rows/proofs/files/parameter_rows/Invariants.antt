use Rattle.std.proofs.Common.{◌≡◌, ◌++◌, drop}
use Rattle.jn_lowering.specs.FileRows as spec
use Rattle.jn_places.specs.PlacedView.{placed_parameters}
use Rattle.jn_lower_rows.proofs.files.parameter_rows.Given as goal

abbrev pub invariant-loop-parameter : goal.invariant-loop-parameter
invariant-loop-parameter l = l.rows ++ spec.parameter_rows (placed_parameters (drop l.parameter-index l.parameters)) ≡ l.fn.rows ++ spec.parameter_rows (placed_parameters l.parameters)
