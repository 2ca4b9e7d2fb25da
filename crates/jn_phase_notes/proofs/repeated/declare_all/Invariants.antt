use Rattle.std.proofs.Common.{◌≡◌, drop, map}
use Rattle.jn_places.specs.PlacedView.{placed_parameters}
use Rattle.jn_phase_notes.specs.Earlier.{parameter_name, with_names}
use Rattle.jn_phase_notes.proofs.repeated.declare_all.Given as goal

abbrev pub invariant-loop-parameter : goal.invariant-loop-parameter
invariant-loop-parameter l = with_names l.scope (map parameter_name (placed_parameters (drop l.parameter-index l.parameters))) ≡ with_names l.fn.scope (map parameter_name (placed_parameters l.parameters))
