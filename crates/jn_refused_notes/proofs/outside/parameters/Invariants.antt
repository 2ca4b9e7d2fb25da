use Rattle.std.proofs.Common.{◌≡◌, ◌++◌, flat_map, drop}
use Rattle.jn_places.specs.PlacedView.{placed_parameters}
use Rattle.jn_refused_notes.specs.Refused.{parameter_refusals}
use Rattle.jn_refused_notes.proofs.outside.parameters.Given as goal

abbrev pub invariant-loop-one : goal.invariant-loop-one
invariant-loop-one l = l.found ++ flat_map parameter_refusals (placed_parameters (drop l.one-index l.declared)) ≡ l.fn.found ++ flat_map parameter_refusals (placed_parameters l.declared)
