use Rattle.std.proofs.Common.{◌≡◌, ◌++◌, map, drop}
use Rattle.jn_places.specs.PlacedView.{placed_parameters}
use Rattle.jn_heads.specs.Extract as spec
use Rattle.jn_heads.proofs.extract.param_heads.Given as goal

abbrev pub invariant-loop-parameter : goal.invariant-loop-parameter
invariant-loop-parameter l = l.heads ++ map (spec.param_head) (placed_parameters (drop l.parameter-index l.parameters)) ≡ map (spec.param_head) (placed_parameters l.parameters)
