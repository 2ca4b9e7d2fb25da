use Rattle.std.proofs.Common.{◌≡◌, ◌++◌, flat_map, drop}
use Rattle.jn_places.specs.PlacedView.{placed_declarators}
use Rattle.jn_refused_notes.specs.Refused.{declarator_refusals}
use Rattle.jn_refused_notes.proofs.bodies.declarators.Given as goal

abbrev pub invariant-loop-one : goal.invariant-loop-one
invariant-loop-one l = l.found ++ flat_map declarator_refusals (placed_declarators (drop l.one-index l.declared)) ≡ l.fn.found ++ flat_map declarator_refusals (placed_declarators l.declared)
