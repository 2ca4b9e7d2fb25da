use Rattle.std.proofs.Common.{◌≡◌, ◌++◌, flat_map, drop}
use Rattle.jn_places.specs.PlacedView.{placed_declarators}
use Rattle.jn_phase_notes.specs.Mentions.{declarator_mentions}
use Rattle.jn_phase_notes.proofs.naming.declarators.Given as goal

abbrev pub invariant-loop-one : goal.invariant-loop-one
invariant-loop-one l = l.found ++ flat_map declarator_mentions (placed_declarators (drop l.one-index l.declared)) ≡ l.fn.found ++ flat_map declarator_mentions (placed_declarators l.declared)
