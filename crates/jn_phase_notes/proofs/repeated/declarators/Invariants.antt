use Rattle.std.proofs.Common.{◌≡◌, ◌++◌, drop, map}
use Rattle.jn_places.specs.PlacedView.{placed_declarators}
use Rattle.jn_phase_notes.specs.Earlier.{declared_name, seconds_among, with_names}
use Rattle.jn_phase_notes.proofs.repeated.declarators.Given as goal

abbrev pub invariant-loop-one : goal.invariant-loop-one
invariant-loop-one l = (with_names l.scope (map declared_name (placed_declarators (drop l.one-index l.declared))) ≡ with_names l.fn.scope (map declared_name (placed_declarators l.declared))) × (l.found ++ seconds_among l.scope (map declared_name (placed_declarators (drop l.one-index l.declared))) ≡ l.fn.found ++ seconds_among l.fn.scope (map declared_name (placed_declarators l.declared)))
