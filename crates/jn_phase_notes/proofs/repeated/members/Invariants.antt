use Rattle.std.proofs.Common.{◌≡◌, ◌++◌, flat_map, drop}
use Rattle.jn_places.specs.PlacedView.{placed_members}
use Rattle.jn_phase_notes.specs.Earlier.{member_seconds}
use Rattle.jn_phase_notes.proofs.repeated.members.Given as goal

abbrev pub invariant-loop-tree : goal.invariant-loop-tree
invariant-loop-tree l = l.found ++ flat_map member_seconds (placed_members (drop l.tree-index l.trees)) ≡ l.fn.found ++ flat_map member_seconds (placed_members l.trees)
