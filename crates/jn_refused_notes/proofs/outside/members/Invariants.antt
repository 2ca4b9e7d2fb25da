use Rattle.std.proofs.Common.{◌≡◌, ◌++◌, flat_map, drop}
use Rattle.jn_places.specs.PlacedView.{placed_members}
use Rattle.jn_refused_notes.specs.Refused.{member_refusals}
use Rattle.jn_refused_notes.proofs.outside.members.Given as goal

abbrev pub invariant-loop-tree : goal.invariant-loop-tree
invariant-loop-tree l = l.found ++ flat_map (member_refusals l.interface) (placed_members (drop l.tree-index l.trees)) ≡ l.fn.found ++ flat_map (member_refusals l.interface) (placed_members l.trees)
