use Rattle.std.proofs.Common.{◌≡◌, ◌++◌, drop}
use Rattle.jn_places.specs.PlacedView.{placed_views}
use Rattle.jn_refused_notes.specs.Refused.{refusals_of_all}
use Rattle.jn_refused_notes.proofs.forms.+refusing.Given as goal

abbrev pub invariant-all-loop-tree : goal.invariant-all-loop-tree
invariant-all-loop-tree l = l.found ++ refusals_of_all (placed_views (drop l.tree-index l.trees)) ≡ l.fn.found ++ refusals_of_all (placed_views l.trees)
