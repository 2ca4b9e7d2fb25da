use Rattle.std.proofs.Common.{◌≡◌, ◌++◌, drop}
use Rattle.jn_places.specs.PlacedView.{placed_statements}
use Rattle.jn_refused_notes.specs.Refused.{statements_refusals}
use Rattle.jn_refused_notes.proofs.bodies.+stating.Given as goal

abbrev pub invariant-statements-loop-tree : goal.invariant-statements-loop-tree
invariant-statements-loop-tree l = l.found ++ statements_refusals (placed_statements (drop l.tree-index l.trees)) ≡ l.fn.found ++ statements_refusals (placed_statements l.trees)
