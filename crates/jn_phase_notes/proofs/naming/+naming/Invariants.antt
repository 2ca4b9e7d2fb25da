use Rattle.std.proofs.Common.{◌≡◌, ◌++◌, drop}
use Rattle.jn_places.specs.PlacedView.{placed_statements}
use Rattle.jn_phase_notes.specs.Mentions.{statements_mentions}
use Rattle.jn_phase_notes.proofs.naming.+naming.Given as goal

abbrev pub invariant-statements-loop-tree : goal.invariant-statements-loop-tree
invariant-statements-loop-tree l = l.found ++ statements_mentions l.within.own l.within.parent (placed_statements (drop l.tree-index l.trees)) ≡ l.fn.found ++ statements_mentions l.within.own l.within.parent (placed_statements l.trees)
