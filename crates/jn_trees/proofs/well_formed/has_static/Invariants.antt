use Rattle.std.proofs.Common.{◌≡◌, drop}
use Rattle.jn_trees.specs.View.{marks}
use Rattle.jn_trees.specs.WellFormed.{has_static}
use Rattle.jn_trees.proofs.well_formed.has_static.Given as goal

abbrev pub invariant-loop-modifier : goal.invariant-loop-modifier
invariant-loop-modifier l = has_static (marks (drop l.modifier-index l.modifiers)) ≡ has_static (marks l.modifiers)
