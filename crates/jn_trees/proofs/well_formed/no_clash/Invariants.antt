use Rattle.std.proofs.Common.{◌≡◌, drop}
use Rattle.jn_trees.specs.View.{marks}
use Rattle.jn_trees.specs.WellFormed.{no_clash}
use Rattle.jn_trees.specs.Clear.{clear}
use Rattle.jn_trees.proofs.well_formed.no_clash.Given as goal

abbrev pub invariant-loop-modifier : goal.invariant-loop-modifier
invariant-loop-modifier l = clear l.words (marks (drop l.modifier-index l.modifiers)) ≡ no_clash (marks l.modifiers)
