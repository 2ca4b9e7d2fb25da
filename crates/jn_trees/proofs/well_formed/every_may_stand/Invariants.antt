use Rattle.std.proofs.Common.{◌≡◌, drop}
use Rattle.jn_trees.specs.View.{marks}
use Rattle.jn_trees.specs.WellFormed.{every}
use Rattle.jn_trees.specs.Bearers.{may}
use Rattle.jn_trees.proofs.well_formed.every_may_stand.Given as goal

abbrev pub invariant-loop-modifier : goal.invariant-loop-modifier
invariant-loop-modifier l = every (may l.bearer) (marks (drop l.modifier-index l.modifiers)) ≡ every (may l.bearer) (marks l.modifiers)
