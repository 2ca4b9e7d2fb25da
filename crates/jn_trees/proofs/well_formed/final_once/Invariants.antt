use Rattle.std.proofs.Common.{◌≡◌, drop, cond}
use Rattle.jn_trees.specs.View.{local_marks}
use Rattle.jn_trees.specs.WellFormed.{final_once, no_final}
use Rattle.jn_trees.proofs.well_formed.final_once.Given as goal

abbrev pub invariant-loop-modifier : goal.invariant-loop-modifier
invariant-loop-modifier l = cond l.seen (no_final (local_marks (drop l.modifier-index l.modifiers))) (final_once (local_marks (drop l.modifier-index l.modifiers))) ≡ final_once (local_marks l.modifiers)
