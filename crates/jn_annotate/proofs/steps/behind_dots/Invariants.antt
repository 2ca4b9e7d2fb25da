use Rattle.std.proofs.Common.{◌≡◌, length}
use Rattle.jn_trees.specs.View.{identifier_names}
use Rattle.jn_trees.specs.Spelling.{spell_dots}
use Rattle.jn_places.specs.Places.{behind}
use Rattle.jn_annotate.proofs.steps.behind_dots.Given as goal

abbrev pub invariant-loop-left : goal.invariant-loop-left
invariant-loop-left l = behind l.rest (spell_dots (identifier_names l.left)) ≡ behind l.tokens (spell_dots (identifier_names l.names))

abbrev pub decreases-loop-left : goal.decreases-loop-left
decreases-loop-left l = length l.left
