use Rattle.std.proofs.Common.{◌≡◌, drop}
use Rattle.jn_trees.specs.View.{marks}
use Rattle.jn_trees.specs.Spelling.{spell_all_marks}
use Rattle.jn_places.specs.Places.{behind}
use Rattle.jn_annotate.proofs.steps.behind_marks.Given as goal

abbrev pub invariant-loop-modifier : goal.invariant-loop-modifier
invariant-loop-modifier l = behind l.rest (spell_all_marks (marks (drop l.modifier-index l.modifiers))) ≡ behind l.tokens (spell_all_marks (marks l.modifiers))
