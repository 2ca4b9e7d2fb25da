use Rattle.std.proofs.Common.{◌≡◌, drop}
use Rattle.jn_points.specs.Members.{some_of}
use Rattle.jn_trees.specs.View.{local_marks}
use Rattle.jn_lsp_actions.specs.Nulls as spec
use Rattle.jn_lsp_actions.proofs.nullable.local_marks_say.Given as goal

abbrev pub invariant-loop-modifier : goal.invariant-loop-modifier
invariant-loop-modifier l = some_of spec.local_mark_says (local_marks l.modifiers) ≡ some_of spec.local_mark_says (local_marks (drop l.modifier-index l.modifiers))
