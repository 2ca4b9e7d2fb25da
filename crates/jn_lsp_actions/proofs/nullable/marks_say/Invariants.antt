use Rattle.std.proofs.Common.{◌≡◌, drop}
use Rattle.jn_points.specs.Members.{some_of}
use Rattle.jn_trees.specs.View.{marks}
use Rattle.jn_lsp_actions.specs.Nulls as spec
use Rattle.jn_lsp_actions.proofs.nullable.marks_say.Given as goal

abbrev pub invariant-loop-modifier : goal.invariant-loop-modifier
invariant-loop-modifier l = some_of spec.mark_says (marks l.modifiers) ≡ some_of spec.mark_says (marks (drop l.modifier-index l.modifiers))
