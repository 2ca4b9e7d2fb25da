use Rattle.std.proofs.Common.{◌≡◌, ◌++◌, drop}
use Rattle.jn_trees.specs.Spelling.{spell_all_marks}
use Rattle.jn_trees.specs.View.{marks}
use Rattle.jn_trees_spelling.proofs.members.spell_modifiers.Given as goal

abbrev pub invariant-loop-modifier : goal.invariant-loop-modifier
invariant-loop-modifier l = l.kinds.items ++ spell_all_marks (marks (drop l.modifier-index l.modifiers)) ≡ l.fn.kinds.items ++ spell_all_marks (marks l.modifiers)
