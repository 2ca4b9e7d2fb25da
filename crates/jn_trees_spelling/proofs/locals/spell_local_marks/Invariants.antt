use Rattle.std.proofs.Common.{◌≡◌, ◌++◌, drop}
use Rattle.jn_trees.specs.Spelling.{spell_marks}
use Rattle.jn_trees.specs.View.{local_marks}
use Rattle.jn_trees_spelling.proofs.locals.spell_local_marks.Given as goal

abbrev pub invariant-loop-modifier : goal.invariant-loop-modifier
invariant-loop-modifier l = l.kinds.items ++ spell_marks (local_marks (drop l.modifier-index l.modifiers)) ≡ l.fn.kinds.items ++ spell_marks (local_marks l.modifiers)
