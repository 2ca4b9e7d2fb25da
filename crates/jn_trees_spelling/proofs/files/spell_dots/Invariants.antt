use Rattle.std.proofs.Common.{◌≡◌, ◌++◌, drop}
use Rattle.jn_trees.specs.Spelling.{spell_dots}
use Rattle.jn_trees.specs.View.{identifier_names}
use Rattle.jn_trees_spelling.proofs.files.spell_dots.Given as goal

abbrev pub invariant-loop-name : goal.invariant-loop-name
invariant-loop-name l = l.kinds.items ++ spell_dots (identifier_names (drop l.name-index l.names)) ≡ l.fn.kinds.items ++ spell_dots (identifier_names l.names)
