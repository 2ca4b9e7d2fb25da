use Rattle.std.proofs.Common.{◌≡◌, ◌++◌, drop}
use Rattle.jn_trees.specs.Spelling.{spell_more_names}
use Rattle.jn_trees.specs.View.{identifier_names}
use Rattle.jn_trees_spelling.proofs.declarations.spell_more_names.Given as goal

abbrev pub invariant-loop-name : goal.invariant-loop-name
invariant-loop-name l = l.kinds.items ++ spell_more_names (identifier_names (drop l.name-index l.names)) ≡ l.fn.kinds.items ++ spell_more_names (identifier_names l.names)
