use Rattle.std.proofs.Common.{◌≡◌, ◌++◌, drop, map}
use Rattle.jn_trees.specs.Spelling.{spell_types}
use Rattle.jn_trees.specs.View.{type_view}
use Rattle.jn_trees_spelling.proofs.files.spell_types.Given as goal

abbrev pub invariant-loop-declaration : goal.invariant-loop-declaration
invariant-loop-declaration l = l.kinds.items ++ spell_types (map type_view (drop l.declaration-index l.types)) ≡ l.fn.kinds.items ++ spell_types (map type_view l.types)
