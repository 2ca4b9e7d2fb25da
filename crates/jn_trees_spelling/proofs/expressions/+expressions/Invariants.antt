use Rattle.std.proofs.Common.{◌≡◌, ◌++◌, drop}
use Rattle.jn_trees.specs.Spelling.{spell_list}
use Rattle.jn_trees.specs.View.{views}
use Rattle.jn_trees_spelling.proofs.Listed.{spell_from}
use Rattle.jn_trees_spelling.proofs.expressions.+expressions.Given as goal

abbrev pub invariant-spell_list-loop-place : goal.invariant-spell_list-loop-place
invariant-spell_list-loop-place l = l.kinds.items ++ spell_from l.end l.place (views (drop l.place l.expressions)) ≡ l.fn.kinds.items ++ spell_list l.end (views l.expressions)
