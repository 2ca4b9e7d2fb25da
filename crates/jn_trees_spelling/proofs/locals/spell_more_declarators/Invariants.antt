use Rattle.std.proofs.Common.{◌≡◌, ◌++◌, drop}
use Rattle.jn_trees.specs.Spelling.{spell_more_declarators}
use Rattle.jn_trees.specs.View.{declarator_views}
use Rattle.jn_trees_spelling.proofs.locals.spell_more_declarators.Given as goal

abbrev pub invariant-loop-declarator : goal.invariant-loop-declarator
invariant-loop-declarator l = l.kinds.items ++ spell_more_declarators (declarator_views (drop l.declarator-index l.declarators)) ≡ l.fn.kinds.items ++ spell_more_declarators (declarator_views l.declarators)
