use Rattle.std.proofs.Common.{◌↔◌, drop}
use Rattle.jn_trees.specs.WellFormed.{GoodDeclarators}
use Rattle.jn_trees.specs.View.{declarator_views}
use Rattle.jn_trees_spelling.proofs.good_locals.good_declarators.Given as goal

abbrev pub invariant-loop-declarator : goal.invariant-loop-declarator
invariant-loop-declarator l = GoodDeclarators (declarator_views l.declarators) ↔ GoodDeclarators (declarator_views (drop l.declarator-index l.declarators))
