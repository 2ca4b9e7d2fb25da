use Rattle.std.proofs.Common.{◌≡◌, ◌++◌, drop}
use Rattle.jn_trees.specs.Spelling.{spell_body}
use Rattle.jn_trees.specs.View.{statement_views}
use Rattle.jn_trees_spelling.proofs.statements.+statements.Given as goal

abbrev pub invariant-spell_body-loop-statement : goal.invariant-spell_body-loop-statement
invariant-spell_body-loop-statement l = l.kinds.items ++ spell_body (statement_views (drop l.statement-index l.statements)) ≡ l.fn.kinds.items ++ spell_body (statement_views l.statements)
