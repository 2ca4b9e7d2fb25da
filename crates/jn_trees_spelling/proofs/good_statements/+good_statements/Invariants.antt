use Rattle.std.proofs.Common.{◌↔◌, drop}
use Rattle.jn_trees.specs.WellFormed.{GoodStatements}
use Rattle.jn_trees.specs.View.{statement_views}
use Rattle.jn_trees_spelling.proofs.good_statements.+good_statements.Given as goal

abbrev pub invariant-good_statements-loop-statement : goal.invariant-good_statements-loop-statement
invariant-good_statements-loop-statement l = GoodStatements l.context (statement_views l.statements) ↔ GoodStatements l.context (statement_views (drop l.statement-index l.statements))
