use Rattle.std.proofs.Common.{◌≡◌, ◌-◌, ◌^◌, min, max, drop}
use Rattle.jn_trees.specs.WellFormed.{nesting_body}
use Rattle.jn_trees.specs.View.{statement_views}
use Rattle.jn_trees_spelling.proofs.good_statements.+nesting_statements.Given as goal

abbrev pub invariant-nesting_body-loop-statement : goal.invariant-nesting_body-loop-statement
invariant-nesting_body-loop-statement l = max l.deepest (min (nesting_body (statement_views (drop l.statement-index l.statements))) (2 ^ 32 - 1)) ≡ min (nesting_body (statement_views l.statements)) (2 ^ 32 - 1)
