use Rattle.std.proofs.Common.{◌≡◌, drop}
use Rattle.jn_trees.specs.View.{views}
use Rattle.jn_parse_stmt_law.specs.Parts.{are_effects}
use Rattle.jn_parse_stmt.proofs.lists.are_effects.Given as goal

abbrev pub invariant-loop-expression : goal.invariant-loop-expression
invariant-loop-expression l = are_effects (views (drop l.expression-index l.expressions)) ≡ are_effects (views l.expressions)
