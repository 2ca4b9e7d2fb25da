use Rattle.std.proofs.Common.{◌≡◌, ◌+◌, ◌*◌, length}
use Rattle.jn_trees.specs.Pieces.{kinds}
use Rattle.jn_trees.specs.View.{statement_views}
use Rattle.jn_parse_stmt_law.specs.StatementReader.{read_block}
use Rattle.jn_parse_stmt.specs.Heads.{read_one}
use Rattle.jn_parse_stmt.proofs.Blocks.{Blocking}
use Rattle.jn_parse_stmt.proofs.nested.+statements.Given as goal

abbrev pub decreases-statement : goal.decreases-statement
decreases-statement l = 8 * l.depth

abbrev pub decreases-block : goal.decreases-block
decreases-block l = 8 * l.depth + 2

abbrev pub decreases-body : goal.decreases-body
decreases-body l = 8 * l.depth + 1

abbrev pub decreases-if_statement : goal.decreases-if_statement
decreases-if_statement l = 8 * l.depth + 3

abbrev pub decreases-if_end : goal.decreases-if_end
decreases-if_end l = 8 * l.depth + 2

abbrev pub decreases-else_part : goal.decreases-else_part
decreases-else_part l = 8 * l.depth + 1

abbrev pub decreases-while_statement : goal.decreases-while_statement
decreases-while_statement l = 8 * l.depth + 2

abbrev pub decreases-for_statement : goal.decreases-for_statement
decreases-for_statement l = 8 * l.depth + 2

abbrev pub decreases-loop_statement : goal.decreases-loop_statement
decreases-loop_statement l = 8 * l.depth + 1

abbrev pub decreases-do_statement : goal.decreases-do_statement
decreases-do_statement l = 8 * l.depth + 1

-- what is read and what is left
abbrev pub invariant-body-statements : goal.invariant-body-statements
invariant-body-statements l = Blocking (read_one l.depth l.context) (statement_views l.statements.items) (kinds l.left) (read_block (read_one l.depth l.context) (kinds l.tokens))

abbrev pub decreases-body-statements : goal.decreases-body-statements
decreases-body-statements l = length l.left
