use Rattle.jn_parse_expr_law.proofs.Laws.{one_tree, longest, unique, reads}
use Rattle.jn_parse_expr_law.proofs.law.expressions_are_read_once.Goals as goal

pub returns : goal.returns
returns c = record { one_tree = one_tree; longest = longest; unique = unique; reads = reads }
