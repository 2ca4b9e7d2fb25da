use Rattle.jn_parse_stmt_law.proofs.Laws.{one_statement, longest, unique, reads}
use Rattle.jn_parse_stmt_law.proofs.law.statements_are_read_once.Goals as goal

pub returns : goal.returns
returns c = record { one_statement = one_statement; longest = longest; unique = unique; reads = reads }
