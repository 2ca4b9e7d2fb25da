use Rattle.jn_lex_shared.proofs.Lexing.{parsed, undone, same_syntax_row}
use Rattle.jn_lex_shared.proofs.law.own_trees_can_be_renumbered.Goals as goal

pub returns-clause-parsed : goal.returns-clause-parsed
returns-clause-parsed c = parsed

pub returns-clause-undone : goal.returns-clause-undone
returns-clause-undone c = undone

pub returns-clause-row : goal.returns-clause-row
returns-clause-row c = same_syntax_row
