use Rattle.jn_lexer.proofs.OneList.{one_list}
use Rattle.jn_lexer.proofs.OneRow.{no_fault, one_fault}
use Rattle.jn_lexer.proofs.law.texts_have_one_reading.Goals as goal

pub returns : goal.returns
returns c = record { one = one_list; faultless = λ file text old ts ns row. no_fault file file text old ts ns row; one_fault = one_fault }
