use Rattle.jn_lexer.proofs.Few.{few_tokens, few_names}
use Rattle.jn_lexer.proofs.law.texts_have_few_tokens.Goals as goal

pub returns : goal.returns
returns c = record { tokens = few_tokens; names = few_names }
