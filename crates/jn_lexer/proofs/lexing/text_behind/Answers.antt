use Rattle.std.proofs.lemmas.List.{take_rest}
use Rattle.jn_lexer.proofs.lexing.text_behind.Goals as goal

pub returns : goal.returns
returns c = simp take_rest
