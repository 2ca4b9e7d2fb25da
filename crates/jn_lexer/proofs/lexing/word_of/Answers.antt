use Rattle.std.proofs.Common.{refl}
use Rattle.std.proofs.lemmas.List.{take_rest}
use Rattle.jn_lexer.proofs.lexing.word_of.Goals as goal

pub returns : goal.returns
returns c = rw take_rest refl
