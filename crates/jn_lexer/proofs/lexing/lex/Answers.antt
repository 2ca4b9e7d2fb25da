use Rattle.jn_lexer.proofs.Onto.{whole_text}
use Rattle.jn_lexer.proofs.lexing.lex.Goals as goal

pub returns-in-Ok-clause-ok : goal.returns-in-Ok-clause-ok
returns-in-Ok-clause-ok c = whole_text c.args.file c.args.text.now c.args.names.now _ _ _ c.new-tokens.ensures.items c.in-Ok.ensures.ok
