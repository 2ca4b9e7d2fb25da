use Rattle.std.proofs.Common.{[], refl}
use Rattle.jn_known.specs.Known.{known_names}
use Rattle.jn_lexer.specs.Lexed.{Lexed}
use Rattle.jn_lexer.specs.Moved.{LexedOnto}
use Rattle.jn_lexer.proofs.Onto.{whole_text}
use Rattle.jn_lex_shared.proofs.Further.{if_ok}
use Rattle.jn_lex_shared.proofs.alone.lex_alone.Goals as goal

pub returns-clause-ok : goal.returns-clause-ok
returns-clause-ok c =
    if_ok (λ r. LexedOnto c.args.file c.args.text.now 0 known_names [] r.1 r.0.items) (λ r. Lexed c.args.file c.args.text.now known_names r.0.items r.1)
    (λ r l. whole_text c.args.file c.args.text.now known_names [] r.1 r.0.items refl l)
    c.lex_part.result c.lex_part.ensures.ok
