use Rattle.std.proofs.Common.{◌∙◌, ap, find}
use Rattle.jn_lexer.specs.declared.spelling.TheConstants.{WORDS}
use Rattle.jn_lexer.specs.Spelling.{spelling}
use Rattle.jn_lexer.specs.Scan.{is_spelled}
use Rattle.jn_lexer.proofs.Initials.{spelled_like}
use Rattle.jn_lexer.proofs.spelling.keyword.Goals as goal

pub returns-in-len1-up : goal.returns-in-len1-up
returns-in-len1-up c =
    c.kind_spelled.ensures
    ∙ ap (find (λ kind. is_spelled c.args.word.now (spelling kind))) c.words_like.ensures
    ∙ spelled_like c.args.word.now c.first-item.result c.in-len1-up.len_at_least c.first-item.is WORDS
