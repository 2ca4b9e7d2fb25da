use Rattle.std.proofs.Common.{◌∙◌, ap, find}
use Rattle.jn_lexer.specs.Spelling.{spelling}
use Rattle.jn_lexer.specs.Scan.{begins}
use Rattle.jn_lexer.proofs.Initials.{pair_beginning}
use Rattle.jn_lexer.proofs.spelling.pair.Goals as goal

pub returns-in-len1-up : goal.returns-in-len1-up
returns-in-len1-up c =
    c.kind_begun.ensures
    ∙ ap (find (λ kind. begins c.args.text.now (spelling kind))) c.pairs_beginning.ensures
    ∙ pair_beginning c.args.text.now c.first-item.result c.in-len1-up.len_at_least c.first-item.is
