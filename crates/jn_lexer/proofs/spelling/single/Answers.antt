use Rattle.std.proofs.Common.{◌∙◌}
use Rattle.jn_lexer.proofs.Initials.{single_first}
use Rattle.jn_lexer.proofs.spelling.single.Goals as goal

pub returns-in-len1-up : goal.returns-in-len1-up
returns-in-len1-up c = c.mark.ensures ∙ single_first c.args.text.now c.first-item.result c.in-len1-up.len_at_least c.first-item.is
