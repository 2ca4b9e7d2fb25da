use Rattle.std.proofs.Common.{◌∙◌, sym}
use Rattle.jn_lexer.proofs.Comments.{white_case}
use Rattle.jn_lexer.proofs.gap.blank_at.Goals as goal

pub returns-then-is_white : goal.returns-then-is_white
returns-then-is_white c = white_case c.args.text.now c.first-item.result c.in-len1-up.len_at_least c.first-item.is (sym c.is_white.ensures ∙ c.if-is_white.true)
