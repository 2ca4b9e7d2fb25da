use Rattle.std.proofs.Common.{◌∙◌, ap}
use Rattle.std.proofs.lemmas.List.{take_rest}
use Rattle.jn_lexer.specs.Found.{closed}
use Rattle.jn_lexer.proofs.Comments.{empty_case, line_case, block_case, no_case}
use Rattle.jn_lexer.proofs.gap.comment_at.Goals as goal

pub returns-in-empty : goal.returns-in-empty
returns-in-empty c = empty_case c.args.text.now c.in-empty.len_below

pub returns-then-second-eq47 : goal.returns-then-second-eq47
returns-then-second-eq47 c = line_case c.args.text.now c.second-item.result c.in-len1-up.len_at_least c.second-item.is c.line_len.result c.if-second-eq47.true (rw take_rest at c.line_len.ensures.value)

pub returns-then-second-eq42 : goal.returns-then-second-eq42
returns-then-second-eq42 c = block_case c.args.text.now c.second-item.result c.in-len1-up.len_at_least c.second-item.is c.closed.result c.if-second-eq42.true (c.closed.ensures ∙ ap closed (rw take_rest at c.block_len.ensures.value))

pub returns-else-second-eq42 : goal.returns-else-second-eq42
returns-else-second-eq42 c = no_case c.args.text.now c.second-item.result c.in-len1-up.len_at_least c.second-item.is c.if-second-eq47.false c.if-second-eq42.false
