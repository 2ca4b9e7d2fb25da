use Rattle.jn_lsp_frames.proofs.Telling.{told_all, told_more}
use Rattle.jn_lsp_frames.proofs.header.content_length.Goals as goal

pub returns-then-end-eq0 : goal.returns-then-end-eq0
returns-then-end-eq0 c lines is = c.length_of.ensures lines (told_all lines c.loop-end.rest.now c.loop-end.said c.in-Some.end c.in-Some.ensures.at c.if-end-eq0.true (c.loop-end.invariant lines is))

pub loop-end-preserved : goal.loop-end-preserved
loop-end-preserved c lines is = told_more lines c.loop-end.rest.now c.split_at.result.0.now c.split_at.result.1.now c.loop-end.said c.with_line-said.result c.in-Some.end c.in-Some.ensures.at c.if-end-eq0.false c.split_at.ensures.front c.split_at.ensures.back c.with_line-said.ensures (c.loop-end.invariant lines is)
