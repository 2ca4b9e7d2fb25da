use Rattle.jn_lsp_frames.proofs.Lines.{lined_block, lined_more, lined_last}
use Rattle.jn_lsp_frames.proofs.header.end_within.Goals as goal

pub returns-then-count-eq0-clause-block : goal.returns-then-count-eq0-clause-block
returns-then-count-eq0-clause-block c = lined_block c.args.text.now c.loop-count.at c.in-Some.count c.loop-count.invariant c.in-Some.ensures.at c.requires c.if-count-eq0.true

pub loop-count-preserved : goal.loop-count-preserved
loop-count-preserved c = lined_more c.args.text.now c.loop-count.at c.in-Some.count c.loop-count.invariant c.in-Some.ensures.at c.if-count-eq0.false

pub returns-clause-none : goal.returns-clause-none
returns-clause-none c = lined_last c.args.text.now c.loop-count.at c.loop-count.invariant c.in_default.ensures.none
