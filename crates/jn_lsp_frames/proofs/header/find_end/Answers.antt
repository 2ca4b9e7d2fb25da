use Rattle.jn_lsp_frames.proofs.Lines.{none_before}
use Rattle.jn_lsp_frames.proofs.header.find_end.Goals as goal

pub returns-clause-none : goal.returns-clause-none
returns-clause-none c = none_before c.args.bytes.now c.min.result c.end_within.result c.min.ensures c.end_within.ensures.none
