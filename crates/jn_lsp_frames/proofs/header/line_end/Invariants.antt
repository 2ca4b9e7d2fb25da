use Rattle.jn_lsp_frames.proofs.Lines.{NoEndYet}
use Rattle.jn_lsp_frames.proofs.header.line_end.Given as goal

abbrev pub invariant-loop-at : goal.invariant-loop-at
invariant-loop-at l = NoEndYet l.text l.at
