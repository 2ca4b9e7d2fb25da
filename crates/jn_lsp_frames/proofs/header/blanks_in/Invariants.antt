use Rattle.jn_lsp_frames.specs.Header.{is_blank}
use Rattle.jn_lsp_frames.proofs.Numbers.{Spans}
use Rattle.jn_lsp_frames.proofs.header.blanks_in.Given as goal

abbrev pub invariant-loop-at : goal.invariant-loop-at
invariant-loop-at l = Spans is_blank l.bytes l.at
