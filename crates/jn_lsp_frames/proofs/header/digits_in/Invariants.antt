use Rattle.std.specs.Char.{is_ascii_digit}
use Rattle.jn_lsp_frames.proofs.Numbers.{Spans}
use Rattle.jn_lsp_frames.proofs.header.digits_in.Given as goal

abbrev pub invariant-loop-at : goal.invariant-loop-at
invariant-loop-at l = Spans is_ascii_digit l.bytes l.at
