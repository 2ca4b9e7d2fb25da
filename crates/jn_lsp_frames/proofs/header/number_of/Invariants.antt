use Rattle.std.proofs.Common.{◌<◌, ◌^◌}
use Rattle.jn_lsp_frames.proofs.Numbers.{Writes}
use Rattle.jn_lsp_frames.proofs.header.number_of.Given as goal

abbrev pub invariant-loop-at : goal.invariant-loop-at
invariant-loop-at l = record {
  writes : Writes l.digits l.number l.at;
  small : l.number < 10 ^ l.at;
}
