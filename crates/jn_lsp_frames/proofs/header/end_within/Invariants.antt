use Rattle.std.proofs.Common.{◌-◌, length}
use Rattle.jn_lsp_frames.proofs.Lines.{Lined}
use Rattle.jn_lsp_frames.proofs.header.end_within.Given as goal

abbrev pub invariant-loop-count : goal.invariant-loop-count
invariant-loop-count l = Lined l.text l.at

abbrev pub decreases-loop-count : goal.decreases-loop-count
decreases-loop-count l = length l.text - l.at
