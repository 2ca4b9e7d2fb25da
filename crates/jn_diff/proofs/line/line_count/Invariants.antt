use Rattle.std.proofs.Common.{◌≡◌, ◌+◌, ◌≤◌, length}
use Rattle.jn_diff.specs.Lines.{lines_of}
use Rattle.jn_diff.proofs.line.line_count.Given as goal

abbrev pub invariant-loop-rest : goal.invariant-loop-rest
invariant-loop-rest l = record {
  few : l.count + length l.rest ≤ length l.text;
  lines : l.count + length (lines_of l.rest) ≡ length (lines_of l.text);
}

abbrev pub decreases-loop-rest : goal.decreases-loop-rest
decreases-loop-rest l = length l.rest
