use Rattle.std.proofs.Common.{◌≡◌, ◌+◌, drop}
use Rattle.jn_diff.specs.Lines.{line_length}
use Rattle.jn_diff.proofs.line.line_length.Given as goal

abbrev pub invariant-loop-byte : goal.invariant-loop-byte
invariant-loop-byte l = record {
  count : l.count ≡ l.byte-index;
  rest : line_length l.text ≡ l.count + line_length (drop l.byte-index l.text);
}
