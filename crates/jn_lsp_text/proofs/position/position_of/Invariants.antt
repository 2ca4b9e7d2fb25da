use Rattle.std.proofs.Common.{◌≡◌, ◌≤◌, ◌*◌}
use Rattle.jn_lsp_text.specs.Counting.{counted}
use Rattle.jn_lsp_text.proofs.position.position_of.Given as goal

abbrev pub invariant-loop-byte : goal.invariant-loop-byte
invariant-loop-byte l = record {
  counted : l.counted ≡ counted l.encoding l.byte-items l.byte-index;
  lines : l.counted.lines ≤ l.byte-index;
  units : l.counted.units ≤ 2 * l.byte-index;
}
