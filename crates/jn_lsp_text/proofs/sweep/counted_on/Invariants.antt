use Rattle.std.proofs.Common.{◌≡◌, ◌≤◌, ◌*◌}
use Rattle.jn_lsp_text.specs.Counting.{counted}
use Rattle.jn_lsp_text.proofs.sweep.counted_on.Given as goal

abbrev pub invariant-loop-at : goal.invariant-loop-at
invariant-loop-at l = record {
  is : l.counted ≡ counted l.encoding l.text l.at;
  lines : l.counted.lines ≤ l.at;
  units : l.counted.units ≤ 2 * l.at;
}
