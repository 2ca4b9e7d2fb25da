use Rattle.std.proofs.Common.{◌≡◌, ◌≤◌, ◌*◌}
use Rattle.jn_lsp_text.specs.Counting.{counted}
use Rattle.jn_lsp_text.specs.Positions.{IsUpTo, position_at}
use Rattle.jn_lsp_text.proofs.position.offset_of.Given as goal

abbrev pub invariant-loop-offset : goal.invariant-loop-offset
invariant-loop-offset l = record {
  counted : l.counted ≡ counted l.encoding l.text l.offset;
  lines : l.counted.lines ≤ l.offset;
  units : l.counted.units ≤ 2 * l.offset;
  reached : IsUpTo (position_at l.encoding l.text l.offset) l.position;
}
