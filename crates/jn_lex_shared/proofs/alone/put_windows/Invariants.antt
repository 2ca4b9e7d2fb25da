use Rattle.std.proofs.Common.{◌≡◌, ◌≤◌, ◌+◌, length}
use Rattle.jn_lex_shared.proofs.Windows.{GoesOn}
use Rattle.jn_lex_shared.proofs.alone.put_windows.Given as goal

abbrev pub invariant-loop-cut : goal.invariant-loop-cut
invariant-loop-cut l = record {
  goes_on : GoesOn l.file l.text l.at l.fn.names l.fn.tokens.items l.rest l.from l.names l.tokens.items;
  places : l.from + length l.rest ≡ l.at + length l.text;
  room : length l.names + length l.rest ≤ length l.fn.names + length l.text;
}

abbrev pub decreases-loop-cut : goal.decreases-loop-cut
decreases-loop-cut l = length l.rest
