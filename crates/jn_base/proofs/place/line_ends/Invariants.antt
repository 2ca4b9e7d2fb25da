use Rattle.std.proofs.Common.{◌≡◌, ◌+◌, ◌≤◌, drop}
use Rattle.jn_base.specs.Place.{line_ends}
use Rattle.jn_base.proofs.place.line_ends.Given as goal

abbrev pub invariant-loop-byte : goal.invariant-loop-byte
invariant-loop-byte l = record {
  ends : l.ends + line_ends l.previous (drop l.byte-index l.text) ≡ line_ends 0 l.text;
  bound : l.ends ≤ l.byte-index;
}
