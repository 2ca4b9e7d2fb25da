use Rattle.std.proofs.Common.{◌≡◌, ◌≤◌, ◌-◌, ◌++◌, length, take, drop}
use Rattle.jn_reporters.specs.Excerpts.{first_characters, first_line}
use Rattle.jn_reporters.proofs.excerpt.front.Given as goal

abbrev pub invariant-loop-left : goal.invariant-loop-left
invariant-loop-left l = record {
  within : l.at ≤ length l.text;
  front : take l.at l.text ++ first_characters l.left (first_line (drop l.at l.text)) ≡ first_characters l.count (first_line l.text);
  line : take l.at l.text ++ first_line (drop l.at l.text) ≡ first_line l.text;
}

abbrev pub decreases-loop-left : goal.decreases-loop-left
decreases-loop-left l = length l.text - l.at
