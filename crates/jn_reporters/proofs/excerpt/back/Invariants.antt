use Rattle.std.proofs.Common.{◌≡◌, ◌≤◌, ◌++◌, length, take, drop}
use Rattle.jn_base.specs.Place.{last_line}
use Rattle.jn_reporters.specs.Excerpts.{last_characters}
use Rattle.jn_reporters.proofs.excerpt.back.Given as goal

abbrev pub invariant-loop-at : goal.invariant-loop-at
invariant-loop-at l = record {
  within : l.at ≤ length l.text;
  back : last_characters l.left (last_line (take l.at l.text)) ++ drop l.at l.text ≡ last_characters l.count (last_line l.text);
  line : last_line (take l.at l.text) ++ drop l.at l.text ≡ last_line l.text;
}

abbrev pub decreases-loop-at : goal.decreases-loop-at
decreases-loop-at l = l.at
