use Rattle.std.proofs.Common.{◌≡◌, ◌+◌, ◌-◌, ◌++◌, ◌≤◌, length, drop}
use Rattle.jn_diff.specs.Diff.{hunks_text}
use Rattle.jn_diff.specs.Hunks.{hunks, hunks_from}
use Rattle.jn_diff.proofs.diff.hunks_text.Given as goal

abbrev pub invariant-loop-at : goal.invariant-loop-at
invariant-loop-at l = record {
  within : l.at ≤ length l.lines;
  behind : l.back ≤ l.at;
  rest : l.text.items ++ hunks_text l.back (hunks_from (1 + l.at) 0 (drop l.at l.lines)) ≡ hunks_text 0 (hunks l.lines);
}

abbrev pub decreases-loop-at : goal.decreases-loop-at
decreases-loop-at l = length l.lines - l.at
