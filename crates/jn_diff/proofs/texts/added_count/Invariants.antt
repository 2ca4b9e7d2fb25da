use Rattle.std.proofs.Common.{◌≡◌, ◌+◌, ◌≤◌, drop}
use Rattle.jn_diff.specs.Diff.{added_count}
use Rattle.jn_diff.proofs.texts.added_count.Given as goal

abbrev pub invariant-loop-line : goal.invariant-loop-line
invariant-loop-line l = record {
  within : l.count ≤ l.line-index;
  rest : l.count + added_count (drop l.line-index l.lines) ≡ added_count l.lines;
}
