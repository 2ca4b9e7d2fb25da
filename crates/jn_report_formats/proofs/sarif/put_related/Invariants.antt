use Rattle.std.proofs.Common.{◌≡◌, ◌≤◌, ◌+◌, ◌-◌, ◌++◌, length, drop}
use Rattle.jn_report_formats.specs.Sarif.{related_from}
use Rattle.jn_report_formats.proofs.sarif.put_related.Given as goal

abbrev pub invariant-loop-before : goal.invariant-loop-before
invariant-loop-before l = record {
  within : l.before ≤ length l.notes;
  put : l.out.items ++ related_from (l.before + 1) (drop l.before l.notes) ≡ l.fn.out.items ++ related_from 1 l.notes;
}

abbrev pub decreases-loop-before : goal.decreases-loop-before
decreases-loop-before l = length l.notes - l.before
