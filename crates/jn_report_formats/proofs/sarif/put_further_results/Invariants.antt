use Rattle.std.proofs.Common.{◌≡◌, ◌++◌, take}
use Rattle.jn_report_formats.specs.Sarif as spec
use Rattle.jn_report_formats.proofs.sarif.put_further_results.Given as goal

abbrev pub invariant-loop-row : goal.invariant-loop-row
invariant-loop-row l = l.out.items ≡ l.fn.out.items ++ spec.further spec.result_object (take l.row-index l.rows)
