use Rattle.std.proofs.Common.{◌≡◌, ◌++◌, drop}
use Rattle.jn_report_formats.specs.Checkstyle.{rows_behind}
use Rattle.jn_report_formats.proofs.checkstyle.put_rows_behind.Given as goal

abbrev pub invariant-loop-row : goal.invariant-loop-row
invariant-loop-row l = l.out.items ++ rows_behind l.last.name (drop l.row-index l.rest) ≡ l.fn.out.items ++ rows_behind l.first.name l.rest
