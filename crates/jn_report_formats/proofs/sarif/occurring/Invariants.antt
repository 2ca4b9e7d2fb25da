use Rattle.std.proofs.Common.{◌≡◌, ◌++◌, drop}
use Rattle.jn_report_formats.specs.Sarif as spec
use Rattle.jn_report_formats.proofs.sarif.occurring.Given as goal

abbrev pub invariant-loop-code : goal.invariant-loop-code
invariant-loop-code l = l.found.items ++ spec.occurring l.rows (drop l.code-index l.codes) ≡ spec.occurring l.rows l.codes
