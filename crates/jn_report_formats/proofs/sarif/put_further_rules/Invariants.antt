use Rattle.std.proofs.Common.{◌≡◌, ◌++◌, take}
use Rattle.jn_report_formats.specs.Sarif as spec
use Rattle.jn_report_formats.proofs.sarif.put_further_rules.Given as goal

abbrev pub invariant-loop-code : goal.invariant-loop-code
invariant-loop-code l = l.out.items ≡ l.fn.out.items ++ spec.further (spec.rule_object l.address) (take l.code-index l.codes)
