use Rattle.std.proofs.Common.{◌≡◌, ◌++◌, drop}
use Rattle.jn_classtable.specs.Table as spec
use Rattle.jn_classtable.proofs.members.param_spans.Given as goal

abbrev pub invariant-loop-param : goal.invariant-loop-param
invariant-loop-param l = l.spans ++ spec.param_spans (drop l.param-index l.params) ≡ spec.param_spans l.params
