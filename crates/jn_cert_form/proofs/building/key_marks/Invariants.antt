use Rattle.std.proofs.Common.{◌≡◌, ◌++◌, drop, map}
use Rattle.jn_cert_form.specs.Chosen as spec
use Rattle.jn_cert_form.proofs.building.key_marks.Given as goal

abbrev pub invariant-loop-mark : goal.invariant-loop-mark
invariant-loop-mark l = l.keys.items ++ map spec.twice (drop l.mark-index l.marks) ≡ map spec.twice l.marks
