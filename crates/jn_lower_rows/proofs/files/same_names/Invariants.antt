use Rattle.std.proofs.Common.{◌≡◌, length}
use Rattle.jn_lowering.specs.FileRows as spec
use Rattle.jn_lower_rows.proofs.files.same_names.Given as goal

abbrev pub invariant-loop-one : goal.invariant-loop-one
invariant-loop-one l = spec.same_names l.one l.other ≡ spec.same_names l.fn.left l.fn.right

abbrev pub decreases-loop-one : goal.decreases-loop-one
decreases-loop-one l = length l.one
