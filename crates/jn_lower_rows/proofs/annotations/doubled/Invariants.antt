use Rattle.std.proofs.Common.{◌≡◌, length}
use Rattle.jn_lowering.specs.Annotations as spec
use Rattle.jn_lower_rows.specs.Views.{kind_of}
use Rattle.jn_lower_rows.proofs.annotations.doubled.Given as goal

abbrev pub invariant-loop-left : goal.invariant-loop-left
invariant-loop-left l = (l.rows ≡ l.fn.rows) × (spec.doubled (kind_of l.kind) l.left ≡ spec.doubled (kind_of l.kind) l.fn.annotations)

abbrev pub decreases-loop-left : goal.decreases-loop-left
decreases-loop-left l = length l.left
