use Rattle.std.proofs.Common.{◌≡◌, ◌++◌, drop}
use Rattle.jn_lowering.specs.Annotations as spec
use Rattle.jn_lower_rows.specs.Views.{allowed_of}
use Rattle.jn_lower_rows.proofs.annotations.not_allowed.Given as goal

abbrev pub invariant-loop-annotation : goal.invariant-loop-annotation
invariant-loop-annotation l = l.rows ++ spec.not_allowed (allowed_of l.allowed) l.reference (drop l.annotation-index l.annotations) ≡ l.fn.rows ++ spec.not_allowed (allowed_of l.allowed) l.reference l.annotations
