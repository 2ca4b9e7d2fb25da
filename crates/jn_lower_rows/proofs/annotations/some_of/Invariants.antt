use Rattle.std.proofs.Common.{◌≡◌, drop}
use Rattle.jn_lowering.specs.Annotations as spec
use Rattle.jn_lower_rows.specs.Views.{kind_of}
use Rattle.jn_lower_rows.proofs.annotations.some_of.Given as goal

abbrev pub invariant-loop-annotation : goal.invariant-loop-annotation
invariant-loop-annotation l = spec.some_named (kind_of l.kind) (drop l.annotation-index l.annotations) ≡ spec.some_named (kind_of l.kind) l.annotations
