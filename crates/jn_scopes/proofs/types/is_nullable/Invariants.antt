use Rattle.std.proofs.Common.{◌≡◌, drop}
use Rattle.jn_known.specs.Known.{nullable_name}
use Rattle.jn_lowering.specs.Bases as spec
use Rattle.jn_scopes.proofs.types.is_nullable.Given as goal

abbrev pub invariant-loop-annotation : goal.invariant-loop-annotation
invariant-loop-annotation l = spec.has_annotation nullable_name (drop l.annotation-index l.annotations) ≡ spec.has_annotation nullable_name l.annotations
