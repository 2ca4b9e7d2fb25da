use Rattle.std.proofs.Common.{◌≡◌, drop}
use Rattle.jn_points.specs.Members.{some_of}
use Rattle.jn_heads.specs.Extract as spec
use Rattle.jn_heads.proofs.notes.has_named.Given as goal

abbrev pub invariant-loop-annotation : goal.invariant-loop-annotation
invariant-loop-annotation l = some_of (spec.is_named l.name.0) (drop l.annotation-index l.annotations) ≡ some_of (spec.is_named l.name.0) l.annotations
