use Rattle.std.proofs.Common.{◌≡◌, drop}
use Rattle.jn_points.specs.Members.{some_of}
use Rattle.jn_heads.specs.Inferred as spec
use Rattle.jn_heads.proofs.marking.has_access.Given as goal

abbrev pub invariant-loop-modifier : goal.invariant-loop-modifier
invariant-loop-modifier l = some_of (spec.is_access) (drop l.modifier-index l.modifiers) ≡ some_of (spec.is_access) l.modifiers
