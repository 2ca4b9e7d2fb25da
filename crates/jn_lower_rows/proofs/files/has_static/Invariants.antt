use Rattle.std.proofs.Common.{◌≡◌, drop}
use Rattle.jn_lowering.specs.FileRows as spec
use Rattle.jn_lower_rows.proofs.files.has_static.Given as goal

abbrev pub invariant-loop-modifier : goal.invariant-loop-modifier
invariant-loop-modifier l = spec.has_static (drop l.modifier-index l.modifiers) ≡ spec.has_static l.modifiers
