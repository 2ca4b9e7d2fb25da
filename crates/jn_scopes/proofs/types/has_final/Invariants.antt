use Rattle.std.proofs.Common.{◌≡◌, drop}
use Rattle.jn_lowering.specs.Locals.{has_final}
use Rattle.jn_scopes.proofs.types.has_final.Given as goal

abbrev pub invariant-loop-modifier : goal.invariant-loop-modifier
invariant-loop-modifier l = has_final (drop l.modifier-index l.modifiers) ≡ has_final l.modifiers
