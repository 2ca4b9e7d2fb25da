use Rattle.std.proofs.Common.{◌≡◌, drop}
use Rattle.jn_lowering.specs.Bases.{has_annotation}
use Rattle.jn_lowering.specs.Locals.{annotations_of}
use Rattle.jn_lower_stmt.proofs.types.has_annotation.Given as goal

abbrev pub invariant-loop-modifier : goal.invariant-loop-modifier
invariant-loop-modifier l = has_annotation l.name.0 (annotations_of l.modifiers) ≡ has_annotation l.name.0 (annotations_of (drop l.modifier-index l.modifiers))
