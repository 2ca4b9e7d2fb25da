use Rattle.std.proofs.Common.{◌≡◌, ◌++◌, drop}
use Rattle.jn_lowering.specs.Locals.{annotations_of}
use Rattle.jn_lower_rows.proofs.notes.local_notes.Given as goal

abbrev pub invariant-loop-modifier : goal.invariant-loop-modifier
invariant-loop-modifier l = l.found.items ++ annotations_of (drop l.modifier-index l.modifiers) ≡ annotations_of l.modifiers
