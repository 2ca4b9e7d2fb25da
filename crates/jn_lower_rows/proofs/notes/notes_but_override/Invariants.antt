use Rattle.std.proofs.Common.{◌≡◌, ◌++◌, drop}
use Rattle.jn_lowering.specs.FileRows.{notes_of, without_override}
use Rattle.jn_lower_rows.proofs.notes.notes_but_override.Given as goal

abbrev pub invariant-loop-modifier : goal.invariant-loop-modifier
invariant-loop-modifier l = l.found.items ++ without_override (notes_of (drop l.modifier-index l.modifiers)) ≡ without_override (notes_of l.modifiers)
