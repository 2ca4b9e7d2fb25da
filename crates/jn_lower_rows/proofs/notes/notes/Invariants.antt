use Rattle.std.proofs.Common.{◌≡◌, ◌++◌, drop}
use Rattle.jn_lowering.specs.FileRows.{notes_of}
use Rattle.jn_lower_rows.proofs.notes.notes.Given as goal

abbrev pub invariant-loop-modifier : goal.invariant-loop-modifier
invariant-loop-modifier l = l.found.items ++ notes_of (drop l.modifier-index l.modifiers) ≡ notes_of l.modifiers
