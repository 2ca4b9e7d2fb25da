use Rattle.std.proofs.Common.{◌≡◌, ◌++◌, drop}
use Rattle.jn_lowering.specs.FileRows as spec
use Rattle.jn_places.specs.PlacedView.{placed_declarators}
use Rattle.jn_lower_rows.proofs.files.names_rows.Given as goal

abbrev pub invariant-loop-declarator : goal.invariant-loop-declarator
invariant-loop-declarator l = l.rows ++ spec.names_rows (placed_declarators (drop l.declarator-index l.declarators)) ≡ l.fn.rows ++ spec.names_rows (placed_declarators l.declarators)
