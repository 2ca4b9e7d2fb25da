use Rattle.std.proofs.Common.{◌≡◌, ◌++◌, drop, map}
use Rattle.jn_lowering.specs.FileRows as spec
use Rattle.jn_places.specs.PlacedView.{placed_type}
use Rattle.jn_lower_rows.proofs.files.types_rows.Given as goal

abbrev pub invariant-loop-declared : goal.invariant-loop-declared
invariant-loop-declared l = l.rows ++ spec.types_rows (map placed_type (drop l.declared-index l.types)) ≡ l.fn.rows ++ spec.types_rows (map placed_type l.types)
