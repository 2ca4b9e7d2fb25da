use Rattle.std.proofs.Common.{◌≡◌, ◌++◌, drop, map}
use Rattle.jn_lowering.specs.FileRows as spec
use Rattle.jn_places.specs.PlacedView.{placed_import}
use Rattle.jn_lower_rows.proofs.files.import_rows.Given as goal

abbrev pub invariant-loop-import : goal.invariant-loop-import
invariant-loop-import l = l.rows ++ spec.import_rows (map placed_import (drop l.import-index l.imports)) ≡ l.fn.rows ++ spec.import_rows (map placed_import l.imports)
