use Rattle.std.proofs.Common.{◌≡◌, ◌++◌, drop, map}
use Rattle.jn_lowering.specs.FileRows as spec
use Rattle.jn_places.specs.PlacedView.{placed_file}
use Rattle.jn_lower_rows.specs.Views.{first_package}
use Rattle.jn_lower_rows.proofs.files.file_rows.Given as goal

abbrev pub invariant-loop-file : goal.invariant-loop-file
invariant-loop-file l = l.rows ++ spec.files_rows (first_package l.first) (map placed_file (drop l.file-index l.files)) ≡ l.fn.rows ++ spec.outside_rows (map placed_file l.files)
