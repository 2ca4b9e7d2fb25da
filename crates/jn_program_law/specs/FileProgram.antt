-- The program of files, and the rows for which there is none.
use Rattle.std.specs.Prelude.{cond, List, ◌++◌}
use Rattle.jn_base.specs.declared.infer.Infer.{Infer}
use Rattle.jn_base.specs.declared.place.Row.{Row}
use Rattle.jn_points.specs.declared.program.Program.{Program}
use Rattle.jn_places.specs.Placed.{PlacedFile}
use Rattle.jn_heads.specs.Extract.{heads}
use Rattle.jn_heads.specs.Inferred.{slots_by}
use Rattle.jn_classtable.specs.Table.{table}
use Rattle.jn_declaration_rules.specs.Rows.{no_rows}
use Rattle.jn_classtable.specs.Rows.{t_rows}
use Rattle.jn_lowering.specs.Bodies.{with_bodies}
use Rattle.jn_lowering.specs.BodyRows.{rows_of_bodies}
use Rattle.jn_lowering.specs.FileRows.{outside_rows}
use Rattle.jn_program_law.specs.FileSources.{sources}

-- the class table with the bodies that lowering gives
abbrev pub program_of_files : List PlacedFile → Program
program_of_files files = with_bodies (table (heads files)) (sources files)

-- the program of files by a choice of members that are inferred: the slots alone depend on it
abbrev pub inferring : Infer → List PlacedFile → Program
inferring infer files = record (program_of_files files) { slots = slots_by infer files }

-- rows J1 to J6
abbrev pub j_rows : List PlacedFile → List Row
j_rows files = outside_rows files ++ rows_of_bodies (table (heads files)) (sources files)

-- lowering is looked at where the class table has no row
abbrev pub rows_of_files : List PlacedFile → List Row
rows_of_files files = cond (no_rows (t_rows (heads files))) (j_rows files) (t_rows (heads files))
