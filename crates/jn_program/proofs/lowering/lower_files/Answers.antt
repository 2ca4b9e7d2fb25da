use Rattle.std.proofs.Common.{ap, ◌∙◌, ◌++◌, map}
use Rattle.jn_heads.specs.Extract.{heads}
use Rattle.jn_classtable.specs.Table as tables
use Rattle.jn_places.specs.PlacedView.{placed_file}
use Rattle.jn_lowering.specs.BodyRows.{rows_of_bodies}
use Rattle.jn_lowering.specs.FileRows.{outside_rows}
use Rattle.jn_lower_stmt.specs.Sources.{sources_of}
use Rattle.jn_program.proofs.lowering.lower_files.Goals as goal

pub returns-clause-rows : goal.returns-clause-rows
returns-clause-rows g c =
    let files = map placed_file c.args.files.now in
    c.in_ok-push_all.ensures
    ∙ ap (λ r. r ++ c.as_slice.result.now) (c.in_ok-file_rows.ensures ∙ ap (λ r. r ++ outside_rows files) c.new-rows.ensures)
    ∙ ap (λ r. outside_rows files ++ r) (c.as_slice.ensures ∙ c.in_ok-lowered.ensures.rows)
    ∙ ap (λ p. outside_rows files ++ rows_of_bodies p (sources_of c.deref.result.now)) (c.indexed.ensures ∙ ap tables.table c.requires.table)
    ∙ ap (λ ss. outside_rows files ++ rows_of_bodies (tables.table (heads files)) ss) (ap sources_of c.deref.ensures.value ∙ c.in_ok-sources.ensures)
