-- The text of a report: what its reporter makes of its rows and its verdict.
use Rattle.std.specs.Prelude.{ℕ, Bool, List, [], ◌∷◌, map, Option, Some, None, get_or, slice_get}
use Rattle.jn_base.specs.declared.place.Row.{Row}
use Rattle.jn_base.specs.declared.place.Span.{Span}
use Rattle.jn_base.specs.Place.{place_in}
use Rattle.jn_diag.specs.declared.shown.Verdict.{Verdict}
use Rattle.jn_front.specs.declared.source.SourceFile.{SourceFile}
use Rattle.jn_command.specs.declared.noted.Noted.{Noted}
use Rattle.jn_command.specs.declared.report.Report.{Report}
use Rattle.jn_command.specs.Reports.{rows_of, verdict_of}
use Rattle.jn_reporters.specs.Views.{row_view}
use Rattle.jn_reporters.specs.declared.shown.ShownNote.{ShownNote}
use Rattle.jn_reporters.specs.declared.shown.ShownRow.{ShownRow}

-- ---- rows

-- a row as a reporter is given it, with what is shown of its line, and without notes; one of no file has no name, and stands at its beginning
abbrev pub row_of_file : Option SourceFile → Row → ShownRow
row_of_file None row = record { text = record { name = []; line = 1; col = 1; code = row.code }; end_line = 1; end_col = 1; extract = None; notes = []; more = 0 }
row_of_file (Some file) row = row_view file.name file.bytes row

-- the same of a row, whose span says by number in which of the files it stands
abbrev pub row_of : List SourceFile → Row → ShownRow
row_of files row = row_of_file (slice_get files row.span.file.0) row

-- without notes
abbrev pub shown : (List ShownRow → Option Verdict → List ℕ) → List SourceFile → Report → List ℕ
shown show files report = show (map (row_of files) (rows_of report)) (Some (verdict_of report))

-- ---- rows with notes

-- the note that tells these words, as a reporter is given it, with the place of its first byte, whether it goes on with the one before it, and whether a chain of causes ends there; one of no file
-- has no name, and stands at its beginning
abbrev pub note_of_file : Option SourceFile → Bool → Bool → List ℕ → Span → ShownNote
note_of_file None joined ends words span = record { text = words; name = []; line = 1; col = 1; joined = joined; ends = ends }
note_of_file (Some file) joined ends words span = let place = place_in file.bytes span in record { text = words; name = file.name; line = place.line; col = place.col; joined = joined; ends = ends }

-- the same of a note, whose span says by number in which of the files it stands
abbrev pub note_of : List SourceFile → Bool → Bool → List ℕ → Span → ShownNote
note_of files joined ends words span = note_of_file (slice_get files span.file.0) joined ends words span

-- no note is shown, and none is left out
abbrev pub no_notes : Noted
no_notes = record { notes = []; more = 0 }

-- the notes of the row at a place; none where the list is shorter
abbrev pub noted_at : List Noted → ℕ → Noted
noted_at noted at = get_or noted at no_notes

-- a row with these notes in place of its own, and how many more there are
abbrev pub with_notes : ShownRow → Noted → ShownRow
with_notes row noted = record row { notes = noted.notes; more = noted.more }

-- the notes of all rows but the first
abbrev pub noted_behind : List Noted → List Noted
noted_behind [] = []
noted_behind (first ∷ noted) = noted

-- the rows, each with the notes at its place
abbrev pub rows_with : List SourceFile → List Noted → List Row → List ShownRow
rows_with files noted [] = []
rows_with files noted (row ∷ rows) = with_notes (row_of files row) (noted_at noted 0) ∷ rows_with files (noted_behind noted) rows

-- what a reporter makes of the rows with their notes, and of the verdict
abbrev pub shown_noted : (List ShownRow → Option Verdict → List ℕ) → List SourceFile → Report → List Noted → List ℕ
shown_noted show files report noted = show (rows_with files noted (rows_of report)) (Some (verdict_of report))
