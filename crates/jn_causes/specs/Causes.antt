-- The report of causes: rows in groups by where their chains of causes end.
use Rattle.std.specs.Prelude.{ℕ, ◌++◌, Bool, true, false, not, List, [], Option, Some, None, is_some, map, filter, find, reverse, codes}
use Rattle.jn_base.specs.Codes.{code_name}
use Rattle.jn_base.specs.declared.code.Code.{Code}
use Rattle.jn_diag.specs.declared.shown.Verdict.{Verdict}
use Rattle.jn_reporters.specs.Reports.{plain_row, verdict_line}
use Rattle.jn_reporters.specs.Words.{note_words}
use Rattle.jn_reporters.specs.declared.shown.ShownNote.{ShownNote}
use Rattle.jn_reporters.specs.declared.shown.ShownRow.{ShownRow}
use Rattle.jn_causes.specs.Groups.{groups_text}
use Rattle.jn_causes.specs.declared.caused.Caused.{Caused}

-- the end of a row's chain of causes: the last note that is one
abbrev pub end_of : List ShownNote → Option ShownNote
end_of notes = find (λ note. note.ends) (reverse notes)

-- a row with an end belongs to that, by its words and its place, and another to its code
abbrev pub head_of : Code → Option ShownNote → List ℕ
head_of code None = codes " " ++ code_name code
head_of code (Some note) = codes ": " ++ note_words note

-- a row, with whether it has an end, what its group is told by, and its line as the plain report has it
abbrev pub caused_of : ShownRow → Caused
caused_of row = record { ends = is_some (end_of row.notes); head = head_of row.text.code (end_of row.notes); line = plain_row row }

-- whether the row has an end, or none
abbrev pub is_with : Bool → Caused → Bool
is_with true row = row.ends
is_with false row = not row.ends

-- rows with an end come first
abbrev pub causes_text : List Caused → List ℕ
causes_text rows = groups_text (filter (is_with true) rows) ++ groups_text (filter (is_with false) rows)

-- the text comes with the verdict, and before it nothing
abbrev pub text_of : List Caused → Option Verdict → List ℕ
text_of rows None = []
text_of rows (Some verdict) = causes_text rows ++ verdict_line verdict

-- the bytes of rows and a verdict
abbrev pub causes_shown : List ShownRow → Option Verdict → List ℕ
causes_shown rows verdict = text_of (map caused_of rows) verdict
