-- The report as the XML of Checkstyle (its XMLLogger).
use Rattle.std.specs.Prelude.{ℕ, ◌++◌, List, [], ◌∷◌, Option, codes, decimal, bytes_eq, if◌then◌else◌}
use Rattle.jn_base.specs.Codes.{code_name}
use Rattle.jn_base.specs.declared.code.Code.{Code}
use Rattle.jn_diag.specs.declared.shown.Verdict.{Verdict}
use Rattle.jn_report_formats.specs.Escapes.{xml_text}
use Rattle.jn_report_formats.specs.Kept.{documented}
use Rattle.jn_reporters.specs.Words.{told_noted}
use Rattle.jn_reporters.specs.declared.shown.ShownNote.{ShownNote}
use Rattle.jn_reporters.specs.declared.shown.ShownRow.{ShownRow}
use Rattle.jn_report_formats.specs.declared.kept.KeptRow.{KeptRow}

-- the element of a row: where it stands, and what it says
abbrev pub error_place : KeptRow → List ℕ
error_place row = codes "    <error line=\"" ++ decimal row.line ++ codes "\" column=\"" ++ decimal row.col ++ codes "\""

-- what is wrong, what to do about it, and the first note, as an attribute's value
unfoldable pub error_words : Code → List ShownNote → List ℕ
error_words code notes = xml_text (told_noted code notes)

abbrev pub error_meaning : KeptRow → List ℕ
error_meaning row =
    codes " severity=\"error\" message=\"" ++ code_name row.code ++ codes ": " ++ error_words row.code row.notes
    ++ codes "\" source=\"nullcheck." ++ code_name row.code ++ codes "\"/>\n"

abbrev pub error_element : KeptRow → List ℕ
error_element row = error_place row ++ error_meaning row

-- the begin and the end of the element of a file
abbrev pub file_begin : List ℕ → List ℕ
file_begin name = codes "  <file name=\"" ++ xml_text name ++ codes "\">\n"

abbrev pub file_end : List ℕ
file_end = codes "  </file>\n"

-- between a row of a file and one of another file its element ends, and the other's begins
abbrev pub file_change : List ℕ → List ℕ → List ℕ
file_change name next = if bytes_eq name next then [] else file_end ++ file_begin next

-- the rows that follow a row of the file of this name, and the end of the last file's element
abbrev pub rows_behind : List ℕ → List KeptRow → List ℕ
rows_behind name [] = file_end
rows_behind name (row ∷ rows) = file_change name row.name ++ error_element row ++ rows_behind row.name rows

-- an element for each run of rows of one file
abbrev pub file_elements : List KeptRow → List ℕ
file_elements [] = []
file_elements (row ∷ rows) = file_begin row.name ++ error_element row ++ rows_behind row.name rows

abbrev pub checkstyle_document : List KeptRow → List ℕ
checkstyle_document rows =
    codes "<?xml version=\"1.0\" encoding=\"UTF-8\"?>\n<checkstyle version=\"4.3\">\n" ++ file_elements rows ++ codes "</checkstyle>\n"

abbrev pub checkstyle_shown : List ShownRow → Option Verdict → List ℕ
checkstyle_shown = documented checkstyle_document
