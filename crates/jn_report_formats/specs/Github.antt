-- The report as workflow commands of GitHub Actions.
use Rattle.std.specs.Prelude.{ℕ, ◌++◌, List, Option, codes, decimal}
use Rattle.jn_base.specs.Codes.{code_name}
use Rattle.jn_diag.specs.declared.shown.RowText.{RowText}
use Rattle.jn_diag.specs.declared.shown.Verdict.{Verdict}
use Rattle.jn_report_formats.specs.Escapes.{escaped}
use Rattle.jn_reporters.specs.Reports.{rows_shown}
use Rattle.jn_reporters.specs.Words.{told_noted}
use Rattle.jn_reporters.specs.declared.shown.ShownNote.{ShownNote}
use Rattle.jn_reporters.specs.declared.shown.ShownRow.{ShownRow}
use Rattle.jn_report_formats.specs.declared.escapes.Escape.TheVariants.{Message, Property}

-- a command that shows the row, with its first note, beside its line: ::error file=FILE,line=LINE,col=COL::CODE MESSAGE; cure: CURE; note: NOTE
abbrev pub github_line : RowText → List ShownNote → List ℕ
github_line row notes =
    codes "::error file=" ++ escaped Property row.name ++ codes ",line=" ++ decimal row.line ++ codes ",col=" ++ decimal row.col
    ++ codes "::" ++ code_name row.code ++ codes " " ++ escaped Message (told_noted row.code notes) ++ codes "\n"

abbrev pub github_row : ShownRow → List ℕ
github_row row = github_line row.text row.notes

abbrev pub github_shown : List ShownRow → Option Verdict → List ℕ
github_shown = rows_shown github_row
