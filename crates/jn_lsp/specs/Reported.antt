-- What reports tell of files (Language Server Protocol 3.17, "Publish Diagnostics"): where one ends before the rules, also what the last one told that came to them.
use Rattle.std.specs.Prelude.{ℕ, ◌≡◌, ◌++◌, Bool, true, false, List, [], ◌∷◌, Option, Some, codes, decimal, if◌then◌else◌, slice_index_or}
use Rattle.jn_base.specs.Codes.{code_name}
use Rattle.jn_base.specs.Messages.{code_message}
use Rattle.jn_base.specs.Place.{place_in}
use Rattle.jn_base.specs.declared.code.Code.{Code}
use Rattle.jn_base.specs.declared.code.Code.TheVariants.{B1, B2, B3, L1, L2, L3, L4, L5, L6, L7, S1, S2}
use Rattle.jn_base.specs.declared.infer.Infer.{Infer}
use Rattle.jn_base.specs.declared.place.Row.{Row}
use Rattle.jn_command.specs.declared.report.Report.{Report}
use Rattle.jn_command.specs.declared.report.Report.TheVariants.{Refused, Checked}
use Rattle.jn_command.specs.Reports.{rows_of, verdict_of}
use Rattle.jn_diag.specs.declared.shown.Verdict.{Verdict}
use Rattle.jn_front.specs.declared.source.SourceFile.{SourceFile}
use Rattle.jn_lsp_solved.specs.Related.{home_of, no_file, range_in}
use Rattle.jn_lsp_text.specs.declared.encoding.Encoding.{Encoding}
use Rattle.jn_lsp_text.specs.declared.reply.Diagnostic.{Diagnostic}
use Rattle.jn_lsp_text.specs.declared.reply.Related.{Related}
use Rattle.jn_lsp_text.specs.declared.reply.Said.TheVariants.{Unchecked}
use Rattle.jn_note_words.specs.declared.note.Notes.{Notes}
use Rattle.jn_notes.specs.Noted.{AreNotesOf}
use Rattle.jn_phase_notes.specs.Phases.{PhaseNotes}
use Rattle.jn_recheck.specs.Files.{is_as_before}
use Rattle.jn_recheck.specs.Sessions.{IsSolutionOf}
use Rattle.jn_recheck_law.specs.Reusable.{Solved}
use Rattle.jn_report.specs.Report.{IsReport}
use Rattle.jn_lsp.specs.declared.diagnostics.Told.{Told}
use Rattle.jn_lsp.specs.declared.unchecked.LastReport.{LastReport}
use Rattle.jn_lsp.specs.Front.{front}
use Rattle.jn_lsp.specs.Telling.{diagnostics_at, told_from, told_of}

-- ---- the last report that came to the rules

-- none came so far
abbrev pub no_report : LastReport
no_report = record { files = []; told = [] }

-- what it told of a file whose text is as it was then
abbrev pub kept_of : LastReport → SourceFile → List Diagnostic
kept_of last file = if is_as_before last.files file then told_of last.told file.name else []

-- ---- why a file isn't checked

-- what is wrong with the file of a row of this code, where rows of it keep a report from the rules
abbrev pub wrong : Code → List ℕ
wrong B1 = codes "is beyond the limits"
wrong B2 = codes "is beyond the limits"
wrong B3 = codes "is beyond the limits"
wrong L1 = codes "doesn't parse"
wrong L2 = codes "doesn't parse"
wrong L3 = codes "doesn't parse"
wrong L4 = codes "doesn't parse"
wrong L5 = codes "doesn't parse"
wrong L6 = codes "doesn't parse"
wrong L7 = codes "doesn't parse"
wrong S1 = codes "doesn't parse"
wrong S2 = codes "doesn't parse"
wrong _ = codes "isn't of the subset"

-- LINE:COL CODE of a row
abbrev pub spot : List SourceFile → Row → List ℕ
spot files row =
    let place = place_in (home_of files row.span).bytes row.span in
    decimal place.line ++ codes ":" ++ decimal place.col ++ codes " " ++ code_name row.code

abbrev pub why : List SourceFile → Row → List ℕ
why files row = codes "not checked since " ++ (home_of files row.span).name ++ codes " " ++ wrong row.code ++ codes ": " ++ spot files row

-- the place of a row, with what is wrong there
abbrev pub there : Encoding → List SourceFile → Row → Related
there encoding files row = record { name = (home_of files row.span).name; range = range_in encoding files row.span; words = code_message row.code }

-- at a file's first token: that it isn't checked, since the report has this row
abbrev pub unchecked : Encoding → List SourceFile → Row → SourceFile → Diagnostic
unchecked encoding files row file = record { range = front encoding file.bytes; said = Unchecked (why files row); related = there encoding files row ∷ [] }

-- the same of the first of these rows
abbrev pub unchecked_by : Encoding → List SourceFile → List Row → SourceFile → List Diagnostic
unchecked_by encoding files [] file = []
unchecked_by encoding files (row ∷ rows) file = unchecked encoding files row file ∷ []

-- ---- what is told

abbrev pub or_else : List Diagnostic → List Diagnostic → List Diagnostic
or_else [] other = other
or_else (first ∷ rest) other = first ∷ rest

-- of the file of a number, where the report is these rows before the rules, with these notes: its rows; where it has none, what was told of its text as
-- it is, and why it isn't checked
abbrev pub unchecked_at : Encoding → LastReport → List SourceFile → List Row → List Notes → ℕ → List Diagnostic
unchecked_at encoding last files rows notes at =
    let file = slice_index_or files at no_file in
    or_else (diagnostics_at encoding files rows notes at) (kept_of last file ++ unchecked_by encoding files rows file)

-- of the file of a number, by the report of the files
abbrev pub reported_at : Encoding → LastReport → List SourceFile → Report → List Notes → ℕ → List Diagnostic
reported_at encoding last files (Refused rows) notes at = unchecked_at encoding last files rows notes at
reported_at encoding last files (Checked rows) notes at = diagnostics_at encoding files rows notes at

-- ---- reports

-- the notes of rows of the rules: those under the least signature
pub record RuleNotes (infer : Infer) (files : List SourceFile) (rows : List Row) (notes : List Notes) : Type 0 where
  pub solved : Solved
  pub is : IsSolutionOf infer files solved
  pub are : AreNotesOf solved.program solved.names solved.signature rows notes

-- the notes of a report's rows: those of a phase, or of the rules
abbrev pub AreReportNotes : Infer → List SourceFile → Report → List Notes → Type 0
AreReportNotes infer files (Refused rows) notes = PhaseNotes files rows notes
AreReportNotes infer files (Checked []) notes = notes ≡ []
AreReportNotes infer files (Checked (row ∷ rows)) notes = RuleNotes infer files (row ∷ rows) notes

-- the files' report where these members are inferred, and its rows' notes
pub record AreFindings (infer : Infer) (files : List SourceFile) (report : Report) (notes : List Notes) : Type 0 where
  pub is : IsReport infer files report
  pub notes_are : AreReportNotes infer files report notes

-- a report comes to the rules, or ends before
abbrev pub comes_to_rules : Report → Bool
comes_to_rules (Refused rows) = false
comes_to_rules (Checked rows) = true

-- of each file, in their order, what the files' report says after this last one that came to the rules; and whether it comes there itself
pub record AreTold (infer : Infer) (encoding : Encoding) (last : LastReport) (came : Bool) (files : List SourceFile) (told : List Told) : Type 0 where
  pub report : Report
  pub notes : List Notes
  pub found : AreFindings infer files report notes
  pub comes : came ≡ comes_to_rules report
  pub are : told ≡ told_from (reported_at encoding last files report notes) 0 files

-- of no files nothing
abbrev pub IsTold : Infer → Encoding → LastReport → Bool → List SourceFile → List Told → Type 0
IsTold infer encoding last came [] told = (told ≡ []) × (came ≡ false)
IsTold infer encoding last came (file ∷ files) told = AreTold infer encoding last came (file ∷ files) told

-- the last report that came to the rules, after one that told this of these files
abbrev pub next_last : Bool → List SourceFile → List Told → LastReport → LastReport
next_last false files told last = last
next_last true files told last = record { files = files; told = told }

-- what is kept of a report of these files that came to the rules
abbrev pub IsKeptOf : Infer → List SourceFile → Report → Option Solved → Type 0
IsKeptOf infer files (Refused rows) kept = Unit {0}
IsKeptOf infer files (Checked rows) kept = (solved : Solved) × (kept ≡ Some solved) × IsSolutionOf infer files solved

-- rows and verdict are those of the files' report, and this is kept after it
pub record IsReported (infer : Infer) (files : List SourceFile) (kept : Option Solved) (rows : List Row) (verdict : Verdict) : Type 0 where
  pub report : Report
  pub is : IsReport infer files report
  pub rows_are : rows ≡ rows_of report
  pub verdict_is : verdict ≡ verdict_of report
  pub keeps : IsKeptOf infer files report kept

-- rows and verdict are those of the files' report, and these are the rows' notes
pub record AreNoted (infer : Infer) (files : List SourceFile) (rows : List Row) (verdict : Verdict) (notes : List Notes) : Type 0 where
  pub report : Report
  pub found : AreFindings infer files report notes
  pub rows_are : rows ≡ rows_of report
  pub verdict_is : verdict ≡ verdict_of report
