-- What a session is, and what its report gives.
use Rattle.std.specs.Prelude.{ℕ, ◌≡◌, List, [], map, Option, Some, None}
use Rattle.jn_base.specs.declared.infer.Infer.{Infer}
use Rattle.jn_base.specs.declared.place.Row.{Row}
use Rattle.jn_command.specs.declared.report.Report.{Report}
use Rattle.jn_command.specs.declared.report.Report.TheVariants.{Refused, Checked}
use Rattle.jn_command.specs.Reports.{rows_of, verdict_of}
use Rattle.jn_command.specs.Shown.{row_of}
use Rattle.jn_diag.specs.declared.shown.RowText.{RowText}
use Rattle.jn_diag.specs.declared.shown.Verdict.{Verdict}
use Rattle.jn_front.specs.declared.source.SourceFile.{SourceFile}
use Rattle.jn_inference_law.specs.Solution.{IsLeastSignature}
use Rattle.jn_note_words.specs.declared.note.Notes.{Notes}
use Rattle.jn_notes.specs.Noted.{AreNotesOf}
use Rattle.jn_recheck_law.specs.Reusable.{Solved}
use Rattle.jn_recheck.specs.Files.{changed}
use Rattle.jn_recheck.specs.KeptRows.{AreMadeAnew}
use Rattle.jn_phases.specs.Phases.{TypedProgramOf}
use Rattle.jn_report.specs.Report.{IsReport}

-- the members that are inferred, the files, those at the last report, and the program, the texts of its names and the least signature of the last report that came to the rules
pub record SessionOf : Type 0 where
  pub infer : Infer
  pub files : List SourceFile
  pub last : List SourceFile
  pub kept : Option Solved

abbrev pub session_of : Infer → List SourceFile → List SourceFile → Option Solved → SessionOf
session_of infer files last kept = record { infer = infer; files = files; last = last; kept = kept }

-- the files' program, the texts of its names and its least signature
pub record IsSolutionOf (infer : Infer) (files : List SourceFile) (solved : Solved) : Type 0 where
  pub typed : TypedProgramOf infer files solved.names solved.program
  pub least : IsLeastSignature solved.program solved.signature

-- a report of the files, what it leaves to be kept, and how many bodies were not reusable: none where the rules aren't reached
abbrev pub IsRecheck : Infer → Option Solved → List SourceFile → Report → Option Solved → ℕ → Type 0
IsRecheck infer old files (Refused rows) new made = IsReport infer files (Refused rows) × (new ≡ None) × (made ≡ 0)
IsRecheck infer old files (Checked rows) new made = IsReport infer files (Checked rows) × ((solved : Solved) × (new ≡ Some solved) × IsSolutionOf infer files solved × AreMadeAnew old solved made)

-- what is new is kept in place of what was
abbrev pub or_else : Option Solved → Option Solved → Option Solved
or_else None old = old
or_else (Some solved) old = Some solved

-- a row as a reader sees it
abbrev pub text_of_row : List SourceFile → Row → RowText
text_of_row files row = (row_of files row).text

-- rows as a reader sees them, the same with their bytes, and verdict of a report of the files
abbrev pub AreShown : List SourceFile → Report → List RowText → List Row → Verdict → Type 0
AreShown files report rows places verdict = (rows ≡ map (text_of_row files) (rows_of report)) × (places ≡ rows_of report) × (verdict ≡ verdict_of report)

-- what a report of a session gives: rows, their places and verdict are those of the files' report by the session's choice, `files` is the number of names with another text
-- than at the last report, `made` that of the bodies that are not reusable
pub record Reports (before after : SessionOf) (rows : List RowText) (places : List Row) (verdict : Verdict) (files made : ℕ) : Type 0 where
  pub report : Report
  pub is : IsReport before.infer before.files report
  pub shown : AreShown before.files report rows places verdict
  pub changes : files ≡ changed before.last before.files
  pub chosen : after.infer ≡ before.infer
  pub stays : after.files ≡ before.files
  pub last : after.last ≡ before.files
  pub found : Option Solved
  pub recheck : IsRecheck before.infer before.kept before.files report found made
  pub keeps : after.kept ≡ or_else found before.kept

-- the notes of these rows in what is kept; none where nothing is
abbrev pub HaveNotes : Option Solved → List Row → List Notes → Type 0
HaveNotes None rows notes = notes ≡ []
HaveNotes (Some solved) rows notes = AreNotesOf solved.program solved.names solved.signature rows notes
