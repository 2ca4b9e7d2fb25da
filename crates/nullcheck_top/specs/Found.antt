-- What a check of files finds, and the output of more files than there may be.
use Rattle.std.specs.Prelude.{ℕ, ◌≡◌, ◌++◌, Bool, false, [], ◌∷◌, List, map, Option, Some, None, Result, Ok, Err}
use Rattle.jn_base.specs.declared.infer.Infer.{Infer}
use Rattle.jn_base.specs.declared.place.Row.{Row}
use Rattle.jn_diag.specs.declared.shown.Verdict.{Verdict}
use Rattle.jn_command.specs.declared.report.Report.{Report}
use Rattle.jn_command.specs.declared.report.Report.TheVariants.{Refused, Checked}
use Rattle.jn_command.specs.declared.status.Status.{Status}
use Rattle.jn_command.specs.declared.status.Status.TheVariants.{Refused as RefusedStatus}
use Rattle.jn_command.specs.declared.noted.Noted.{Noted}
use Rattle.nullcheck_top.specs.CommandAnswer.{AreShownNotes}
use Rattle.jn_command.specs.Reports.{rows_of}
use Rattle.jn_command.specs.Shown.{rows_with, shown, shown_noted}
use Rattle.jn_front.specs.declared.source.SourceFile.{SourceFile}
use Rattle.jn_front.specs.declared.source.SourceRead.{SourceRead}
use Rattle.jn_front.specs.Files.{AreReads, files_of_reads}
use Rattle.jn_inference_law.specs.Solution.{IsLeastSignature}
use Rattle.jn_places.specs.Placed.{PlacedFile}
use Rattle.jn_points.specs.declared.program.Program.{Program}
use Rattle.jn_quals.specs.Qualifier.{Qualifier}
use Rattle.jn_reporters.specs.declared.shown.ShownRow.{ShownRow}
use Rattle.nullcheck_top.specs.declared.found.Found.{Found}
use Rattle.jn_phases.specs.Phases.{AreTreesOrNone, NoneParsed, TypedProgramOf}
use Rattle.jn_report.specs.Report.{IsReport}
use Rattle.jn_phase_notes.specs.Stops.{is_syntax}
use Rattle.nullcheck_top.specs.Report.{AreNotes}

-- the program of accepted files is at hand, and none where they aren't accepted
abbrev pub IsAtHand : Infer → List SourceFile → List (List ℕ) → Report → Option (Program × List Qualifier) → Type 0
IsAtHand infer files names report None = report ≡ Checked [] → ⊥
IsAtHand infer files names report (Some accepted) = (report ≡ Checked []) × TypedProgramOf infer files names accepted.0

-- files that are checked, with rows of the rules
abbrev pub IsBroken : Report → Type 0
IsBroken (Refused rows) = ⊥
IsBroken (Checked []) = ⊥
IsBroken (Checked (row ∷ rows)) = Unit {0}

-- the program and the least signature of files that break rules are at hand, and none of other files
pub record IsLeft (infer : Infer) (files : List SourceFile) (names : List (List ℕ)) (report : Report) (left : Program × List Qualifier) : Type 0 where
  pub broken : IsBroken report
  pub of_files : TypedProgramOf infer files names left.0
  pub least : IsLeastSignature left.0 left.1

abbrev pub AreLeft : Infer → List SourceFile → List (List ℕ) → Report → Option (Program × List Qualifier) → Type 0
AreLeft infer files names report None = IsBroken report → ⊥
AreLeft infer files names report (Some left) = IsLeft infer files names report left

pub record IsFinding (infer : Infer) (files : List SourceFile) (names : List (List ℕ)) (found : Found) : Type 0 where
  pub report : IsReport infer files found.report
  pub accepted : IsAtHand infer files names found.report found.accepted
  pub rejected : AreLeft infer files names found.report found.rejected

-- of files that a phase refused, the names and the trees are at hand, or they have none
abbrev pub AreAtHand : List SourceRead → Report → List (List ℕ) → List PlacedFile → Type 0
AreAtHand reads report names trees = (rows : List Row) → report ≡ Refused rows → (files : List SourceFile) → AreReads reads files → AreTreesOrNone files names trees

-- what is found where the rules have these rows: the program and its signature are accepted, or left
abbrev pub found_of : List Row → Result (Program × List Qualifier) (Program × List Qualifier) → Found
found_of rows (Ok accepted) = record { report = Checked rows; accepted = Some accepted; rejected = None }
found_of rows (Err left) = record { report = Checked rows; accepted = None; rejected = Some left }

-- what was read of files that have a program are the files
abbrev pub AreWhole : Report → List SourceRead → Type 0
AreWhole report reads = (rows : List Row) → report ≡ Checked rows → (files : List SourceFile) → AreReads reads files → files_of_reads reads ≡ files

-- files that are refused by one row, which isn't of their syntax, since they have no trees, and their report shown so
pub record IsRefusalOf (show : List ShownRow → Option Verdict → List ℕ) (infer : Infer) (files : List SourceFile) (status : Status) (bytes : List ℕ) : Type 0 where
  pub row : Row
  pub other : is_syntax row.code ≡ false
  pub is : IsReport infer files (Refused (row ∷ []))
  pub unparsed : NoneParsed files
  pub ends : status ≡ RefusedStatus
  pub shows : bytes ≡ shown show files (Refused (row ∷ []))

-- after these bytes, a report of files shown so, with the notes of its rows where notes are shown
abbrev pub ShowsReport : Bool → (List ShownRow → Option Verdict → List ℕ) → Infer → List SourceFile → Report → List ℕ → List ℕ → Type 0
ShowsReport notes show infer files report front bytes = (noted : List Noted) × AreShownNotes AreNotes notes infer files report noted × (bytes ≡ front ++ shown_noted show files report noted)

-- the rows that a reporter was given: after those that it had, the report's, with their notes where notes are shown
abbrev pub IsGiven : Bool → List ShownRow → Infer → List SourceRead → List SourceFile → Report → List ShownRow → Type 0
IsGiven notes had infer reads files report rows = (noted : List Noted) × AreShownNotes AreNotes notes infer files report noted × (rows ≡ had ++ rows_with (files_of_reads reads) noted (rows_of report))
