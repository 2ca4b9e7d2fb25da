-- What is promised of files beside their report and their safety: the notes of its rows, and what their main does.
use Rattle.std.specs.Prelude.{ℕ, ◌≡◌, List, [], ◌∷◌, map}
use Rattle.jn_base.specs.declared.place.Row.{Row}
use Rattle.jn_points.specs.declared.program.Program.{Program}
use Rattle.jn_base.specs.declared.infer.Infer.{Infer}
use Rattle.jn_quals.specs.Qualifier.{Qualifier}
use Rattle.jn_command.specs.declared.noted.Noted.{Noted}
use Rattle.jn_command.specs.declared.report.Report.{Report}
use Rattle.jn_command.specs.declared.status.Status.{Status}
use Rattle.jn_command.specs.Shown.{note_of}
use Rattle.jn_note_words.specs.declared.note.Note.{Note}
use Rattle.jn_note_words.specs.declared.note.Notes.{Notes}
use Rattle.jn_notes.specs.Noted.{AreNotesOf}
use Rattle.jn_phase_notes.specs.Phases.{PhaseNotes as AreOfPhase}
use Rattle.jn_reporters.specs.declared.shown.ShownNote.{ShownNote}
use Rattle.jn_command.specs.declared.report.Report.TheVariants.{Refused, Checked}
use Rattle.jn_inference_law.specs.Solution.{IsLeastSignature}
use Rattle.jn_run.specs.Main.{RunsTo as ProgramRunsTo, Prints as ProgramPrints}
use Rattle.jn_front.specs.declared.source.SourceFile.{SourceFile}
use Rattle.jn_phases.specs.Phases.{TypedProgramOf}

-- notes as they are shown: with the places of their first bytes in the files
abbrev pub placed_note : List SourceFile → Note → ShownNote
placed_note files note = note_of files note.joined note.ends note.words note.span

-- the notes of one row as they are shown, and how many more steps there are
abbrev pub placed : List SourceFile → Notes → Noted
placed files notes = record { notes = map (placed_note files) notes.shown; more = notes.more }

-- the notes of rows of the rules: those under the least signature and the least tables
pub record RuleNotes (infer : Infer) (files : List SourceFile) (rows : List Row) (noted : List Noted) : Type 0 where
  pub names : List (List ℕ)
  pub P : Program
  pub of_files : TypedProgramOf infer files names P
  pub signature : List Qualifier
  pub least : IsLeastSignature P signature
  pub notes : List Notes
  pub are : AreNotesOf P names signature rows notes
  pub places : noted ≡ map (placed files) notes

-- the notes of rows of a phase before the rules
pub record PhaseNotes (files : List SourceFile) (rows : List Row) (noted : List Noted) : Type 0 where
  pub notes : List Notes
  pub are : AreOfPhase files rows notes
  pub places : noted ≡ map (placed files) notes

-- the notes of a report's rows: those of a phase, or of the rules
abbrev pub AreNotes : Infer → List SourceFile → Report → List Noted → Type 0
AreNotes infer files (Refused rows) noted = PhaseNotes files rows noted
AreNotes infer files (Checked []) noted = noted ≡ []
AreNotes infer files (Checked (row ∷ rows)) noted = RuleNotes infer files (row ∷ rows) noted

-- so many steps of the files' one main with these words come to the status, and write the bytes
pub record RunsTo (infer : Infer) (files : List SourceFile) (words : List (List ℕ)) (steps : ℕ) (status : Status) (bytes : List ℕ) : Type 0 where
  pub names : List (List ℕ)
  pub P : Program
  pub of_files : TypedProgramOf infer files names P
  pub runs : ProgramRunsTo files P names words steps status bytes

-- so many steps of it print the text
pub record Prints (infer : Infer) (files : List SourceFile) (words : List (List ℕ)) (steps : ℕ) (text : List ℕ) : Type 0 where
  pub names : List (List ℕ)
  pub P : Program
  pub of_files : TypedProgramOf infer files names P
  pub prints : ProgramPrints P names words steps text
