-- What an answer says of what is asked for, the files and the output, by whatever a report of files is.
use Rattle.std.specs.Prelude.{ℕ, zero, suc, ◌≤◌, ◌<◌, ◌≡◌, ◌⊎◌, ◌++◌, Bool, true, false, List, [], ◌∷◌, length, Option, Some, None}
use Rattle.jn_outside.specs.declared.given.Given.{Given}
use Rattle.jn_outside.specs.Files.{Holding}
use Rattle.jn_outside.specs.Sink.{Appends}
use Rattle.jn_command.specs.declared.status.Status.{Status}
use Rattle.jn_command.specs.declared.status.Status.TheVariants.{Ok, OutOfMemory, Usage}
use Rattle.jn_base.specs.declared.infer.Infer.{Infer}
use Rattle.jn_asked.specs.Asked.{Asked, usage_line}
use Rattle.jn_command.specs.Made.{front_of, made_file, made_text}
use Rattle.jn_front.specs.declared.source.SourceFile.{SourceFile}
use Rattle.jn_front.specs.Files.{most_files, StartsOnly, AllHeld}
use Rattle.jn_command.specs.declared.noted.Noted.{Noted}
use Rattle.jn_command.specs.declared.report.Report.{Report}
use Rattle.jn_command.specs.declared.report.Report.TheVariants.{Checked}
use Rattle.jn_command.specs.Reports.{status_of}
use Rattle.jn_command.specs.Shown.{shown_noted}
use Rattle.jn_command.specs.Answer.{Reading, AreFiles, AnswersBy}

-- the files that are checked: those that are read under the names, or the program of so many classes
abbrev pub AreChecked : Reading → ℕ → List (List ℕ) → List SourceFile → Type 0
AreChecked read zero names files = AreFiles read names files
AreChecked read (suc n) names files = files ≡ made_file (made_text (suc n)) ∷ []

-- files are read: no program is made, and the names are not too many
abbrev pub ReadsFew : ℕ → List (List ℕ) → Type 0
ReadsFew zero names = length names ≤ most_files
ReadsFew (suc n) names = ⊥

-- a command is asked for, and it reads files
abbrev pub ReadsFiles : Option Asked → Type 0
ReadsFiles None = ⊥
ReadsFiles (Some a) = ReadsFew a.command.classes a.command.files

-- no file is read
abbrev pub ReadsNone : ℕ → List (List ℕ) → Type 0
ReadsNone zero names = most_files < length names
ReadsNone (suc n) names = Unit {0}

-- no command is asked for, or one that makes a program or has too many names
abbrev pub ReadsNothing : Option Asked → Type 0
ReadsNothing None = Unit {0}
ReadsNothing (Some a) = ReadsNone a.command.classes a.command.files

-- the names under which files may be read
abbrev pub names_read : ℕ → List (List ℕ) → List (List ℕ)
names_read zero names = names
names_read (suc n) names = []

-- no name but those of the files is started, and only the first of these, in their order
abbrev pub Starts : Option Asked → List Given → List Given → Type 0
Starts None before now = now ≡ before
Starts (Some a) before now = StartsOnly (names_read a.command.classes a.command.files) before now

-- each file that the command may read is held by the source; where no command is asked for, nothing is needed
abbrev pub HoldsFiles : Option Holding → Option Asked → Type 0
HoldsFiles held None = Unit {0}
HoldsFiles held (Some a) = AllHeld held (names_read a.command.classes a.command.files)

-- the notes with which the rows of a report are shown, by what its notes are: none by a reporter that shows no notes
module _ (AreNotes : Infer → List SourceFile → Report → List Noted → Type 0) where
  -- the notes of the report, where the reporter shows them, else none
  abbrev pub AreShownNotes : Bool → Infer → List SourceFile → Report → List Noted → Type 0
  AreShownNotes false infer files report noted = noted ≡ []
  AreShownNotes true infer files report noted = AreNotes infer files report noted

-- by what, for a choice of members that are inferred, a report of files is, which notes its rows have, what is promised of files that are accepted, what a run of so many steps of their main with these words comes to, and what it prints
module _ (IsReport : Infer → List SourceFile → Report → Type 0) (AreNotes : Infer → List SourceFile → Report → List Noted → Type 0) (IsSafe : Infer → List SourceFile → Type 0) (RunsTo : Infer → List SourceFile → List (List ℕ) → ℕ → Status → List ℕ → Type 0) (Prints : Infer → List SourceFile → List (List ℕ) → ℕ → List ℕ → Type 0) where
  module _ (a : Asked) (files : List SourceFile) where
    -- status and bytes are those of the report of the files, whose rows are shown with their notes, after the line of a program that is made, which no document takes; the files are safe where the status is that of acceptance
    pub record IsReportOfFiles (status : Status) (bytes : List ℕ) : Type 0 where
      pub report : Report
      pub is : IsReport a.command.infer files report
      pub noted : List Noted
      pub notes : AreShownNotes AreNotes a.notes a.command.infer files report noted
      pub ends : status ≡ status_of report
      pub shows : bytes ≡ front_of a.document a.command.classes ++ shown_noted a.show files report noted
      pub safe : status ≡ Ok → IsSafe a.command.infer files

    -- they are those of the run of accepted files, which are safe
    pub record IsRunOfFiles (status : Status) (bytes : List ℕ) : Type 0 where
      pub accepted : IsReport a.command.infer files (Checked [])
      pub safe : IsSafe a.command.infer files
      pub runs : RunsTo a.command.infer files a.command.args a.command.steps status bytes

    -- where a run is asked for, accepted files are run, and of others the report is shown
    abbrev pub IsOutputBy : Bool → Status → List ℕ → Type 0
    IsOutputBy false status bytes = IsReportOfFiles status bytes
    IsOutputBy true status bytes = (IsReportOfFiles status bytes × (status ≡ Ok → ⊥)) ⊎ IsRunOfFiles status bytes

    -- status and bytes are those of these files, by whether a run is asked for
    abbrev pub IsOutputOfFiles : Status → List ℕ → Type 0
    IsOutputOfFiles status bytes = IsOutputBy a.command.run status bytes

    -- of the run that is asked for, the text of some of the steps was written
    pub record WritesSteps (old new : Option (List ℕ)) : Type 0 where
      pub run : a.command.run ≡ true
      pub accepted : IsReport a.command.infer files (Checked [])
      pub safe : IsSafe a.command.infer files
      pub steps : ℕ
      pub most : steps ≤ a.command.steps
      pub text : List ℕ
      pub prints : Prints a.command.infer files a.command.args steps text
      pub taken : Appends old new text

    -- what each status means, of files that were read
    abbrev pub AnswersFiles : Option (List ℕ) → Option (List ℕ) → Status → Type 0
    AnswersFiles old new status = AnswersBy IsOutputOfFiles (WritesSteps old new) ⊥ old new status

  -- they are those of the files that are checked
  pub record IsOutputOf (read : Reading) (a : Asked) (status : Status) (bytes : List ℕ) : Type 0 where
    pub files : List SourceFile
    pub are : AreChecked read a.command.classes a.command.files files
    pub output : IsOutputOfFiles a files status bytes

  -- the status and the bytes that the files and what is asked for define
  abbrev pub Defines : Reading → Option Asked → Status → List ℕ → Type 0
  Defines read None status bytes = (status ≡ Usage) × (bytes ≡ usage_line)
  Defines read (Some a) status bytes = IsOutputOf read a status bytes

  -- of the files that are checked, the text of some of the steps of their run was written
  pub record WritesSome (read : Reading) (a : Asked) (old new : Option (List ℕ)) : Type 0 where
    pub files : List SourceFile
    pub are : AreChecked read a.command.classes a.command.files files
    pub steps : WritesSteps a files old new

  -- a command is asked for, and of its run the text of some of the steps was written
  abbrev pub WritesPart : Reading → Option Asked → Option (List ℕ) → Option (List ℕ) → Type 0
  WritesPart read None old new = ⊥
  WritesPart read (Some a) old new = WritesSome read a old new

  -- what each status means
  abbrev pub Answers : Reading → Option Asked → Option (List ℕ) → Option (List ℕ) → Status → Type 0
  Answers read asked old new status = AnswersBy (Defines read asked) (WritesPart read asked old new) (ReadsFiles asked × (new ≡ old)) old new status

  -- a command, and no fault: all was written, or no memory was found
  abbrev pub Completes : Reading → Option Asked → Option (List ℕ) → Option (List ℕ) → Status → Type 0
  Completes read None old new status = Unit {0}
  Completes read (Some a) old new status = (status ≡ OutOfMemory) ⊎ ((bytes : List ℕ) × IsOutputOf read a status bytes × Appends old new bytes)

  -- the files that are checked are safe
  pub record IsSafeOf (read : Reading) (a : Asked) : Type 0 where
    pub files : List SourceFile
    pub are : AreChecked read a.command.classes a.command.files files
    pub safe : IsSafe a.command.infer files

  -- a command is asked for, and the files that it checks are safe
  abbrev pub Safe : Reading → Option Asked → Type 0
  Safe read None = ⊥
  Safe read (Some a) = IsSafeOf read a
