-- What the steps of a script make of a session, what they read and what they write.
use Rattle.std.specs.Prelude.{ℕ, ◌+◌, ◌≡◌, ◌≤◌, ◌<◌, ◌⊎◌, ◌++◌, List, [], ◌∷◌, None, codes, decimal, length, map, replicate}
use Rattle.std.specs.List.{flat_map}
use Rattle.jn_base.specs.declared.infer.Infer.{Infer}
use Rattle.jn_base.specs.declared.place.Row.{Row}
use Rattle.jn_command.specs.declared.status.Status.{Status}
use Rattle.jn_command.specs.declared.status.Status.TheVariants.{Ok, Rejected as RejectedStatus, Refused as RefusedStatus}
use Rattle.jn_diag.specs.declared.shown.RowText.{RowText}
use Rattle.jn_diag.specs.declared.shown.Verdict.{Verdict}
use Rattle.jn_diag.specs.declared.shown.Verdict.TheVariants.{Accepted, Rejected, Refused}
use Rattle.jn_outside.specs.declared.given.Given.{Given}
use Rattle.jn_outside.specs.Gave.{GivesLittle}
use Rattle.jn_front.specs.declared.source.SourceFile.{SourceFile}
use Rattle.jn_front.specs.Files.{file_limit}
use Rattle.jn_recheck.specs.Files.{with_file, without_file}
use Rattle.jn_recheck.specs.Sessions.{Reports, SessionOf}
use Rattle.jn_reporters.specs.Reports.{plain_line, verdict_line}
use Rattle.jn_reporters.specs.declared.shown.ShownRow.{ShownRow}
use Rattle.jn_script.specs.declared.step.Step.{Step}
use Rattle.jn_script.specs.declared.step.Step.TheVariants.{Empty, Set, Remove, Check}

-- ---- texts

unfoldable pub spaces : ℕ → List ℕ
spaces n = replicate n 32

-- the text that a name gets of a file with these bytes: of one that is too large spaces, one more than a file may have, so that its row is that of the limit
abbrev pub IsTextOf : List ℕ → List ℕ → Type 0
IsTextOf bytes text = ((length bytes ≤ file_limit) × (text ≡ bytes)) ⊎ ((file_limit < length bytes) × (text ≡ spaces (file_limit + 1)))

-- the plain report of rows and a verdict
abbrev pub plain_text : List RowText → Verdict → List ℕ
plain_text rows verdict = flat_map plain_line rows ++ verdict_line verdict

-- the texts of rows as reporters are given them
abbrev pub texts_of : List ShownRow → List RowText
texts_of rows = map (λ (row : ShownRow). row.text) rows

abbrev pub number_line : ℕ → ℕ → List ℕ
number_line files bodies = codes "checked " ++ decimal files ++ codes " files, " ++ decimal bodies ++ codes " bodies\n"

abbrev pub check_text : List RowText → Verdict → ℕ → ℕ → List ℕ
check_text rows verdict files bodies = plain_text rows verdict ++ number_line files bodies

abbrev pub status_of : Verdict → Status
status_of Accepted = Ok
status_of (Rejected rows) = RejectedStatus
status_of (Refused rows) = RefusedStatus

-- ---- sessions

-- a session without files, whose reports infer these members
abbrev pub new_session : Infer → SessionOf
new_session infer = record { infer = infer; files = []; last = []; kept = None }

abbrev pub with_text : List ℕ → List ℕ → SessionOf → SessionOf
with_text name text s = record { infer = s.infer; files = with_file name text s.files; last = s.last; kept = s.kept }

abbrev pub without_name : List ℕ → SessionOf → SessionOf
without_name name s = record { infer = s.infer; files = without_file name s.files; last = s.last; kept = s.kept }

-- ---- steps

-- the file is read, and the name gets its text
pub record IsSet (s : SessionOf) (name file : List ℕ) (read : List SourceFile) (t : SessionOf) : Type 0 where
  pub bytes : List ℕ
  pub text : List ℕ
  pub are : read ≡ record { name = file; bytes = bytes } ∷ []
  pub is : IsTextOf bytes text
  pub session : t ≡ with_text name text s

-- a report of the session's files is written, and after it its numbers
pub record IsCheck (s : SessionOf) (bytes : List ℕ) (end : Status) (t : SessionOf) : Type 0 where
  pub rows : List RowText
  pub places : List Row
  pub verdict : Verdict
  pub files : ℕ
  pub bodies : ℕ
  pub reports : Reports s t rows places verdict files bodies
  pub text : bytes ≡ check_text rows verdict files bodies
  pub ends : end ≡ status_of verdict

-- a step, after a last check of this status, reads these files, writes these bytes, and leaves the status of the last check and the session
abbrev pub Does : SessionOf → Status → Step → List SourceFile → List ℕ → Status → SessionOf → Type 0
Does s last Empty read bytes end t = (read ≡ []) × (bytes ≡ []) × (end ≡ last) × (t ≡ s)
Does s last (Set name file) read bytes end t = IsSet s name file read t × (bytes ≡ []) × (end ≡ last)
Does s last (Remove name) read bytes end t = (read ≡ []) × (bytes ≡ []) × (end ≡ last) × (t ≡ without_name name s)
Does s last Check read bytes end t = (read ≡ []) × IsCheck s bytes end t

-- so do the steps, one after the other
abbrev pub DoAll : SessionOf → Status → List Step → List SourceFile → List ℕ → Status → SessionOf → Type 0
DoAll s last [] read bytes end t = (read ≡ []) × (bytes ≡ []) × (end ≡ last) × (t ≡ s)
DoAll s last (step ∷ steps) read bytes end t =
    (one : List SourceFile) × (others : List SourceFile) × (front : List ℕ) × (back : List ℕ) × (status : Status) × (mid : SessionOf)
    × (read ≡ one ++ others) × (bytes ≡ front ++ back) × Does s last step one front status mid × DoAll mid status steps others back end t

-- the files that a step reads
abbrev pub file_of : Step → List (List ℕ)
file_of Empty = []
file_of (Set name file) = file ∷ []
file_of (Remove name) = []
file_of Check = []

abbrev pub files_of : List Step → List (List ℕ)
files_of [] = []
files_of (step ∷ steps) = file_of step ++ files_of steps

-- ---- steps that aren't carried out

-- what is given of a file that can't be read, at most one byte more than the limit: a `set` alone reads
abbrev pub MissesAt : Step → List Given → List Given → Type 0
MissesAt Empty old new = ⊥
MissesAt (Set name file) old new = GivesLittle file (file_limit + 1) old new
MissesAt (Remove name) old new = ⊥
MissesAt Check old new = ⊥

-- what is given where memory ends: at a `check` nothing
abbrev pub LacksAt : Step → List Given → List Given → Type 0
LacksAt Empty old new = ⊥
LacksAt (Set name file) old new = GivesLittle file (file_limit + 1) old new
LacksAt (Remove name) old new = ⊥
LacksAt Check old new = new ≡ old
