-- What an answer says of what is asked for, the files, the output and the target.
use Rattle.std.specs.Prelude.{ℕ, ◌≤◌, ◌<◌, ◌≡◌, ◌⊎◌, ◌++◌, true, false, List, [], ◌∷◌, length, Option, Some, None, codes}
use Rattle.std.specs.Str.{bytes_eq}
use Rattle.jn_base.specs.declared.infer.Infer.{Infer}
use Rattle.jn_outside.specs.declared.given.Given.{Given}
use Rattle.jn_outside.specs.Files.{Holding}
use Rattle.jn_outside.specs.Sink.{Appends, AppendsPrefix}
use Rattle.jn_targets.specs.declared.replaced.Replaced.{Replaced}
use Rattle.jn_targets.specs.Replacing.{replacement, takes_other}
use Rattle.jn_cert_form.specs.Form.{magic}
use Rattle.jn_front.specs.declared.source.SourceFile.{SourceFile}
use Rattle.jn_front.specs.Files.{most_files, AllHeld, StartsOnly}
use Rattle.jn_reporters.specs.Reports.{plain_shown}
use Rattle.jn_command.specs.declared.report.Report.TheVariants.{Refused as RefusedReport, Checked}
use Rattle.jn_command.specs.declared.status.Status.{Status}
use Rattle.jn_command.specs.declared.status.Status.TheVariants.{Ok, Rejected as RejectedStatus, Refused as RefusedStatus, RunFault, Stopped, ReadFault, WriteFault, OutOfMemory, Usage}
use Rattle.jn_command.specs.Answer.{AreFiles, Reading}
use Rattle.jn_command.specs.Shown.{shown}
use Rattle.nullcheck_cert_write.specs.declared.made.CertMade.{CertMade}
use Rattle.nullcheck_cert_write.specs.declared.made.CertMade.TheVariants.{Refused, Rejected, TooLarge, Made}
use Rattle.jn_cli.specs.Cert.{Command, usage_line}
use Rattle.nullcheck_cert_write.specs.Verdicts.{IsVerdict}

-- the certificate goes to the output
abbrev pub output_name : List ℕ
output_name = codes "-"

-- what was written and stored: the bytes that the sink took, and the files that were put in place, before and now
pub record Outcome : Type 0 where
  pub old : Option (List ℕ)
  pub new : Option (List ℕ)
  pub before : List Replaced
  pub now : List Replaced

abbrev pub outcome : Option (List ℕ) → Option (List ℕ) → List Replaced → List Replaced → Outcome
outcome old new before now = record { old = old; new = new; before = before; now = now }

-- neither
abbrev pub IsUntouched : Outcome → Type 0
IsUntouched o = (o.new ≡ o.old) × (o.now ≡ o.before)

-- the status and the bytes of what is told on the output
abbrev pub IsTold : List ℕ → List SourceFile → CertMade → Status → List ℕ → Type 0
IsTold name files (Refused rows) status bytes = (status ≡ RefusedStatus) × (bytes ≡ shown plain_shown files (RefusedReport rows))
IsTold name files (Rejected rows) status bytes = (status ≡ RejectedStatus) × (bytes ≡ shown plain_shown files (Checked rows))
IsTold name files TooLarge status bytes = (status ≡ RejectedStatus) × (bytes ≡ name ++ codes ": too large\n")
IsTold name files (Made cert) status bytes = (bytes_eq name output_name ≡ true) × (status ≡ Ok) × (bytes ≡ cert)

-- it was written whole, and nothing was stored
pub record Tells (infer : Infer) (name : List ℕ) (files : List SourceFile) (o : Outcome) (status : Status) : Type 0 where
  pub made : CertMade
  pub is : IsVerdict infer files made
  pub bytes : List ℕ
  pub told : IsTold name files made status bytes
  pub written : Appends o.old o.new bytes
  pub stored : o.now ≡ o.before

-- a prefix of it was written, or nothing; nothing was stored
pub record TellsPrefix (infer : Infer) (name : List ℕ) (files : List SourceFile) (o : Outcome) : Type 0 where
  pub made : CertMade
  pub is : IsVerdict infer files made
  pub status : Status
  pub bytes : List ℕ
  pub told : IsTold name files made status bytes
  pub written : AppendsPrefix o.old o.new bytes
  pub stored : o.now ≡ o.before

-- the certificate was stored under its name, and nothing was written
pub record Stores (infer : Infer) (name : List ℕ) (files : List SourceFile) (o : Outcome) : Type 0 where
  pub cert : List ℕ
  pub is : IsVerdict infer files (Made cert)
  pub named : bytes_eq name output_name ≡ false
  pub written : o.new ≡ o.old
  pub stored : o.now ≡ o.before ++ replacement name cert ∷ []

-- what each status means, of files that were read
abbrev pub AnswersFiles : Infer → List ℕ → List SourceFile → Outcome → Status → Type 0
AnswersFiles infer name files o Ok = Tells infer name files o Ok ⊎ Stores infer name files o
AnswersFiles infer name files o RejectedStatus = Tells infer name files o RejectedStatus
AnswersFiles infer name files o RefusedStatus = Tells infer name files o RefusedStatus
AnswersFiles infer name files o RunFault = ⊥
AnswersFiles infer name files o Stopped = ⊥
AnswersFiles infer name files o ReadFault = ⊥
AnswersFiles infer name files o WriteFault = TellsPrefix infer name files o ⊎ IsUntouched o
AnswersFiles infer name files o OutOfMemory = IsUntouched o
AnswersFiles infer name files o Usage = ⊥

-- the words are no command's: the usage line went out, or a prefix of it, or no memory was found to read them
abbrev pub AnswersUsage : Outcome → Status → Type 0
AnswersUsage o status = ((status ≡ Usage) × Appends o.old o.new usage_line × (o.now ≡ o.before)) ⊎ ((status ≡ WriteFault) × AppendsPrefix o.old o.new usage_line × (o.now ≡ o.before)) ⊎ ((status ≡ OutOfMemory) × IsUntouched o)

-- the files of these names, with the bytes that the source tells, and that its reads gave, and what the status means
pub record AnswersRead (read : Reading) (c : Command) (o : Outcome) (status : Status) : Type 0 where
  pub files : List SourceFile
  pub are : AreFiles read c.files files
  pub answer : AnswersFiles c.infer c.cert files o status

-- nothing was written or stored where a file couldn't be read, or where no memory was found
abbrev pub AnswersUnread : Command → Outcome → Status → Type 0
AnswersUnread c o status = (((status ≡ ReadFault) × (length c.files ≤ most_files)) ⊎ (status ≡ OutOfMemory)) × IsUntouched o

abbrev pub Answers : Reading → Option Command → Outcome → Status → Type 0
Answers read None o status = AnswersUsage o status
Answers read (Some c) o status = AnswersRead read c o status ⊎ AnswersUnread c o status

-- only the files are started, in their order
abbrev pub Starts : Option Command → List Given → List Given → Type 0
Starts None before now = now ≡ before
Starts (Some c) before now = StartsOnly c.files before now

abbrev pub HoldsFiles : Option Holding → Option Command → Type 0
HoldsFiles held None = Unit {0}
HoldsFiles held (Some c) = AllHeld held c.files

-- the certificate has the name of a file that is there and doesn't begin as a certificate
abbrev pub TakesOther : List Replaced → Option Command → Type 0
TakesOther there None = ⊥
TakesOther there (Some c) = takes_other there c.cert magic ≡ true
