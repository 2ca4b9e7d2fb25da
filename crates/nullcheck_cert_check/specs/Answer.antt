-- What an answer says of what is asked for, the certificate, the files and the output.
use Rattle.std.specs.Prelude.{ℕ, ◌≤◌, ◌<◌, ◌≡◌, ◌⊎◌, List, ◌∷◌, length, Option, Some, None}
use Rattle.jn_base.specs.declared.infer.Infer.{Infer}
use Rattle.jn_outside.specs.declared.given.Given.{Given}
use Rattle.jn_outside.specs.Files.{Holding}
use Rattle.jn_outside.specs.Sink.{Appends}
use Rattle.jn_points.specs.declared.program.Program.{Program}
use Rattle.jn_front.specs.declared.source.SourceFile.{SourceFile}
use Rattle.jn_front.specs.Files.{most_files, AllHeld, StartsOnly}
use Rattle.jn_command.specs.declared.status.Status.{Status}
use Rattle.jn_command.specs.declared.status.Status.TheVariants.{OutOfMemory, Usage}
use Rattle.jn_command.specs.Answer.{AnswersBy, Reading}
use Rattle.nullcheck_cert_check.specs.declared.verdict.CertVerdict.{CertVerdict}
use Rattle.jn_cli.specs.Cert.{Command, usage_line}
use Rattle.nullcheck_cert_check.specs.Inputs.{AreInputs}
use Rattle.nullcheck_cert_check.specs.Lines.{status_of, verdict_text}
use Rattle.nullcheck_cert_check.specs.Verdicts.{HasNoCertificate, IsCertifiedBy, IsVerdict}

-- status and bytes are those of the verdict on a certificate of this name and its files
pub record IsToldOf (infer : Infer) (name cert : List ℕ) (files : List SourceFile) (status : Status) (bytes : List ℕ) : Type 0 where
  pub verdict : CertVerdict
  pub is : IsVerdict infer files cert verdict
  pub ends : status ≡ status_of verdict
  pub shows : bytes ≡ verdict_text name files verdict

-- what each status means, of a certificate and files that were read
abbrev pub AnswersInputs : Infer → List ℕ → List ℕ → List SourceFile → Option (List ℕ) → Option (List ℕ) → Status → Type 0
AnswersInputs infer name cert files old new status = AnswersBy (IsToldOf infer name cert files) ⊥ ⊥ old new status

-- of the certificate and the files that were read
pub record IsOutputOf (read : Reading) (c : Command) (status : Status) (bytes : List ℕ) : Type 0 where
  pub cert : List ℕ
  pub files : List SourceFile
  pub are : AreInputs read c cert files
  pub told : IsToldOf c.infer c.cert cert files status bytes

-- the status and the bytes that what is read and what is asked for define
abbrev pub Defines : Reading → Option Command → Status → List ℕ → Type 0
Defines read None status bytes = (status ≡ Usage) × (bytes ≡ usage_line)
Defines read (Some c) status bytes = IsOutputOf read c status bytes

-- something is read
abbrev pub ReadsSome : Option Command → Type 0
ReadsSome None = ⊥
ReadsSome (Some c) = length c.files ≤ most_files

-- nothing is read: the words are no command's, or name too many files
abbrev pub ReadsNothing : Option Command → Type 0
ReadsNothing None = Unit {0}
ReadsNothing (Some c) = most_files < length c.files

-- what each status means
abbrev pub Answers : Reading → Option Command → Option (List ℕ) → Option (List ℕ) → Status → Type 0
Answers read asked old new status = AnswersBy (Defines read asked) ⊥ (ReadsSome asked × (new ≡ old)) old new status

-- a command, and no fault: all was written, or no memory was found
abbrev pub Completes : Reading → Option Command → Option (List ℕ) → Option (List ℕ) → Status → Type 0
Completes read None old new status = Unit {0}
Completes read (Some c) old new status = (status ≡ OutOfMemory) ⊎ ((bytes : List ℕ) × IsOutputOf read c status bytes × Appends old new bytes)

-- only the certificate and then the files are started, in their order
abbrev pub Starts : Option Command → List Given → List Given → Type 0
Starts None before now = now ≡ before
Starts (Some c) before now = StartsOnly (c.cert ∷ c.files) before now

abbrev pub HoldsInputs : Option Holding → Option Command → Type 0
HoldsInputs held None = Unit {0}
HoldsInputs held (Some c) = AllHeld held (c.cert ∷ c.files)

-- the files that were read have a program of which the bytes that were read are a certificate, so the files are safe
pub record IsCertifiedOf (read : Reading) (c : Command) : Type 0 where
  pub cert : List ℕ
  pub files : List SourceFile
  pub are : AreInputs read c cert files
  pub P : Program
  pub certified : IsCertifiedBy c.infer files cert P

abbrev pub Certified : Reading → Option Command → Type 0
Certified read None = ⊥
Certified read (Some c) = IsCertifiedOf read c

-- they have a program, of which the bytes are no certificate
pub record IsUncertifiedOf (read : Reading) (c : Command) : Type 0 where
  pub cert : List ℕ
  pub files : List SourceFile
  pub are : AreInputs read c cert files
  pub none : HasNoCertificate c.infer files cert

abbrev pub Uncertified : Reading → Option Command → Type 0
Uncertified read None = ⊥
Uncertified read (Some c) = IsUncertifiedOf read c
