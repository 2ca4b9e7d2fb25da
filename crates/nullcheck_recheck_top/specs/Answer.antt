-- What an answer says of the words, of what was read and of the output.
use Rattle.std.specs.Prelude.{ℕ, ◌+◌, ◌≡◌, ◌≤◌, ◌<◌, ◌⊎◌, ◌++◌, List, [], ◌∷◌, Option, Some, None, codes, decimal, length, map, take}
use Rattle.jn_base.specs.declared.infer.Infer.{Infer}
use Rattle.jn_outside.specs.declared.given.Given.{Given}
use Rattle.jn_outside.specs.Files.{Holding, Holds, Gives}
use Rattle.jn_outside.specs.Gave.{GivesLittle, given}
use Rattle.jn_outside.specs.Sink.{Appends, AppendsPrefix}
use Rattle.jn_cli.specs.declared.recheck.AskedFor.{AskedFor}
use Rattle.jn_command.specs.declared.status.Status.{Status}
use Rattle.jn_command.specs.declared.status.Status.TheVariants.{Ok, Rejected, Refused, RunFault, Stopped, ReadFault, WriteFault, OutOfMemory, Usage}
use Rattle.jn_command.specs.Answer.{Reading}
use Rattle.jn_front.specs.declared.source.SourceFile.{SourceFile}
use Rattle.jn_front.specs.Files.{AllHeld, AreHeld, StartsOnly, given_of}
use Rattle.jn_recheck.specs.Sessions.{SessionOf}
use Rattle.jn_script.specs.declared.step.Step.{Step}
use Rattle.jn_script.specs.Script.{IsFirstBad, IsScript}
use Rattle.jn_script.specs.declared.step.Step.TheVariants.{Check}
use Rattle.nullcheck_recheck_top.specs.Carrying.{DoAll, IsCheck, LacksAt, MissesAt, files_of, new_session}

-- ---- words

abbrev pub usage_line : List ℕ
usage_line = codes "usage: nullcheck_recheck [--infer private|package] SCRIPT\n"

-- ---- scripts

-- bytes of a script that is read whole
abbrev pub script_limit : ℕ
script_limit = 1048576

-- what the reads of a script gave: its bytes, of one that is too large one byte more than the limit
abbrev pub given_script : List ℕ → List ℕ → Given
given_script name script = given name (take (script_limit + 1) script)

abbrev pub bad_line : List ℕ → ℕ → List ℕ
bad_line name line = name ++ codes ":" ++ decimal line ++ codes ":1: script\n"

-- the first line that is no step which can be taken; the first one of a script that is too large
abbrev pub IsBadAt : List ℕ → ℕ → Type 0
IsBadAt script line = ((length script ≤ script_limit) × IsFirstBad script line) ⊎ ((script_limit < length script) × (line ≡ 1))

-- the script has the bytes that the source tells, and is these steps
pub record IsGood (held : Option Holding) (name script : List ℕ) (steps : List Step) : Type 0 where
  pub told : Gives held name script
  pub small : length script ≤ script_limit
  pub are : IsScript script steps

-- ---- what is written

-- the script alone was read, and has a bad line
pub record IsRefusedScript (read : Reading) (name bytes : List ℕ) : Type 0 where
  pub script : List ℕ
  pub told : Gives read.held name script
  pub given : read.now ≡ read.before ++ given_script name script ∷ []
  pub line : ℕ
  pub bad : IsBadAt script line
  pub text : bytes ≡ bad_line name line

-- the script was carried out to its end: the files that were read have the bytes that the source tells, and that its reads gave
pub record IsCarried (infer : Infer) (read : Reading) (name : List ℕ) (status : Status) (bytes : List ℕ) : Type 0 where
  pub script : List ℕ
  pub steps : List Step
  pub good : IsGood read.held name script steps
  pub files : List SourceFile
  pub told : AreHeld read.held files
  pub given : read.now ≡ read.before ++ given_script name script ∷ map given_of files
  pub session : SessionOf
  pub does : DoAll (new_session infer) Ok steps files bytes status session

-- the steps before this one were carried out: the files that they set have the bytes that the source tells, and that its reads gave, and their checks' reports are these bytes
pub record IsBefore (infer : Infer) (read : Reading) (name : List ℕ) (step : Step) (gave : List Given) (bytes : List ℕ) (session : SessionOf) : Type 0 where
  pub script : List ℕ
  pub front : List Step
  pub back : List Step
  pub good : IsGood read.held name script (front ++ step ∷ back)
  pub files : List SourceFile
  pub told : AreHeld read.held files
  pub given : gave ≡ read.before ++ given_script name script ∷ map given_of files
  pub status : Status
  pub does : DoAll (new_session infer) Ok front files bytes status session

-- what each status means, of a script
module _ (infer : Infer) (read : Reading) (name : List ℕ) (old new : Option (List ℕ)) where
  -- the reports of all checks were written whole
  abbrev pub Carries : Status → Type 0
  Carries status = (bytes : List ℕ) × IsCarried infer read name status bytes × Appends old new bytes

  abbrev pub Refuses : Type 0
  Refuses = (bytes : List ℕ) × IsRefusedScript read name bytes × Appends old new bytes

  -- no step was taken: nothing was written, and of the script alone something may have been read
  abbrev pub IsUnbegun : Type 0
  IsUnbegun = (new ≡ old) × GivesLittle name (script_limit + 1) read.before read.now

  -- a step ended the script: the reports of all checks before it were written whole, and this holds of what was read after them
  pub record StopsAt (At : Step → List Given → List Given → Type 0) : Type 0 where
    pub step : Step
    pub gave : List Given
    pub bytes : List ℕ
    pub session : SessionOf
    pub before : IsBefore infer read name step gave bytes session
    pub at : At step gave read.now
    pub written : Appends old new bytes

  -- the first bytes of a check's report were written, after the whole reports of all checks before it
  pub record BreaksAt : Type 0 where
    pub bytes : List ℕ
    pub session : SessionOf
    pub before : IsBefore infer read name Check read.now bytes session
    pub text : List ℕ
    pub end : Status
    pub after : SessionOf
    pub check : IsCheck session text end after
    pub count : ℕ
    pub within : count ≤ length text
    pub written : Appends old new (bytes ++ take count text)

  -- a prefix of the line of a bad script was written
  abbrev pub RefusesPrefix : Type 0
  RefusesPrefix = (bytes : List ℕ) × IsRefusedScript read name bytes × AppendsPrefix old new bytes

  abbrev pub AnswersScript : Status → Type 0
  AnswersScript Ok = Carries Ok
  AnswersScript Rejected = Carries Rejected
  AnswersScript Refused = Carries Refused ⊎ Refuses
  AnswersScript RunFault = ⊥
  AnswersScript Stopped = ⊥
  AnswersScript ReadFault = IsUnbegun ⊎ StopsAt MissesAt
  AnswersScript WriteFault = RefusesPrefix ⊎ BreaksAt
  AnswersScript OutOfMemory = IsUnbegun ⊎ StopsAt LacksAt
  AnswersScript Usage = ⊥

-- the words ask for nothing: the usage line went out, or a prefix of it, or no memory was found to read them
abbrev pub AnswersUsage : Option (List ℕ) → Option (List ℕ) → Status → Type 0
AnswersUsage old new status = ((status ≡ Usage) × Appends old new usage_line) ⊎ ((status ≡ WriteFault) × AppendsPrefix old new usage_line) ⊎ ((status ≡ OutOfMemory) × (new ≡ old))

abbrev pub Answers : Reading → Option AskedFor → Option (List ℕ) → Option (List ℕ) → Status → Type 0
Answers read None old new status = AnswersUsage old new status
Answers read (Some asked) old new status = AnswersScript asked.infer read asked.script old new status

-- the source holds the script, and where that is good each file that it sets
abbrev pub HoldsAll : Option Holding → Option AskedFor → Type 0
HoldsAll held None = Unit {0}
HoldsAll held (Some asked) = Holds held asked.script × ((script : List ℕ) (steps : List Step) → IsGood held asked.script script steps → AllHeld held (files_of steps))

-- ---- what is started

-- the script alone, or, where what its reads gave is good, after it the files that its steps set, in their order; of these only the first ones
abbrev pub StartsScript : Option Holding → List ℕ → List Given → List Given → Type 0
StartsScript held name old new =
    StartsOnly (name ∷ []) old new
    ⊎ ((script : List ℕ) × (steps : List Step) × IsGood held name script steps × StartsOnly (files_of steps) (old ++ given_script name script ∷ []) new)

-- nothing where the words name no script
abbrev pub Starts : Option Holding → Option AskedFor → List Given → List Given → Type 0
Starts held None old new = new ≡ old
Starts held (Some asked) old new = StartsScript held asked.script old new
