-- What an answer says of the files and the output.
use Rattle.std.specs.Prelude.{ℕ, ◌≤◌, ◌≡◌, ◌⊎◌, List, length, Option}
use Rattle.jn_outside.specs.declared.given.Given.{Given}
use Rattle.jn_outside.specs.Files.{Holding}
use Rattle.jn_outside.specs.Causes.{Rose}
use Rattle.jn_outside.specs.Sink.{Appends, AppendsPrefix}
use Rattle.jn_command.specs.declared.status.Status.{Status}
use Rattle.jn_command.specs.declared.status.Status.TheVariants.{Ok, Rejected, Refused, RunFault, Stopped, ReadFault, WriteFault, OutOfMemory, Usage}
use Rattle.jn_front.specs.declared.source.SourceFile.{SourceFile}
use Rattle.jn_front.specs.Files.{names_of, most_files, AreHeld, AreGiven}

-- what a call read: what the source tells of names, and what its calls had given before this one and have given after it
pub record Reading : Type 0 where
  pub held : Option Holding
  pub before : List Given
  pub now : List Given

-- the same from its three parts
abbrev pub reading : Option Holding → List Given → List Given → Reading
reading held before now = record { held = held; before = before; now = now }

-- files of these names; those that are read, where there are not too many, have the bytes that the source tells, and that its reads gave
pub record AreFiles (read : Reading) (names : List (List ℕ)) (files : List SourceFile) : Type 0 where
  pub named : names_of files ≡ names
  pub told : length names ≤ most_files → AreHeld read.held files
  pub given : length names ≤ most_files → AreGiven read.before read.now files

-- all went out, or a prefix and the sink's count rose
abbrev pub Finished : Option (List ℕ) → Option (List ℕ) → List ℕ → Status → ℕ → ℕ → Status → Type 0
Finished old new bytes status before now result =
    ((result ≡ status) × Appends old new bytes × (now ≡ before)) ⊎ ((result ≡ WriteFault) × AppendsPrefix old new bytes × Rose before now × (before ≤ now))

-- what each status means, by the status and the bytes that are defined, what holds where memory ended the call amid its output, and what holds after a read fault
module _ (Defined : Status → List ℕ → Type 0) (Part Unread : Type 0) (old new : Option (List ℕ)) where
  -- what is defined was written whole
  abbrev pub Writes : Status → Type 0
  Writes status = (bytes : List ℕ) × Defined status bytes × Appends old new bytes

  -- of what is defined a prefix was written
  abbrev pub WritesPrefix : Type 0
  WritesPrefix = (status : Status) × (bytes : List ℕ) × Defined status bytes × AppendsPrefix old new bytes

  -- what holds after a call with this status: its output was written whole, or this is what a fault leaves
  abbrev pub AnswersBy : Status → Type 0
  AnswersBy Ok = Writes Ok
  AnswersBy Rejected = Writes Rejected
  AnswersBy Refused = Writes Refused
  AnswersBy RunFault = Writes RunFault
  AnswersBy Stopped = Writes Stopped
  AnswersBy ReadFault = Unread
  AnswersBy WriteFault = WritesPrefix
  AnswersBy OutOfMemory = (new ≡ old) ⊎ Part
  AnswersBy Usage = Writes Usage
