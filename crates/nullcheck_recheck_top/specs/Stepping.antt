-- What a call did that carries out a step or steps.
use Rattle.std.specs.Prelude.{ℕ, ◌≡◌, ◌⊎◌, ◌++◌, List, [], ◌∷◌, map, Option}
use Rattle.jn_base.specs.declared.infer.Infer.{Infer}
use Rattle.jn_outside.specs.declared.given.Given.{Given}
use Rattle.jn_outside.specs.Files.{Holding}
use Rattle.jn_outside.specs.Causes.{Rose}
use Rattle.jn_outside.specs.Sink.{Appends, AppendsPrefix}
use Rattle.jn_command.specs.declared.status.Status.{Status}
use Rattle.jn_command.specs.declared.status.Status.TheVariants.{Ok, Rejected, Refused, RunFault, Stopped, ReadFault, WriteFault, OutOfMemory, Usage}
use Rattle.jn_front.specs.declared.source.SourceFile.{SourceFile}
use Rattle.jn_front.specs.Files.{AreHeld, given_of}
use Rattle.jn_recheck.specs.Sessions.{SessionOf}
use Rattle.jn_script.specs.declared.step.Step.{Step}
use Rattle.jn_script.specs.declared.step.Step.TheVariants.{Check}
use Rattle.nullcheck_recheck_top.specs.declared.step.Taken.{Taken}
use Rattle.nullcheck_recheck_top.specs.declared.step.Taken.TheVariants.{Goes, Ends}
use Rattle.nullcheck_recheck_top.specs.Carrying.{Does, DoAll, IsCheck, IsTextOf, LacksAt, MissesAt, new_session}

-- the text that a name gets of a file of this name, whose bytes are those that the source tells, and that its reads gave
pub record TextFrom (held : Option Holding) (name : List ℕ) (old new : List Given) (text : List ℕ) : Type 0 where
  pub bytes : List ℕ
  pub told : AreHeld held (record { name = name; bytes = bytes } ∷ [])
  pub given : new ≡ old ++ given_of (record { name = name; bytes = bytes }) ∷ []
  pub is : IsTextOf bytes text

-- the output of a check was written whole, or a prefix of it
abbrev pub IsWritten : Option (List ℕ) → Option (List ℕ) → List ℕ → ℕ → ℕ → Status → Taken → Type 0
IsWritten old new bytes before now status taken =
    ((taken ≡ Goes status) × Appends old new bytes × (now ≡ before)) ⊎ ((taken ≡ Ends WriteFault) × AppendsPrefix old new bytes × Rose before now)

-- what source and sink tell: what the calls gave, the bytes that were taken, and the counts of faults
pub record World : Type 0 where
  pub gave : List Given
  pub written : Option (List ℕ)
  pub reads : ℕ
  pub writes : ℕ

abbrev pub world : List Given → Option (List ℕ) → ℕ → ℕ → World
world gave written reads writes = record { gave = gave; written = written; reads = reads; writes = writes }

module _ (held : Option Holding) (old new : World) where
  -- these files were read, and these bytes written
  pub record Moves (read : List SourceFile) (bytes : List ℕ) : Type 0 where
    pub told : AreHeld held read
    pub given : new.gave ≡ old.gave ++ map given_of read
    pub taken : Appends old.written new.written bytes
    pub reads : new.reads ≡ old.reads
    pub writes : new.writes ≡ old.writes

  -- the step was carried out
  pub record GoesOn (s : SessionOf) (last : Status) (step : Step) (end : Status) (t : SessionOf) : Type 0 where
    pub read : List SourceFile
    pub bytes : List ℕ
    pub does : Does s last step read bytes end t
    pub moves : Moves read bytes

  -- a check's bytes were not all taken
  pub record Breaks (s : SessionOf) (step : Step) : Type 0 where
    pub asked : step ≡ Check
    pub bytes : List ℕ
    pub end : Status
    pub session : SessionOf
    pub check : IsCheck s bytes end session
    pub given : new.gave ≡ old.gave
    pub taken : AppendsPrefix old.written new.written bytes
    pub reads : new.reads ≡ old.reads
    pub rose : Rose old.writes new.writes

  -- a file couldn't be read
  pub record Misses (step : Step) : Type 0 where
    pub given : MissesAt step old.gave new.gave
    pub taken : new.written ≡ old.written
    pub rose : Rose old.reads new.reads
    pub writes : new.writes ≡ old.writes

  -- no memory was found
  pub record Lacks (step : Step) : Type 0 where
    pub given : LacksAt step old.gave new.gave
    pub taken : new.written ≡ old.written
    pub reads : new.reads ≡ old.reads
    pub writes : new.writes ≡ old.writes

  -- the step ended the script, with this status
  abbrev pub EndsBy : SessionOf → Step → Status → Type 0
  EndsBy s step ReadFault = Misses step
  EndsBy s step WriteFault = Breaks s step
  EndsBy s step OutOfMemory = Lacks step
  EndsBy s step Ok = ⊥
  EndsBy s step Rejected = ⊥
  EndsBy s step Refused = ⊥
  EndsBy s step RunFault = ⊥
  EndsBy s step Stopped = ⊥
  EndsBy s step Usage = ⊥

  -- what stands after each end of a step
  abbrev pub IsTaken : SessionOf → Status → Step → SessionOf → Taken → Type 0
  IsTaken s last step t (Goes end) = GoesOn s last step end t
  IsTaken s last step t (Ends status) = EndsBy s step status

module _ (infer : Infer) (held : Option Holding) (old new : World) where
  -- the steps were carried out, one after the other, of a session that infers these members
  pub record DidAll (steps : List Step) (end : Status) (t : SessionOf) : Type 0 where
    pub files : List SourceFile
    pub bytes : List ℕ
    pub does : DoAll (new_session infer) Ok steps files bytes end t
    pub moves : Moves held old new files bytes

module _ (infer : Infer) (held : Option Holding) (old new : World) where
  -- the steps before one were carried out, and this one ended the script, with this status
  pub record EndsAt (steps : List Step) (status : Status) : Type 0 where
    pub front : List Step
    pub step : Step
    pub back : List Step
    pub split : steps ≡ front ++ step ∷ back
    pub mid : World
    pub last : Status
    pub session : SessionOf
    pub did : DidAll infer held old mid front last session
    pub ends : EndsBy held mid new session step status

  abbrev pub Whole : List Step → Status → Type 0
  Whole steps status = (t : SessionOf) × DidAll infer held old new steps status t

  -- what each status means
  abbrev pub CarriesOut : List Step → Status → Type 0
  CarriesOut steps Ok = Whole steps Ok
  CarriesOut steps Rejected = Whole steps Rejected
  CarriesOut steps Refused = Whole steps Refused
  CarriesOut steps ReadFault = EndsAt steps ReadFault × Rose old.reads new.reads × (new.writes ≡ old.writes)
  CarriesOut steps WriteFault = EndsAt steps WriteFault × (new.reads ≡ old.reads) × Rose old.writes new.writes
  CarriesOut steps OutOfMemory = EndsAt steps OutOfMemory × (new.reads ≡ old.reads) × (new.writes ≡ old.writes)
  CarriesOut steps RunFault = ⊥
  CarriesOut steps Stopped = ⊥
  CarriesOut steps Usage = ⊥
