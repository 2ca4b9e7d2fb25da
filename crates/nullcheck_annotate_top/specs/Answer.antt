-- What each status means of the command.
use Rattle.std.specs.Prelude.{ℕ, ◌≡◌, ◌⊎◌, ◌++◌, List, Option, Some, None, codes}
use Rattle.jn_outside.specs.declared.given.Given.{Given}
use Rattle.jn_outside.specs.Causes.{Rose}
use Rattle.jn_outside.specs.Files.{Holding}
use Rattle.jn_outside.specs.Sink.{Appends, AppendsPrefix}
use Rattle.jn_targets.specs.declared.replaced.Replaced.{Replaced}
use Rattle.jn_targets.specs.Replacing.{ReplacesFirst}
use Rattle.jn_command.specs.declared.status.Status.{Status}
use Rattle.jn_command.specs.declared.status.Status.TheVariants.{Ok, Rejected, Refused, RunFault, Stopped, ReadFault, WriteFault, OutOfMemory, Usage}
use Rattle.jn_command.specs.Answer.{AreFiles, Reading}
use Rattle.jn_front.specs.declared.source.SourceFile.{SourceFile}
use Rattle.jn_front.specs.Files.{AllHeld, StartsOnly}
use Rattle.jn_cli.specs.declared.annotate.Wanted.{Wanted}
use Rattle.nullcheck_annotate_top.specs.declared.output.Output.{Output}
use Rattle.nullcheck_annotate_top.specs.Output.{IsOutput, only}

abbrev pub usage_line : List ℕ
usage_line = codes "usage: nullcheck_annotate [--infer NAME] [--imports] [--terse] [--check] [--write] FILE..\n"

-- it is that of the files that the words name, with the bytes that the source tells and that its reads gave
pub record IsOutputOf (read : Reading) (wanted : Wanted) (output : Output) : Type 0 where
  pub files : List SourceFile
  pub are : AreFiles read wanted.files files
  pub is : IsOutput wanted.infer wanted.terse wanted.imports wanted.mode files output

-- the output that the files and what is asked for define
abbrev pub Defines : Reading → Option Wanted → Output → Type 0
Defines read None output = output ≡ only Usage usage_line
Defines read (Some wanted) output = IsOutputOf read wanted output

-- no name but those of the files is started, and only the first of these, in their order
abbrev pub Starts : Option Wanted → List Given → List Given → Type 0
Starts None before now = now ≡ before
Starts (Some wanted) before now = StartsOnly wanted.files before now

-- each file is held
abbrev pub HoldsAll : Option Holding → Option Wanted → Type 0
HoldsAll held None = Unit {0}
HoldsAll held (Some wanted) = AllHeld held wanted.files

-- what a sink took, and what was replaced, before and after
pub record Effects : Type 0 where
  pub old : Option (List ℕ)
  pub new : Option (List ℕ)
  pub before : List Replaced
  pub now : List Replaced

abbrev pub effects : Option (List ℕ) → Option (List ℕ) → List Replaced → List Replaced → Effects
effects old new before now = record { old = old; new = new; before = before; now = now }

pub record DoesNothing (e : Effects) : Type 0 where
  pub unwritten : e.new ≡ e.old
  pub unreplaced : e.now ≡ e.before

-- all bytes were written and all files replaced
pub record DoesAll (output : Output) (e : Effects) : Type 0 where
  pub written : Appends e.old e.new output.bytes
  pub replaced : e.now ≡ e.before ++ output.replaced

-- of the bytes a prefix was written, and of the files the first ones were replaced, each whole
pub record DoesSome (output : Output) (e : Effects) : Type 0 where
  pub written : AppendsPrefix e.old e.new output.bytes
  pub replaced : ReplacesFirst e.before e.now output.replaced

module _ (Defined : Output → Type 0) (e : Effects) where
  abbrev pub Does : Status → Type 0
  Does status = (output : Output) × Defined output × (output.status ≡ status) × DoesAll output e

  abbrev pub AnswersBy : Status → Type 0
  AnswersBy Ok = Does Ok
  AnswersBy Rejected = Does Rejected
  AnswersBy Refused = Does Refused
  AnswersBy Usage = Does Usage
  AnswersBy ReadFault = DoesNothing e
  AnswersBy WriteFault = (output : Output) × Defined output × DoesSome output e
  AnswersBy OutOfMemory = DoesNothing e
  AnswersBy RunFault = ⊥
  AnswersBy Stopped = ⊥

-- what each status means
abbrev pub Answers : Reading → Option Wanted → Effects → Status → Type 0
Answers read asked e status = AnswersBy (Defines read asked) e status

-- the output's end: all was done, or a count of faults rose
pub record EndsWhole (output : Output) (e : Effects) (sink sinks targets target : ℕ) (status : Status) : Type 0 where
  pub ends : status ≡ output.status
  pub all : DoesAll output e
  pub sink_kept : sinks ≡ sink
  pub targets_kept : target ≡ targets

pub record EndsShort (output : Output) (e : Effects) (sink sinks targets target : ℕ) (status : Status) : Type 0 where
  pub ends : status ≡ WriteFault
  pub some : DoesSome output e
  pub cause : Rose sink sinks ⊎ Rose targets target

abbrev pub Ends : Output → Effects → ℕ → ℕ → ℕ → ℕ → Status → Type 0
Ends output e sink sinks targets target status = EndsWhole output e sink sinks targets target status ⊎ EndsShort output e sink sinks targets target status
