-- What the run of the one main of a program of files writes, and the status with which it ends.
use Rattle.std.specs.Prelude.{ℕ, ◌≡◌, ◌≤◌, ◌⊎◌, ◌++◌, List, Option, Some, codes}
use Rattle.jn_outside.specs.Sink.{Appends, AppendsPrefix}
use Rattle.jn_points.specs.declared.point.Point.{Point}
use Rattle.jn_points.specs.declared.program.Program.{Program}
use Rattle.jn_points.specs.Lookup.{point_at}
use Rattle.jn_heap.specs.Values.{usual_limits}
use Rattle.jn_heap.specs.State.{Next, Goes, Ends, Stuck}
use Rattle.jn_heap.specs.Runs.{MainForm, run, start_state}
use Rattle.jn_accept.specs.Mains.{IsOnlyMain}
use Rattle.jn_front.specs.declared.source.SourceFile.{SourceFile}
use Rattle.jn_command.specs.declared.status.Status.{Status}
use Rattle.jn_command.specs.declared.status.Status.TheVariants.{Ok, Rejected, Refused, RunFault, Stopped, ReadFault, WriteFault, OutOfMemory, Usage}
use Rattle.jn_run.specs.Line.{end_line, end_status}

-- the text that a run has printed
abbrev pub HasPrinted : Next → List ℕ → Type 0
HasPrinted (Goes st) text = text ≡ st.out
HasPrinted (Ends e st) text = text ≡ st.out
HasPrinted Stuck text = ⊥

-- so many steps of the one main print the text
pub record Prints (P : Program) (names words : List (List ℕ)) (steps : ℕ) (text : List ℕ) : Type 0 where
  pub method : ℕ
  pub body : ℕ
  pub only : IsOnlyMain P method
  pub main : MainForm P method body
  pub printed : HasPrinted (run P names (Goes (start_state P usual_limits body words)) steps) text

-- there is no main, or there are several
pub record HasNoMain (P : Program) (status : Status) (bytes : List ℕ) : Type 0 where
  pub none : (m : ℕ) → IsOnlyMain P m → ⊥
  pub refused : status ≡ Refused
  pub line : bytes ≡ codes "no single main\n"

module _ (files : List SourceFile) (P : Program) where
  -- a run that came to this after all its steps: its text and its end's line, with the point at which it ended, and the status
  abbrev pub IsToldBy : Next → Status → List ℕ → Type 0
  IsToldBy (Goes st) status bytes = (status ≡ Stopped) × (bytes ≡ st.out ++ codes "steps\n")
  IsToldBy (Ends e st) status bytes = (point : Point) × (point_at P st.top.body st.top.at ≡ Some point) × (status ≡ end_status e) × (bytes ≡ st.out ++ end_line files e point.span)
  IsToldBy Stuck status bytes = ⊥

  module _ (names words : List (List ℕ)) (steps : ℕ) where
    -- at most so many steps of the one main
    pub record Runs (status : Status) (bytes : List ℕ) : Type 0 where
      pub method : ℕ
      pub body : ℕ
      pub only : IsOnlyMain P method
      pub main : MainForm P method body
      pub told : IsToldBy (run P names (Goes (start_state P usual_limits body words)) steps) status bytes

    -- the status and the bytes of such a run
    abbrev pub RunsTo : Status → List ℕ → Type 0
    RunsTo status bytes = Runs status bytes ⊎ HasNoMain P status bytes

    module _ (old new : Option (List ℕ)) where
      -- the whole text of a run that comes to the status was written
      abbrev pub WritesRun : Status → Type 0
      WritesRun status = (bytes : List ℕ) × RunsTo status bytes × Appends old new bytes

      -- what each status means: the run was written whole; with a write fault a prefix of it, with want of memory the text of some of the steps
      abbrev pub Answers : Status → Type 0
      Answers Ok = WritesRun Ok
      Answers Rejected = ⊥
      Answers Refused = WritesRun Refused
      Answers RunFault = WritesRun RunFault
      Answers Stopped = WritesRun Stopped
      Answers ReadFault = ⊥
      Answers WriteFault = (status : Status) × (bytes : List ℕ) × RunsTo status bytes × AppendsPrefix old new bytes
      Answers OutOfMemory = (n : ℕ) × (text : List ℕ) × (n ≤ steps) × Prints P names words n text × Appends old new text
      Answers Usage = ⊥
