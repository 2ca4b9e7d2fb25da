-- Machines of accepted programs: those that go on, and what each answer says of a run and of what the sink took.
use Rattle.std.specs.Prelude.{ℕ, ◌≡◌, ◌≤◌, ◌++◌, [], List, Option, Some}
use Rattle.jn_base.specs.declared.place.Span.{Span}
use Rattle.jn_outside.specs.Sink.{Appends, AppendsPrefix}
use Rattle.jn_points.specs.declared.point.Point.{Point}
use Rattle.jn_points.specs.declared.program.Program.{Program}
use Rattle.jn_points.specs.Lookup.{point_at}
use Rattle.jn_heap.specs.Values.{End, usual_limits, Done, Arithmetic, Index, NegativeSize, ClassCast, ArrayStore, Deep, Long}
use Rattle.jn_heap.specs.State.{State, Next, Goes, Ends}
use Rattle.jn_heap.specs.Runs.{MainForm, run, start_state}
use Rattle.jn_machine.specs.declared.state.MachineState.{MachineState}
use Rattle.jn_machine.specs.StateView.{state_of}
use Rattle.jn_accept.specs.Mains.{IsOnlyMain}
use Rattle.jn_progress_law.specs.Progress.{IsReached}
use Rattle.jn_running.specs.declared.ended.Ended.{Ended}
use Rattle.jn_running.specs.declared.ended.Ended.TheVariants.{Done as IsDone, Fault as HasFault, Steps as HasSteps, Deep as IsDeep, Long as IsLong, WriteFault as HasWriteFault, OutOfMemory as HasNoMemory}
use Rattle.jn_running.specs.declared.ended.FaultKind.{FaultKind}
use Rattle.jn_running.specs.declared.ended.FaultKind.TheVariants.{Arithmetic as IsArithmetic, Index as IsIndex, NegativeSize as IsNegativeSize, ClassCast as IsClassCast, ArrayStore as IsArrayStore}

-- a machine: the program, the texts of its strings, and the state, of which the text printed isn't kept
pub record Running : Type 0 where
  pub program : Program
  pub names : List (List ℕ)
  pub state : State

-- the state with this text printed so far
abbrev pub printed : State → List ℕ → State
printed st out = record st { out = out }

-- the machine of the interpreter's state
abbrev pub running : Program → List (List ℕ) → MachineState → Running
running P names m = record { program = P; names = names; state = state_of m [] }

-- a run of a main comes to the machine's state, with some text printed
pub record IsGoing (m : Running) : Type 0 where
  pub text : List ℕ
  pub reached : IsReached m.program m.names (printed m.state text)

-- an exception as an end of the definition
abbrev pub fault_end : FaultKind → End
fault_end IsArithmetic = Arithmetic
fault_end IsIndex = Index
fault_end IsNegativeSize = NegativeSize
fault_end IsClassCast = ClassCast
fault_end IsArrayStore = ArrayStore

module _ (m : Running) where
  -- what so many steps give after a text printed before
  abbrev pub runs : ℕ → List ℕ → Next
  runs n out = run m.program m.names (Goes (printed m.state out)) n

  -- after any text printed before, so many steps come to the state with one more text, which the sink took
  pub record Comes (n : ℕ) (to : State → Next) (state : State) (old new : Option (List ℕ)) : Type 0 where
    pub text : List ℕ
    pub gives : (out : List ℕ) → runs n out ≡ to (printed state (out ++ text))
    pub taken : Appends old new text

  -- after any text printed before, so many steps go on with one more text, of which the sink took a prefix
  pub record ComesPartly (n : ℕ) (state : State) (old new : Option (List ℕ)) : Type 0 where
    pub text : List ℕ
    pub gives : (out : List ℕ) → runs n out ≡ Goes (printed state (out ++ text))
    pub taken : AppendsPrefix old new text

  module _ (steps : ℕ) (old new : Option (List ℕ)) where
    -- the run goes on after all steps
    abbrev pub GoesOn : Type 0
    GoesOn = (state : State) × Comes steps Goes state old new

    -- the run ended so
    abbrev pub EndsAs : End → Type 0
    EndsAs end = (state : State) × Comes steps (Ends end) state old new

    -- the run ended by an exception: the state is the one whose point made it, and the span is that point's
    pub record FaultsAt (kind : FaultKind) (span : Span) : Type 0 where
      pub state : State
      pub comes : Comes steps (Ends (fault_end kind)) state old new
      pub point : Point
      pub there : point_at m.program state.top.body state.top.at ≡ Some point
      pub is : point.span ≡ span

    -- the sink failed after some of the steps, a prefix of whose text it took
    abbrev pub StopsAtSink : Type 0
    StopsAtSink = (n : ℕ) × (n ≤ steps) × (state : State) × ComesPartly n state old new

    -- no memory was found after some of the steps, all of whose text the sink took
    abbrev pub StopsForMemory : Type 0
    StopsForMemory = (n : ℕ) × (n ≤ steps) × (state : State) × Comes n Goes state old new

    -- what each answer says
    abbrev pub Answers : Ended → Type 0
    Answers IsDone = EndsAs Done
    Answers (HasFault kind span) = FaultsAt kind span
    Answers HasSteps = GoesOn
    Answers IsDeep = EndsAs Deep
    Answers IsLong = EndsAs Long
    Answers HasWriteFault = StopsAtSink
    Answers HasNoMemory = StopsForMemory

-- the machine at its start with these words
abbrev pub starting : Program → List (List ℕ) → ℕ → List (List ℕ) → Running
starting P names b words = record { program = P; names = names; state = start_state P usual_limits b words }

-- the program has one main, and the answer says what it does of a run of it
pub record RunsMain (P : Program) (names words : List (List ℕ)) (steps : ℕ) (old new : Option (List ℕ)) (e : Ended) : Type 0 where
  pub method : ℕ
  pub body : ℕ
  pub only : IsOnlyMain P method
  pub main : MainForm P method body
  pub answer : Answers (starting P names body words) steps old new e
