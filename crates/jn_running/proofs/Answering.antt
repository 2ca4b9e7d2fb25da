-- What the interpreter's code did, as what is known of a run by its answer.
use Rattle.std.proofs.Common.{◌≡◌, ◌≤◌, ◌<◌, ◌++◌, ℕ, List, [], Option, Some, refl, sym, subst, append-nil, ap, ◌∙◌, arith}
use Rattle.jn_base.specs.declared.place.Span.{Span}
use Rattle.jn_points.specs.declared.point.Point.{Point}
use Rattle.jn_points.specs.declared.program.Program.{Program}
use Rattle.jn_points.specs.Lookup.{body_of, method_at, point_at}
use Rattle.jn_heap.specs.Values.{usual_limits}
use Rattle.jn_heap.specs.State.{Goes, Next, State, Stuck}
use Rattle.jn_heap.specs.Runs.{MainForm, run, start_state}
use Rattle.jn_machine.specs.declared.prim.End.{End as LastEnd}
use Rattle.jn_machine.specs.declared.prim.End.TheVariants.{Done as IsDone, Arithmetic as IsArithmetic, Index as IsIndex, NegativeSize as IsNegativeSize, ClassCast as IsClassCast, ArrayStore as IsArrayStore, Deep as IsDeep, Long as IsLong}
use Rattle.jn_machine.specs.declared.state.MachineState.{MachineState}
use Rattle.jn_machine.specs.declared.state.Stepped.{Stepped}
use Rattle.jn_machine.specs.declared.state.Stepped.TheVariants.{Goes as WillGo, Ends as WillEnd, Stuck as WillStick}
use Rattle.jn_machine.specs.Ends.{end_of}
use Rattle.jn_machine.specs.Printed.{PrintsFront, PrintsSome, PrintsTo}
use Rattle.jn_machine.specs.StateView.{state_of}
use Rattle.jn_progress_law.specs.Progress.{IsReached}
use Rattle.jn_running.specs.declared.ended.Ended.{Ended}
use Rattle.jn_running.specs.declared.ended.Ended.TheVariants.{OutOfMemory}
use Rattle.jn_accept.specs.Mains.{IsOnlyMain}
use Rattle.jn_running.specs.Ending.{ended_at}
use Rattle.jn_running.specs.Going.{Answers, Comes, ComesPartly, IsGoing, StopsAtSink, StopsForMemory, running, RunsMain, printed}
use Rattle.jn_machine.proofs.Printing.{appends_none}
use Rattle.jn_progress_law.proofs.Kept.{run_stands}

module _ (seen P : Program) (same : seen ≡ P) (names : List (List ℕ)) (first : MachineState) where
  abbrev pub Runs : ℕ → List ℕ → Next
  Runs n out = run seen names (Goes (state_of first out)) n

  module _ (old new : Option (List ℕ)) where
    did : (n : ℕ) (stepped now : Stepped) (state : MachineState) → PrintsTo (Runs n) stepped state old new → stepped ≡ now → PrintsTo (λ out. run P names (Goes (state_of first out)) n) now state old new
    did n stepped now state h is = subst (λ P. PrintsTo (λ out. run P names (Goes (state_of first out)) n) now state old new) same (subst (λ s. PrintsTo (Runs n) s state old new) is h)

    pub goes : (n : ℕ) (stepped : Stepped) (state : MachineState) → PrintsTo (Runs n) stepped state old new → stepped ≡ WillGo → Comes (running P names first) n Goes (state_of state []) old new
    goes n stepped state h is = let k = did n stepped WillGo state h is in record { text = k.text; gives = k.gives; taken = k.taken }

    pub partly : (n : ℕ) (state : MachineState) → PrintsSome (Runs n) state old new → ComesPartly (running P names first) n (state_of state []) old new
    partly n state h = let k = subst (λ P. PrintsSome (λ out. run P names (Goes (state_of first out)) n) state old new) same h in record { text = k.text; gives = k.gives; taken = k.taken }

    pub stops : (steps : ℕ) (state : MachineState) → (n : ℕ) × (n ≤ steps) × PrintsSome (Runs n) state old new → StopsAtSink (running P names first) steps old new
    stops steps state h = (h.0, h.1, state_of state [], partly h.0 state h.2)

    pub without : (steps : ℕ) → (n : ℕ) × (n < steps) × PrintsFront (Runs n) old new → StopsForMemory (running P names first) steps old new
    without steps h = (h.0, (let lt = h.1 in omega (lt, arith)), state_of h.2.state [], goes h.0 WillGo h.2.state h.2.told refl)

    pub stands : (n : ℕ) (stepped : Stepped) (state : MachineState) → PrintsTo (Runs n) stepped state old new → (end : LastEnd) → stepped ≡ WillEnd end → (pt : Point) × (point_at P state.top.body state.top.at ≡ Some pt)
    stands n stepped state h end is =
        let k = did n stepped (WillEnd end) state h is in
        run_stands P names (state_of first []) n (end_of end) (state_of state k.text) (k.gives [])

    ends : (n : ℕ) (state : MachineState) (end : LastEnd) (span : Span) → PrintsTo (λ out. run P names (Goes (state_of first out)) n) (WillEnd end) state old new → (pt : Point) → point_at P state.top.body state.top.at ≡ Some pt → pt.span ≡ span → Answers (running P names first) n old new (ended_at end span)
    ends n state IsDone span k pt there is = (state_of state [], record { text = k.text; gives = k.gives; taken = k.taken })
    ends n state IsArithmetic span k pt there is = record { state = state_of state []; comes = record { text = k.text; gives = k.gives; taken = k.taken }; point = pt; there = there; is = is }
    ends n state IsIndex span k pt there is = record { state = state_of state []; comes = record { text = k.text; gives = k.gives; taken = k.taken }; point = pt; there = there; is = is }
    ends n state IsNegativeSize span k pt there is = record { state = state_of state []; comes = record { text = k.text; gives = k.gives; taken = k.taken }; point = pt; there = there; is = is }
    ends n state IsClassCast span k pt there is = record { state = state_of state []; comes = record { text = k.text; gives = k.gives; taken = k.taken }; point = pt; there = there; is = is }
    ends n state IsArrayStore span k pt there is = record { state = state_of state []; comes = record { text = k.text; gives = k.gives; taken = k.taken }; point = pt; there = there; is = is }
    ends n state IsDeep span k pt there is = (state_of state [], record { text = k.text; gives = k.gives; taken = k.taken })
    ends n state IsLong span k pt there is = (state_of state [], record { text = k.text; gives = k.gives; taken = k.taken })

    pub answers : (n : ℕ) (stepped : Stepped) (state : MachineState) → PrintsTo (Runs n) stepped state old new → (end : LastEnd) → stepped ≡ WillEnd end → (span : Span) (again : Program) → again ≡ P → (pt : Point) × (point_at again state.top.body state.top.at ≡ Some pt) × (pt.span ≡ span) → (e : Ended) → e ≡ ended_at end span → Answers (running P names first) n old new e
    answers n stepped state h end is span again to x e e_is =
        subst (λ e. Answers (running P names first) n old new e) (sym e_is) (ends n state end span (did n stepped (WillEnd end) state h is) x.0 (subst (λ P. point_at P state.top.body state.top.at ≡ Some x.0) to x.1) x.2)

    pub sticks : (n : ℕ) (stepped : Stepped) (state : MachineState) → PrintsTo (Runs n) stepped state old new → stepped ≡ WillStick → (out : List ℕ) → run P names (Goes (state_of first out)) n ≡ Stuck
    sticks n stepped state h is out = (did n stepped WillStick state h is).gives out

    pub keeps : (n : ℕ) (stepped : Stepped) (state : MachineState) → PrintsTo (Runs n) stepped state old new → stepped ≡ WillGo → ((st next : State) → IsReached P names st → run P names (Goes st) n ≡ Goes next → IsReached P names next) → IsGoing (running P names first) → IsGoing (running P names state)
    keeps n stepped state h is kept g =
        let k = did n stepped WillGo state h is in
        record { text = g.text ++ k.text; reached = kept (state_of first g.text) (state_of state (g.text ++ k.text)) g.reached (k.gives g.text) }

  -- no step is done yet
  pub nothing : (old new : Option (List ℕ)) → new ≡ old → Comes (running P names first) 0 Goes (state_of first []) old new
  nothing old new none = subst (λ w. Comes (running P names first) 0 Goes (state_of first []) old w) (sym none) (record { text = []; gives = λ out. ap (λ x. Goes (state_of first x)) (sym (append-nil out)); taken = appends_none old })

-- the start of a main goes on
pub starts_going : (P seen again : Program) → seen ≡ P → again ≡ P → (names words : List (List ℕ)) (m b body : ℕ) → MainForm P m b → body_of (method_at seen m) ≡ Some body → (state : MachineState) → state_of state [] ≡ start_state again usual_limits body words → IsGoing (running P names state)
starts_going P seen again same also names words m b body main its state is =
    let here : body_of (method_at P m) ≡ Some b = ap body_of main.there ∙ main.body in
    let there : body_of (method_at P m) ≡ Some body = subst (λ p. body_of (method_at p m) ≡ Some body) same its in
    let one : body ≡ b = cc in
    let start : state_of state [] ≡ start_state P usual_limits b words = subst (λ b. state_of state [] ≡ start_state P usual_limits b words) one (subst (λ p. state_of state [] ≡ start_state p usual_limits body words) also is) in
    record {
      text = [];
      reached = subst (λ st. IsReached P names st) (sym start) (record { method = m; body = b; main = main; limits = usual_limits; words = words; steps = 0; comes = refl });
    }

-- no memory was found for the start
pub never_started : (P : Program) (names words : List (List ℕ)) (steps : ℕ) (old : Option (List ℕ)) (m : ℕ) → IsOnlyMain P m → RunsMain P names words steps old old OutOfMemory
never_started P names words steps old m only = record {
  method = m;
  body = only.0.0;
  only = only;
  main = only.0.1;
  answer = (0, omega arith, start_state P usual_limits only.0.0 words, record { text = []; gives = λ out. ap (λ x. Goes (printed (start_state P usual_limits only.0.0 words) x)) (sym (append-nil out)); taken = appends_none old });
}
