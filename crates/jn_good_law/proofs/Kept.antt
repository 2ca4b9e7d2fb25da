-- The start is good, and each step keeps a state good.
use Rattle.std.proofs.Common.{◌≡◌, ℕ, zero, suc, Bool, true, false, List, Option, Some, None, refl, subst, cond}
use Rattle.std.specs.Prelude.{eqb}
use Rattle.jn_points.specs.BaseTyping.{Ordered}
use Rattle.jn_points.specs.declared.point.Point.{Point}
use Rattle.jn_soundness.specs.Types.{ProgramTyped, StateTyped}
use Rattle.jn_heap.specs.State.{Ends, Goes, Next, State, Stuck}
use Rattle.jn_heap.specs.Runs.{run, step_at, then_step, step, MainForm, NullFault, start_state, NeverNull}
use Rattle.jn_soundness.specs.World.{World}
use Rattle.jn_points.specs.Lookup.{point_at}
use Rattle.jn_soundness.specs.Marks.{Committed, Marking, Free, Unborn, mark_at, start_marking, mark_after}
use Rattle.jn_soundness.specs.Marked.{Marked}
use Rattle.jn_points.specs.declared.program.Program.{Program}
use Rattle.jn_points.specs.Shaped.{Shaped}
use Rattle.jn_heap.specs.Values.{Limits}
use Rattle.jn_points.specs.Regular.{Regular}
use Rattle.jn_progress_law.specs.Live.{NextLive, StateLive}
use Rattle.jn_points.specs.BaseRows.{NoBaseRows}
use Rattle.jn_regular_law.proofs.Whole.{point_regular}
use Rattle.jn_progress_law.proofs.Runs.{step_live}
use Rattle.jn_good_law.specs.Calls.{Calls}
use Rattle.jn_good_law.specs.Good.{Good}
use Rattle.jn_good_law.proofs.Calling.{kind_calls, CallsNext}
use Rattle.jn_good_law.specs.Construction.{Constructs}
use Rattle.jn_good_law.proofs.Constructing.{ConstructsNext, kind_constructs}

module _ (W : World) (T : Ordered W.program) (Y : ProgramTyped W) (R : Regular W.program) where
  -- each step keeps what the frames run
  pub step_calls : (names : List (List ℕ)) (st next : State) → StateTyped W st → Calls W.program st.heap st.top st.waiting → step W.program names st ≡ Goes next → Calls W.program next.heap next.top next.waiting
  step_calls names st next typed calls is = subst (λ x. CallsNext W T Y R x) is (by (point_at W.program st.top.body st.top.at) refl)
    where
      by : (o : Option Point) → point_at W.program st.top.body st.top.at ≡ o → CallsNext W T Y R (step_at W.program names st o)
      by None at = tt
      by (Some pt) at = kind_calls W T Y R st typed calls pt at names pt.kind refl (point_regular W.program R st.top.body st.top.at pt at)

  -- what has been constructed, too
  pub step_constructs : Shaped W.program → (names : List (List ℕ)) (st next : State) (mk : Marking) → Marked W st mk → Constructs W.program st mk → step W.program names st ≡ Goes next → Constructs W.program next (mark_after W st mk)
  step_constructs S names st next mk good c is = subst (λ x. ConstructsNext W S R (mark_after W st mk) x) is (by (point_at W.program st.top.body st.top.at) refl)
    where
      by : (o : Option Point) → point_at W.program st.top.body st.top.at ≡ o → ConstructsNext W S R (mark_at W st mk o) (step_at W.program names st o)
      by None at = tt
      by (Some pt) at = kind_constructs W S R st mk good c pt at names pt.kind refl (point_regular W.program R st.top.body st.top.at pt at)

  pub step_lives : NoBaseRows W.program → (names : List (List ℕ)) (st next : State) → StateTyped W st → StateLive W.program st → (NullFault W.program st → ⊥) → step W.program names st ≡ Goes next → StateLive W.program next
  step_lives N names st next typed live safe is = subst (λ x. NextLive W.program x) is (step_live W T Y R N names st typed live safe)

-- nothing is free at the start, and main's frame builds nothing
pub start_constructs : (P : Program) (limits : Limits) (b : ℕ) (words : List (List ℕ)) → Constructs P (start_state P limits b words) start_marking
start_constructs P limits b words = record { objects = λ o a c ended h cl. absurd (none o a ended h); top = λ o e. cc; waiting = tt }
  where
    none : (o a : ℕ) (ended : List ℕ) → start_marking.marks o ≡ Free a ended → ⊥
    none o a ended h = by (eqb o 0) h
      where
        by : (t : Bool) → cond t Committed Unborn ≡ Free a ended → ⊥
        by true h = cc
        by false h = cc

-- from the start and the steps alone
module _ (W : World)
    (start : (m b : ℕ) → MainForm W.program m b → (limits : Limits) (words : List (List ℕ)) → Good W (start_state W.program limits b words) start_marking)
    (goes : (names : List (List ℕ)) (st next : State) (mk : Marking) → Good W st mk → step W.program names st ≡ Goes next → Good W next (mark_after W st mk))
    (safe : (st : State) (mk : Marking) → Good W st mk → NullFault W.program st → ⊥) where
  abbrev SomeGood : Next → Type 0
  SomeGood (Goes st) = (mk : Marking) × Good W st mk
  SomeGood (Ends e st) = Unit {0}
  SomeGood Stuck = Unit {0}

  module _ (names : List (List ℕ)) where
    next_good : (x : Next) → SomeGood x → SomeGood (then_step W.program names x)
    next_good (Goes st) g = by (step W.program names st) refl
      where
        by : (x : Next) → step W.program names st ≡ x → SomeGood x
        by (Goes next) is = (mark_after W st g.0, goes names st next g.0 g.1 is)
        by (Ends e end) is = tt
        by Stuck is = tt
    next_good (Ends e st) g = tt
    next_good Stuck g = tt

    run_good : (x : Next) → SomeGood x → (n : ℕ) → SomeGood (run W.program names x n)
    run_good x g zero = g
    run_good x g (suc n) = next_good (run W.program names x n) (run_good x g n)

  -- each state that a run comes to is good
  pub good_run : (m b : ℕ) → MainForm W.program m b → (limits : Limits) (names words : List (List ℕ)) (n : ℕ) (st : State) → run W.program names (Goes (start_state W.program limits b words)) n ≡ Goes st → (mk : Marking) × Good W st mk
  good_run m b main limits names words n st is = subst SomeGood is (run_good names (Goes (start_state W.program limits b words)) (start_marking, start m b main limits words) n)

  pub good_never_null : NeverNull W.program
  good_never_null m b main limits names words n st is fault =
      let g = good_run m b main limits names words n st is in
      safe st g.0 g.1 fault
