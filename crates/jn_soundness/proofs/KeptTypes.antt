-- Base types are kept by each step.
use Rattle.std.proofs.Common.{◌≡◌, ℕ, List, subst}
use Rattle.jn_points.specs.BaseTyping.{BaseTyped}
use Rattle.jn_heap.specs.State.{Goes, State}
use Rattle.jn_heap.specs.Runs.{run}
use Rattle.jn_soundness.specs.Solved.{Solved}
use Rattle.jn_soundness.specs.Types.{StateTyped}
use Rattle.jn_soundness.specs.World.{World}
use Rattle.jn_soundness.proofs.Overriding.{program_typed}
use Rattle.jn_soundness.proofs.TypedHeaps.{NextOk}
use Rattle.jn_soundness.proofs.TypedSteps.{run_typed}

pub base_types_kept : (W : World) → Solved W → BaseTyped W.program → (names : List (List ℕ)) (n : ℕ) (one next : State) → StateTyped W one → run W.program names (Goes one) n ≡ Goes next → StateTyped W next
base_types_kept W S B names n one next typed goes =
    let P = program_typed W S.shaped B S.none in
    subst (NextOk W B.ordered P) goes (run_typed W B.ordered P names (Goes one) typed n)
