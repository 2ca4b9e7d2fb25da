use Rattle.std.proofs.Common.{◌≡◌}
use Rattle.jn_heap.specs.State.{Goes}
use Rattle.jn_heap.specs.Runs.{run}
use Rattle.jn_machine.specs.StateView.{state_of}
use Rattle.jn_machine.proofs.runs.run.Given as goal

abbrev pub invariant-loop : goal.invariant-loop
invariant-loop l = run l.program l.names (Goes (state_of l.initial.state l.initial.out.items)) l.counter ≡ Goes (state_of l.state l.out.items)
