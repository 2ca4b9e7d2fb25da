use Rattle.jn_machine.specs.StateView.{state_of}
use Rattle.jn_machine.proofs.Ending.{ends_within, sticks_within}
use Rattle.jn_machine.proofs.runs.run.Goals as goal

pub returns-in-Ends : goal.returns-in-Ends
returns-in-Ends c = ends_within c.args.program.now c.args.names.now _ _ _ c.loop.counter _ (state_of c.loop.state c.loop.out.items) c.loop-test.true c.loop.invariant (rw c.in-Ends.is at c.in_ok-step.ensures)

pub returns-in-Stuck : goal.returns-in-Stuck
returns-in-Stuck c = sticks_within c.args.program.now c.args.names.now _ c.loop.counter _ (state_of c.loop.state c.loop.out.items) c.loop-test.true c.loop.invariant (rw c.in-Stuck.is at c.in_ok-step.ensures)
