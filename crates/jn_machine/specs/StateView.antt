-- States of the code as those of the definition, and what a point did.
use Rattle.std.specs.Prelude.{ℕ, List, ◌++◌}
use Rattle.jn_machine.specs.declared.state.MachineState.{MachineState}
use Rattle.jn_machine.specs.declared.state.Acted.{Acted}
use Rattle.jn_machine.specs.declared.state.Acted.TheVariants.{Goes as HasGone, Prints as HasPrinted, Ends as HasEnded, Stuck as IsStuck}
use Rattle.jn_machine.specs.declared.state.Stepped.{Stepped}
use Rattle.jn_machine.specs.declared.state.Stepped.TheVariants.{Goes as WillGo, Ends as WillEnd, Stuck as WillStick}
use Rattle.jn_heap.specs.State.{State, Next, Goes, Ends, Stuck}
use Rattle.jn_heap.specs.Values.{usual_limits}
use Rattle.jn_machine.specs.Ends.{end_of}

-- the state with the text printed so far, which the code doesn't keep, and the interpreter's limits
abbrev pub state_of : MachineState → List ℕ → State
state_of m out = record { limits = usual_limits; heap = m.heap.items; statics = m.statics.items; out = out; top = m.top; waiting = m.waiting.items }

-- what a point did that left the machine so, where the text printed before it is out
abbrev pub acted_next : Acted → MachineState → List ℕ → Next
acted_next HasGone m out = Goes (state_of m out)
acted_next (HasPrinted line) m out = Goes (state_of m (out ++ line.value))
acted_next (HasEnded e) m out = Ends (end_of e) (state_of m out)
acted_next IsStuck m out = Stuck

-- what a step did that left the machine so, and this text
abbrev pub next_of : Stepped → MachineState → List ℕ → Next
next_of WillGo m out = Goes (state_of m out)
next_of (WillEnd e) m out = Ends (end_of e) (state_of m out)
next_of WillStick m out = Stuck
