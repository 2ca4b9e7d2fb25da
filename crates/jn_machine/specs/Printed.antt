-- What goes to a sink.
use Rattle.std.specs.Prelude.{ℕ, ◌≡◌, ◌++◌, List, Option}
use Rattle.jn_outside.specs.Sink.{Appends, AppendsPrefix}
use Rattle.jn_heap.specs.State.{Next, Goes}
use Rattle.jn_machine.specs.declared.state.MachineState.{MachineState}
use Rattle.jn_machine.specs.declared.state.Stepped.{Stepped}
use Rattle.jn_machine.specs.declared.state.Stepped.TheVariants.{Goes as WillGo}
use Rattle.jn_machine.specs.StateView.{state_of, next_of}

-- after any text printed before, the definition gives what was done with one more text, which the sink took
pub record PrintsTo (does : List ℕ → Next) (stepped : Stepped) (state : MachineState) (old new : Option (List ℕ)) : Type 0 where
  pub text : List ℕ
  pub gives : (out : List ℕ) → does out ≡ next_of stepped state (out ++ text)
  pub taken : Appends old new text

-- the definition goes on, and the sink took the whole text so far
pub record PrintsFront (does : List ℕ → Next) (old new : Option (List ℕ)) : Type 0 where
  pub state : MachineState
  pub told : PrintsTo does WillGo state old new

-- after any text printed before, the definition goes on with one more text, of which the sink took a prefix
pub record PrintsSome (does : List ℕ → Next) (state : MachineState) (old new : Option (List ℕ)) : Type 0 where
  pub text : List ℕ
  pub gives : (out : List ℕ) → does out ≡ Goes (state_of state (out ++ text))
  pub taken : AppendsPrefix old new text
