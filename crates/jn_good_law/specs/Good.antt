-- Good states: what is kept of each state that a run of an accepted program comes to.
use Rattle.jn_heap.specs.State.{State}
use Rattle.jn_soundness.specs.World.{World}
use Rattle.jn_soundness.specs.Marks.{Marking}
use Rattle.jn_soundness.specs.Marked.{Marked}
use Rattle.jn_soundness.specs.Types.{StateTyped}
use Rattle.jn_progress_law.specs.Live.{StateLive}
use Rattle.jn_good_law.specs.Calls.{Calls}
use Rattle.jn_good_law.specs.Construction.{Constructs}

module _ (W : World) where
  pub record Good (st : State) (mk : Marking) : Type 0 where
    -- eras, committed and free objects, frames and tests
    pub marked : Marked W st mk
    -- each value is of its base type
    pub typed : StateTyped W st
    -- a register that is written on every path to its frame's point holds a value; ints are numbers and booleans truths
    pub live : StateLive W.program st
    -- each frame runs the body that the point below it selects
    pub calls : Calls W.program st.heap st.top st.waiting
    -- which classes have ended on free objects and on each constructor's `this`
    pub constructs : Constructs W.program st mk
