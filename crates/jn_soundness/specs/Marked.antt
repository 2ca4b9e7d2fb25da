-- States that the tables and a marking describe.
use Rattle.std.specs.Prelude.{ℕ, ◌≡◌, List, ◌∷◌, ◌<◌}
use Rattle.jn_soundness.specs.World.{World}
use Rattle.jn_heap.specs.State.{State, Ends, Goes, Next, Stuck}
use Rattle.jn_soundness.specs.Marks.{Free, Marking}
use Rattle.jn_soundness.specs.Heaps.{HeapOk, IsEra}
use Rattle.jn_soundness.specs.Frames.{GoodTop}
use Rattle.jn_soundness.specs.Calls.{Waiting}

module _ (W : World) where
  -- heap, frames and eras are as the marking says
  pub record Marked (st : State) (mk : Marking) : Type 0 where
    pub heap : HeapOk W mk.marks (mk.top ∷ mk.waiting) st.heap
    pub top : GoodTop W mk.marks st.heap st.top mk.top
    pub waiting : Waiting W mk.marks st.heap st.top.body mk.top st.waiting mk.waiting
    pub below : mk.top.era < mk.next
    -- a free object's era is that of a frame
    pub eras : (o a : ℕ) (ended : List ℕ) → mk.marks o ≡ Free a ended → IsEra a (mk.top ∷ mk.waiting)

  -- where a step gives a state
  abbrev pub MarkedNext : Marking → Next → Type 0
  MarkedNext mk (Goes st) = Marked st mk
  MarkedNext mk (Ends e st) = Unit {0}
  MarkedNext mk Stuck = Unit {0}
