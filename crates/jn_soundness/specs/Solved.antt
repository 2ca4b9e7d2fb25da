-- Programs under a closed signature: what inference and the rules have to establish.
use Rattle.std.specs.Prelude.{ℕ, ◌≡◌, false, IsTrue, [], Some, slice_get, slice_index_or}
use Rattle.jn_quals.specs.Order.{no_qual, within}
use Rattle.jn_points.specs.declared.program.Body.{Body}
use Rattle.jn_points.specs.declared.program.SlotInfo.{SlotInfo}
use Rattle.jn_points.specs.Lookup.{body_at}
use Rattle.jn_points.specs.Shaped.{Shaped}
use Rattle.jn_transfer.specs.Least.{Respects}
use Rattle.jn_transfer.specs.Rules.{rows}
use Rattle.jn_transfer.specs.Contributions.{Closed, FieldSlots}
use Rattle.jn_soundness.specs.World.{World, table_at}

-- a program of the shapes that each regular one has (`Shaped`) whose fields' slots are there, a signature that is closed and has what slots that aren't inferred
-- start with, tables that respect the edges, and no row of the rules
pub record Solved (W : World) : Type 0 where
  pub shaped : Shaped W.program
  pub slots : FieldSlots W.program
  pub starts : (n : ℕ) (info : SlotInfo) → slice_get W.program.slots n ≡ Some info → info.inferred ≡ false → IsTrue (within info.start (slice_index_or W.sig n no_qual))
  pub respects : (b : ℕ) (x : Body) → body_at W.program b ≡ Some x → Respects W.program W.sig b (table_at W b)
  pub closed : Closed W.program W.sig W.tables
  pub none : rows W.program W.sig W.tables ≡ []
