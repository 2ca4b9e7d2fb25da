-- Least tables, one body after the other.
use Rattle.std.proofs.Common.{◌≡◌, ℕ, ◌<◌, List, [], length}
use Rattle.std.specs.Prelude.{slice_index_or}
use Rattle.jn_quals.specs.Qualifier.{Qualifier}
use Rattle.jn_points.specs.declared.program.Program.{Program}
use Rattle.jn_env.specs.Order.{Table}
use Rattle.jn_transfer.specs.Least.{IsLeastTable}

-- those of the first bodies
pub record AreFirst (P : Program) (s : List Qualifier) (n : ℕ) (tables : List Table) : Type 0 where
  pub many : length tables ≡ n
  pub each : (b : ℕ) → b < n → IsLeastTable P s b (slice_index_or tables b [])
