-- Contributions that others cover.
use Rattle.std.specs.Prelude.{ℕ, IsTrue, List}
use Rattle.jn_quals.specs.Qualifier.{Qualifier}
use Rattle.jn_quals.specs.Order.{within}
use Rattle.jn_transfer.specs.Contributions.{IsSent}

-- one of them goes to the same slot with at least as much
pub record CoveredSend (x : ℕ × Qualifier) (sends : List (ℕ × Qualifier)) : Type 0 where
  pub qual : Qualifier
  pub there : IsSent (x.0, qual) sends
  pub above : IsTrue (within x.1 qual)
