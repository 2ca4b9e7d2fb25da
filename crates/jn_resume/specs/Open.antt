-- Dirty bodies that aren't closed as the words stand.
use Rattle.std.specs.Prelude.{ℕ, ◌≡◌, ◌<◌, Bool, true, false, List}
use Rattle.jn_sigtable.specs.System.{ClosedAt, System}
use Rattle.jn_worklist.specs.Drains.{IsDirtyOrClosed}

-- the body is dirty or closed, and closed where none is told to be open
abbrev pub IsLeftOpen : System → List ℕ → List ℕ → Bool → ℕ → Type 0
IsLeftOpen sys words dirty any b = IsDirtyOrClosed sys words dirty b × (any ≡ false → ClosedAt sys b words words)

-- so are the first n bodies
abbrev pub AreLeftOpen : System → List ℕ → List ℕ → Bool → ℕ → Type 0
AreLeftOpen sys words dirty any n = (b : ℕ) → b < n → IsLeftOpen sys words dirty any b
