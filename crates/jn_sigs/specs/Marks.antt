-- Flags, one for each number.
use Rattle.std.specs.Prelude.{ℕ, ◌<◌, ◌≡◌, Bool, false, ◌||◌, List, length, slice_index_or}

-- each flag says what the test says of its number
abbrev pub AreFlags : List Bool → (ℕ → Bool) → Type 0
AreFlags flags test = (i : ℕ) → i < length flags → slice_index_or flags i false ≡ test i

-- a flag is set where it was, or where the test says so
abbrev pub Marked : List Bool → List Bool → (ℕ → Bool) → Type 0
Marked before after test = (i : ℕ) → i < length before → slice_index_or after i false ≡ (slice_index_or before i false || test i)
