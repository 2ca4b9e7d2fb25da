-- Chains through a list of numbers, along which those that may be equal stand: by remainders.
use Rattle.std.specs.Prelude.{ℕ, ◌≡◌, ◌+◌, ◌%◌, ◌<◌, ◌≤◌, Bool, false, cond, List, [], ◌∷◌, length, slice_index_or}

-- from one place on up to another no number has the remainder
abbrev pub Skips : List ℕ → ℕ → ℕ → ℕ → ℕ → Type 0
Skips xs count rest from to = (i : ℕ) → from ≤ i → i < to → slice_index_or xs i 0 % count ≡ rest → ⊥

-- for each remainder a place before which no number from a place on has it
abbrev pub Heads : List ℕ → ℕ → ℕ → List ℕ → Type 0
Heads xs count from heads = (rest : ℕ) → Skips xs count rest from (slice_index_or heads rest 0)

-- for each place one before which no number after it has its number's remainder
abbrev pub Nexts : List ℕ → ℕ → List ℕ → Type 0
Nexts xs count nexts = (at : ℕ) → Skips xs count (slice_index_or xs at 0 % count) (at + 1) (slice_index_or nexts at 0)

-- heads and next places leave out no number that is looked for
pub record Chained (xs heads nexts : List ℕ) : Type 0 where
  pub first : Heads xs (length heads) 0 heads
  pub later : Nexts xs (length heads) nexts

-- from one place on up to another the number doesn't stand
abbrev pub Avoids : List ℕ → ℕ → ℕ → ℕ → Type 0
Avoids xs x from to = (i : ℕ) → from ≤ i → i < to → slice_index_or xs i 0 ≡ x → ⊥

-- from one place on up to another no item of a list passes
abbrev pub Lacks : {K : Type 0} → (K → Bool) → List K → ℕ → ℕ → Type 0
Lacks {K} test keys from to = (i : ℕ) (k : K) → from ≤ i → i < to → i < length keys → test (slice_index_or keys i k) ≡ false

-- the keys at whose places no bit is set
abbrev pub unmarked : {K : Type 0} → List K → List Bool → List K
unmarked [] bits = []
unmarked (k ∷ keys) [] = []
unmarked (k ∷ keys) (b ∷ bits) = cond b (unmarked keys bits) (k ∷ unmarked keys bits)
