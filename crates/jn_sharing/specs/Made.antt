-- What was made of numbers.
use Rattle.std.specs.Prelude.{ℕ, ◌≡◌, ◌<◌, List, All, length, slice_index_or}

-- each was made of the number beside it
abbrev pub AreMade : {X : Type 0} → (ℕ → X → Type 0) → List (ℕ × X) → Type 0
AreMade Makes made = All (λ p. Makes p.0 p.1) made

-- they were made of the numbers below this one, in their order
abbrev pub AreMadeInOrder : {X : Type 0} → (ℕ → X → Type 0) → ℕ → List X → Type 0
AreMadeInOrder {X} Makes count values = (length values ≡ count) × ((n : ℕ) (d : X) → n < count → Makes n (slice_index_or values n d))
