-- Where a text may be cut between two workers.
use Rattle.std.specs.Prelude.{◌≡◌, ℕ, ◌≤◌, List, [], ◌∷◌, ◌++◌, length, take}

-- the text ends with a line feed
abbrev pub EndsLine : List ℕ → Type 0
EndsLine text = (before : List ℕ) × (text ≡ before ++ 10 ∷ [])

-- after so many bytes of the text a line has just ended
abbrev pub IsCut : ℕ → List ℕ → Type 0
IsCut cut text = (cut ≤ length text) × EndsLine (take cut text)
