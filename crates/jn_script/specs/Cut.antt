-- A text cut at its first separator.
use Rattle.std.specs.Prelude.{ℕ, ◌+◌, ◌<◌, ◌≡◌, List, [], ◌∷◌, length, take, drop, Option, Some, None}
use Rattle.jn_script.specs.Script.{pieces}

-- there is none, or the first is there
abbrev pub IsFirstCut : ℕ → List ℕ → Option ℕ → Type 0
IsFirstCut separator text None = pieces separator text ≡ text ∷ []
IsFirstCut separator text (Some at) = (at < length text) × (pieces separator text ≡ take at text ∷ pieces separator (drop (at + 1) text))
