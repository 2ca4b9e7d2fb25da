-- Which calls of a fake are to fail.
use Rattle.std.specs.Prelude.{ℕ, ◌≤◌, Bool, List, All, ◌==◌}
use Rattle.std.specs.List.{list_any}

-- the call of this number is to fail
abbrev pub fails_at : List ℕ → ℕ → Bool
fails_at failing number = list_any (λ n. n == number) failing

-- no call is to fail whose number is above that of the calls made so far
abbrev pub IsSteady : List ℕ → ℕ → Type 0
IsSteady failing calls = All (λ n. n ≤ calls) failing
