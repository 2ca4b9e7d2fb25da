-- Hunks: the lines that differ, each with three lines of context before and after it.
use Rattle.std.specs.Prelude.{ℕ, zero, suc, ◌-◌, Bool, not, ◌||◌, ltb, cond, bytes_eq, List, [], ◌∷◌, ◌++◌, take}
use Rattle.std.specs.List.{list_any}
use Rattle.jn_diff.specs.declared.line.Line.{Line}

abbrev pub is_changed : Line → Bool
is_changed l = not (bytes_eq l.old l.new)

-- the first line is shown: it is one of the lines of context that are due, or a change stands in it or in one of the three lines after it
abbrev pub is_shown : ℕ → List Line → Bool
is_shown due ls = ltb 0 due || list_any is_changed (take 4 ls)

-- the lines of context that are due after a line
abbrev pub due_behind : ℕ → Line → ℕ
due_behind due l = cond (is_changed l) 3 (due - 1)

-- how many lines are shown from the first one on
abbrev pub shown_count : ℕ → List Line → ℕ
shown_count due [] = 0
shown_count due (l ∷ ls) = cond (is_shown due (l ∷ ls)) (suc (shown_count (due_behind due l) ls)) 0

-- lines that are shown together, the first by its number, from 1, which counts lines that one of the texts alone has, too
pub record Hunk : Type 0 where
  pub first : ℕ
  pub lines : List Line

-- so many lines, where there are any
abbrev pub hunk_of : ℕ → ℕ → List Line → List Hunk
hunk_of first zero ls = []
hunk_of first (suc n) ls = record { first = first; lines = take (suc n) ls } ∷ []

-- the hunks of the lines from this number on, of which the first ones stand in a hunk that began before; before all others none are due
abbrev pub hunks_from : ℕ → ℕ → List Line → List Hunk
hunks_from first inside [] = []
hunks_from first (suc inside) (l ∷ ls) = hunks_from (suc first) inside ls
hunks_from first zero (l ∷ ls) = hunk_of first (shown_count 0 (l ∷ ls)) (l ∷ ls) ++ hunks_from (suc first) (shown_count 0 (l ∷ ls) - 1) ls

abbrev pub hunks : List Line → List Hunk
hunks ls = hunks_from 1 0 ls
