-- What hunks do to the lines of a text.
use Rattle.std.specs.Prelude.{ℕ, ◌≡◌, ◌+◌, cond, List, [], ◌∷◌, ◌++◌, length}
use Rattle.jn_diff.specs.declared.line.Line.{Line}
use Rattle.jn_diff.specs.Lines.{is_there}
use Rattle.jn_diff.specs.Hunks.{Hunk}

-- a line, where it is there
abbrev pub there : List ℕ → List (List ℕ)
there line = cond (is_there line) (line ∷ []) []

-- the lines as they were
abbrev pub olds : List Line → List (List ℕ)
olds [] = []
olds (l ∷ ls) = there l.old ++ olds ls

-- the lines as they are
abbrev pub news : List Line → List (List ℕ)
news [] = []
news (l ∷ ls) = there l.new ++ news ls

-- the old lines are the new ones up to a hunk's first line, there are those of the hunk in both, and so on after it; `at` is the number of
-- the first line, which counts lines that one of the texts alone has, too
abbrev pub Patches : ℕ → List Hunk → List (List ℕ) → List (List ℕ) → Type 0
Patches at [] old new = old ≡ new
Patches at (h ∷ hs) old new = (same : List (List ℕ)) × (more : List (List ℕ)) × (others : List (List ℕ)) × (at + length same ≡ h.first) × (old ≡ same ++ (olds h.lines ++ more)) × (new ≡ same ++ (news h.lines ++ others)) × Patches (h.first + length h.lines) hs more others
