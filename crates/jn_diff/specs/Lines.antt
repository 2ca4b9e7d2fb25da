-- Lines of texts. A line ends with its line feed, so that a carriage return before it stands in the line; the last one may have none.
use Rattle.std.specs.Prelude.{ℕ, suc, ◌-◌, ◌==◌, ◌&&◌, Bool, not, cond, ltb, bytes_eq, List, [], ◌∷◌, length}
use Rattle.jn_diff.specs.declared.line.Line.{Line}

-- the byte at the beginning of the first line
abbrev pub onto : ℕ → List (List ℕ) → List (List ℕ)
onto b [] = (b ∷ []) ∷ []
onto b (l ∷ ls) = (b ∷ l) ∷ ls

abbrev pub lines_of : List ℕ → List (List ℕ)
lines_of [] = []
lines_of (b ∷ bs) = cond (b == 10) ((b ∷ []) ∷ lines_of bs) (onto b (lines_of bs))

-- the number of bytes of the first line
abbrev pub line_length : List ℕ → ℕ
line_length [] = 0
line_length (b ∷ bs) = cond (b == 10) 1 (suc (line_length bs))

-- one line against another
abbrev pub against : List ℕ → List ℕ → Line
against old new = record { old = old; new = new }

-- a line is there
abbrev pub is_there : List ℕ → Bool
is_there line = not (length line == 0)

-- the first lines of both are there and differ, while more are due that only the new text has
abbrev pub is_added : ℕ → List ℕ → List ℕ → Bool
is_added extra old new = ltb 0 extra && is_there old && is_there new && not (bytes_eq old new)

-- lines of the old text alone: where a text has no line, an empty one stands
abbrev pub alone : List (List ℕ) → List Line
alone [] = []
alone (o ∷ os) = against o [] ∷ alone os

-- the new text has so many lines more, which are the first ones that differ; all others stand in their order, each against the next of the other text
abbrev pub side_by_side : ℕ → List (List ℕ) → List (List ℕ) → List Line
side_by_side extra os [] = alone os
side_by_side extra [] (n ∷ ns) = against [] n ∷ side_by_side extra [] ns
side_by_side extra (o ∷ os) (n ∷ ns) = cond (is_added extra o n) (against [] n ∷ side_by_side (extra - 1) (o ∷ os) ns) (against o n ∷ side_by_side extra os ns)

-- how many lines the second has more
abbrev pub more_lines : List (List ℕ) → List (List ℕ) → ℕ
more_lines old new = length new - length old

-- the lines of two texts, one against the other
abbrev pub paired_by : ℕ → List ℕ → List ℕ → List Line
paired_by extra old new = side_by_side extra (lines_of old) (lines_of new)

abbrev pub paired : List ℕ → List ℕ → List Line
paired old new = paired_by (more_lines (lines_of old) (lines_of new)) old new
