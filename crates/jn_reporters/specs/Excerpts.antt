-- The line on which a row begins, and of a long one what stands around the row.
use Rattle.std.specs.Prelude.{ℕ, ◌-◌, ◌==◌, nat_le, max, Bool, List, [], ◌∷◌, Option, Some, None, length, take, drop, if◌then◌else◌}
use Rattle.jn_base.specs.Place.{characters, is_continuation, is_line_end, last_line}
use Rattle.jn_base.specs.declared.code.Code.{Code}
use Rattle.jn_base.specs.declared.place.Span.{Span}
use Rattle.jn_diag.specs.Order.{code_place}
use Rattle.jn_reporters.specs.declared.excerpt.Excerpt.{Excerpt}
use Rattle.jn_reporters.specs.declared.shown.Extract.{Extract}

-- an excerpt's own bytes, which itself only points into those of the file
abbrev pub extract_of : Excerpt → Extract
extract_of e = record { before = e.before.now; marked = e.marked.now; behind = e.behind.now; begins = e.begins; ends = e.ends }

-- the longest front of a text that has no line end
abbrev pub first_line : List ℕ → List ℕ
first_line [] = []
first_line (byte ∷ rest) = if is_line_end byte then [] else byte ∷ first_line rest

-- how many characters begin at the byte
abbrev pub begun : ℕ → ℕ
begun byte = if is_continuation byte then 0 else 1

-- the longest front of a text that has at most so many characters
abbrev pub first_characters : ℕ → List ℕ → List ℕ
first_characters count [] = []
first_characters count (byte ∷ rest) = if nat_le (begun byte) count then byte ∷ first_characters (count - begun byte) rest else []

-- the shortest end of a text that has so many characters; all of it where it has fewer
abbrev pub last_characters : ℕ → List ℕ → List ℕ
last_characters count [] = []
last_characters count (byte ∷ rest) = if nat_le count (characters rest) then last_characters count rest else byte ∷ rest

-- how many characters are shown before a row, on a line of which so many stand from the row's first one on: 60, and more where fewer than 60 stand there
abbrev pub most_before : ℕ → ℕ
most_before from_row = max 60 (120 - from_row)

-- of what stands before a row on its line, and of what stands from its first byte on, of which so many bytes are the row's: 120 characters, or all
abbrev pub extract_in : List ℕ → List ℕ → ℕ → Extract
extract_in before from_row long =
    let near = last_characters (most_before (characters from_row)) before in
    let ahead = first_characters (120 - characters near) from_row in
    record { before = near; marked = take long ahead; behind = drop long ahead; begins = length near == length before; ends = length ahead == length from_row }

-- around the bytes of a text from one up to, and without, another
abbrev pub extract_at : List ℕ → ℕ → ℕ → Extract
extract_at text from to = extract_in (last_line (take from text)) (first_line (drop from text)) (to - from)

-- the limits B1, B2 and B3, whose files needn't be read
abbrev pub is_limit : Code → Bool
is_limit code = nat_le (code_place code) 2

-- no line is shown for a limit
abbrev pub extract_for : Code → List ℕ → Span → Option Extract
extract_for code text span = if is_limit code then None else Some (extract_at text span.from span.to)
