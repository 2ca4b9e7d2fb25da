-- Lines and columns of a text (JLS 8 section 3.4).
use Rattle.std.specs.Prelude.{ℕ, ◌+◌, ◌/◌, Bool, not, ◌&&◌, ◌||◌, ◌==◌, List, [], ◌∷◌, count_by, take, if◌then◌else◌}
use Rattle.std.specs.List.{list_any}
use Rattle.jn_base.specs.declared.place.Place.{Place}
use Rattle.jn_base.specs.declared.place.Span.{Span}

-- a carriage return or a line feed
abbrev pub is_line_end : ℕ → Bool
is_line_end byte = byte == 13 || byte == 10

-- a line feed right after a carriage return belongs to the line end that began there
abbrev pub ends_line : ℕ → ℕ → Bool
ends_line previous byte = byte == 13 || (byte == 10 && not (previous == 13))

-- how many lines end in a text that stands after this byte
abbrev pub line_ends : ℕ → List ℕ → ℕ
line_ends previous [] = 0
line_ends previous (byte ∷ rest) = if ends_line previous byte then 1 + line_ends byte rest else line_ends byte rest

-- the longest end of a text that has no line end
abbrev pub last_line : List ℕ → List ℕ
last_line [] = []
last_line (byte ∷ rest) = if list_any is_line_end (byte ∷ rest) then last_line rest else byte ∷ rest

-- a byte from 128 to 191 goes on with a character of UTF-8 that an earlier one began
abbrev pub is_continuation : ℕ → Bool
is_continuation byte = byte / 64 == 2

-- how many characters a text has
abbrev pub characters : List ℕ → ℕ
characters text = count_by (λ byte. not (is_continuation byte)) text

-- the line and the column, both from 1, of what stands after this text
abbrev pub place_behind : List ℕ → Span → Place
place_behind before span = record { file = span.file; line = 1 + line_ends 0 before; col = 1 + characters (last_line before) }

-- the place of a span's first byte
abbrev pub place_in : List ℕ → Span → Place
place_in text span = place_behind (take span.from text) span
