-- Where a sweep over a text stands.
use Rattle.std.specs.Prelude.{ℕ, ◌≡◌, ◌≤◌, ◌+◌, ◌-◌, Bool, List, cond, length, take, suc, zero, get_or}
use Rattle.jn_base.specs.Place.{ends_line, is_continuation, is_line_end, line_ends, last_line, characters}
use Rattle.jn_diag.specs.declared.sweep.Position.{Position}

-- so many bytes of the text stand before, and these are the line and the column, both from 1, of what stands after them
pub record IsPosition (text : List ℕ) (position : Position) : Type 0 where
  pub within : position.before ≤ length text
  pub line : position.line ≡ 1 + line_ends 0 (take position.before text)
  pub column : position.column ≡ 1 + characters (last_line (take position.before text))

-- the byte before the byte of this number; 0 before the first
abbrev pub byte_before : List ℕ → ℕ → ℕ
byte_before text zero = 0
byte_before text (suc at) = get_or text at 0

-- the position after one byte more, before which this one stands
abbrev pub stepped : Position → ℕ → ℕ → Position
stepped position previous byte = record {
  before = position.before + 1;
  line = position.line + cond (ends_line previous byte) 1 0;
  column = cond (is_line_end byte) 1 (position.column + cond (is_continuation byte) 0 1);
}
