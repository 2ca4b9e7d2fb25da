-- Positions of a text, in lines and units of an encoding (Language Server Protocol 3.17, "Position" and "PositionEncodingKind"); lines as JLS 8 section 3.4 ends them.
use Rattle.std.specs.Prelude.{ℕ, ◌≡◌, ◌≤◌, ◌<◌, false, ◌&&◌, ◌==◌, nat_le, List, length, take, get_or, if◌then◌else◌}
use Rattle.std.specs.List.{sum_by}
use Rattle.jn_base.specs.Place.{is_continuation, line_ends, last_line}
use Rattle.jn_diag.specs.Sweep.{byte_before}
use Rattle.jn_lsp_text.specs.declared.encoding.Encoding.{Encoding}
use Rattle.jn_lsp_text.specs.declared.encoding.Encoding.TheVariants.{Utf16, Utf8}
use Rattle.jn_lsp_text.specs.declared.position.Position.{Position}

-- how many units a byte of UTF-8 begins: of UTF-16 none within a character, two for a character of four bytes (from 240), else one; of UTF-8 it is one
abbrev pub units_begun : Encoding → ℕ → ℕ
units_begun Utf16 byte = if is_continuation byte then 0 else if nat_le 240 byte then 2 else 1
units_begun Utf8 byte = 1

-- how many units a text has
abbrev pub units : Encoding → List ℕ → ℕ
units encoding text = sum_by (units_begun encoding) text

-- the position of what stands after this text
abbrev pub position_behind : Encoding → List ℕ → Position
position_behind encoding before = record { line = line_ends 0 before; character = units encoding (last_line before) }

-- the position of a text's byte, or of its end
abbrev pub position_at : Encoding → List ℕ → ℕ → Position
position_at encoding text offset = position_behind encoding (take offset text)

-- the one stands before the other, or where it stands
pub record IsUpTo (one other : Position) : Type 0 where
  pub line : one.line ≤ other.line
  pub character : one.line ≡ other.line → one.character ≤ other.character

-- the greatest offset whose position isn't after this one; in UTF-8 it may stand within a character, where the position does
pub record IsOffsetOf (encoding : Encoding) (text : List ℕ) (position : Position) (offset : ℕ) : Type 0 where
  pub within : offset ≤ length text
  pub reached : IsUpTo (position_at encoding text offset) position
  pub greatest : (other : ℕ) → other ≤ length text → IsUpTo (position_at encoding text other) position → other ≤ offset

-- the offset of a byte that begins a unit, or of the text's end: in UTF-16 of a character's first byte, in UTF-8 of each; the CR and LF of one line end
-- aren't two
pub record IsBetweenUnits (encoding : Encoding) (text : List ℕ) (offset : ℕ) : Type 0 where
  pub within : offset ≤ length text
  pub begins : 1 ≤ units_begun encoding (get_or text offset 0)
  pub whole_line_end : (byte_before text offset == 13 && get_or text offset 0 == 10) ≡ false

-- a position has at most one offset
abbrev pub HaveOneOffset : Type 0
HaveOneOffset = (encoding : Encoding) (text : List ℕ) (position : Position) (one other : ℕ) → IsOffsetOf encoding text position one → IsOffsetOf encoding text position other → one ≡ other

-- an offset between two units is that of its position
abbrev pub OffsetsReturn : Type 0
OffsetsReturn = (encoding : Encoding) (text : List ℕ) (offset : ℕ) → IsBetweenUnits encoding text offset → IsOffsetOf encoding text (position_at encoding text offset) offset

-- an offset is on its position's line where there is that line, and else the text's end
abbrev pub StandOnTheirLines : Type 0
StandOnTheirLines = (encoding : Encoding) (text : List ℕ) (position : Position) (offset : ℕ) → IsOffsetOf encoding text position offset →
    (position.line ≤ line_ends 0 text → line_ends 0 (take offset text) ≡ position.line) × (line_ends 0 text < position.line → offset ≡ length text)
