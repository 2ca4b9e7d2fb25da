-- What stands before a byte of a text, counted byte by byte.
use Rattle.std.specs.Prelude.{ℕ, ◌+◌, cond, Bool, List, ◌&&◌, ◌||◌, ◌==◌, nat_lt, take}
use Rattle.jn_base.specs.Place.{is_line_end, ends_line, line_ends, last_line}
use Rattle.jn_diag.specs.Sweep.{byte_before}
use Rattle.jn_lsp_text.specs.Positions.{units, units_begun}
use Rattle.jn_lsp_text.specs.declared.counting.Counted.{Counted}
use Rattle.jn_lsp_text.specs.declared.encoding.Encoding.{Encoding}
use Rattle.jn_lsp_text.specs.declared.position.Position.{Position}

-- what stands before a byte of a text, counted
abbrev pub counted : Encoding → List ℕ → ℕ → Counted
counted encoding text at = record { previous = byte_before text at; lines = line_ends 0 (take at text); units = units encoding (last_line (take at text)) }

-- a byte more
abbrev pub with : Encoding → Counted → ℕ → Counted
with encoding before byte = record {
  previous = byte;
  lines = before.lines + cond (ends_line before.previous byte) 1 0;
  units = cond (is_line_end byte) 0 (before.units + units_begun encoding byte);
}

-- on a line after the position's, or on its line after it
abbrev pub is_beyond : Counted → Position → Bool
is_beyond before position = nat_lt position.line before.lines || (before.lines == position.line && nat_lt position.character before.units)
