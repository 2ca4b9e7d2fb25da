-- Rows as a reader sees them.
use Rattle.std.specs.Prelude.{ℕ, List}
use Rattle.jn_base.specs.declared.place.Row.{Row}
use Rattle.jn_base.specs.Place.{place_in}
use Rattle.jn_diag.specs.declared.shown.RowText.{RowText}

-- a row of a file of this name and this text: the name, the line and the column of the row's first byte, and the code
abbrev pub row_shown : List ℕ → List ℕ → Row → RowText
row_shown name text row = let place = place_in text row.span in record { name = name; line = place.line; col = place.col; code = row.code }
