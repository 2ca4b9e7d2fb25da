-- What stands before a byte of a text, counted.
use Rattle.std.specs.Prelude.{ℕ, ◌≡◌, ◌≤◌, ◌*◌, List, length}
use Rattle.jn_lsp_text.specs.Counting.{counted}
use Rattle.jn_lsp_text.specs.declared.encoding.Encoding.{Encoding}
use Rattle.jn_lsp_text.specs.declared.sweep.Place.{Place}

-- it is that of this byte of the text, or of its end; a byte ends one line at most, and begins two units
pub record IsPlaceIn (encoding : Encoding) (text : List ℕ) (place : Place) : Type 0 where
  pub within : place.at ≤ length text
  pub is : place.counted ≡ counted encoding text place.at
  pub lines : place.counted.lines ≤ place.at
  pub units : place.counted.units ≤ 2 * place.at
