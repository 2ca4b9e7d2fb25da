-- What stands before a byte of a text, and its position.
use Rattle.std.proofs.Common.{◌≡◌, ℕ, List, length, take, sym, ap, ◌∙◌, arith}
use Rattle.std.specs.Prelude.{min}
use Rattle.std.proofs.lemmas.List.{take_min}
use Rattle.jn_lsp_text.specs.Positions.{position_at, position_behind}
use Rattle.jn_lsp_text.specs.declared.counting.Counted.{Counted}
use Rattle.jn_lsp_text.specs.declared.encoding.Encoding.{Encoding}
use Rattle.jn_lsp_text.proofs.Steps.{counted_start}
use Rattle.jn_lsp_text.specs.declared.sweep.Place.{Place}
use Rattle.jn_lsp_text.specs.Sweep.{IsPlaceIn}

pub place_start : (encoding : Encoding) (text : List ℕ) (start : Counted) → start ≡ record { previous = 0; lines = 0; units = 0 } → IsPlaceIn encoding text (record { at = 0; counted = start })
place_start encoding text start e = record { within = omega arith; is = e ∙ sym (counted_start encoding text); lines = omega (arith, ap (λ (c : Counted). c.lines) e); units = omega (arith, ap (λ (c : Counted). c.units) e) }

pub position_there : (encoding : Encoding) (text : List ℕ) (at to : ℕ) (place : Place) → IsPlaceIn encoding text place → place.at ≡ to → to ≡ min at (length text) → record { line = place.counted.lines; character = place.counted.units } ≡ position_at encoding text at
position_there encoding text at to place is e m =
    ap (λ (c : Counted). record { line = c.lines; character = c.units }) is.is
    ∙ ap (position_behind encoding) (ap (λ n. take n text) (e ∙ m) ∙ take_min at text)
