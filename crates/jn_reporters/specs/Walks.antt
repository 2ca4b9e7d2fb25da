-- How far a walk over a text goes.
use Rattle.std.specs.Prelude.{ℕ, ◌≡◌, ◌≤◌, ◌<◌, ◌-◌, Bool, true, false, List, [], ◌∷◌, length, get_or}
use Rattle.jn_base.specs.Place.{is_line_end}
use Rattle.jn_reporters.specs.Excerpts.{begun}

abbrev pub is_nothing : List ℕ → Bool
is_nothing [] = true
is_nothing (byte ∷ rest) = false

-- a byte that is no line end stands at the place, and so many characters hold it
pub record GoesOn (text : List ℕ) (at left : ℕ) : Type 0 where
  pub within : at < length text
  pub inside : is_line_end (get_or text at 0) ≡ false
  pub fits : begun (get_or text at 0) ≤ left

-- one stands before the place, and a character is left
pub record GoesBack (text : List ℕ) (at left : ℕ) : Type 0 where
  pub some : 0 < at
  pub more : 0 < left
  pub inside : is_line_end (get_or text (at - 1) 0) ≡ false
