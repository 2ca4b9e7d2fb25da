-- Bits that may be lost, while they are found.
use Rattle.std.specs.Prelude.{ℕ, ◌≡◌, ◌⊎◌, ◌<◌, Bool, true, false, List, length, slice_index, slice_index_or, bit_or}
use Rattle.jn_sigtable.specs.System.{System, Within, bits_for}
use Rattle.jn_resume.specs.Keepable.{IsBlind, IsGone}

-- whether a body's flag is set
abbrev pub told : List Bool → ℕ → Bool
told changed b = slice_index_or changed b false

-- masks that have all bits of others
abbrev pub Grows : List ℕ → List ℕ → Type 0
Grows xs ys = (length ys ≡ length xs) × ((w : ℕ) → Within (slice_index xs w) (slice_index ys w))

-- the bits of outputs stand in the start, or others put them out, too, or they may be lost
abbrev pub AreGone : ℕ → (ℕ → ℕ) → (ℕ → ℕ) → (ℕ → ℕ) → (ℕ → ℕ) → Type 0
AreGone n puts start again lost = (w : ℕ) → w < n → Within (puts w) (bit_or (bit_or (start w) (again w)) (lost w))

-- what the old system started with stands in the start or may be lost, and of the first n bodies those that changed have lost what they don't put out again
pub record LoseSent (old new : System) (before start last : List ℕ) (changed : List Bool) (n : ℕ) (lost : List ℕ) : Type 0 where
  pub count : length lost ≡ old.words
  pub started : (w : ℕ) → w < old.words → Within (slice_index before w) (bit_or (slice_index start w) (slice_index lost w))
  pub sent : (b : ℕ) → b < n → told changed b ≡ true → AreGone old.words (bits_for (old.output b last)) (slice_index start) (bits_for (new.output b start)) (slice_index lost)

-- a body that hasn't changed is blind for bits that may be lost, or all that it put out in the end is
abbrev pub Follows : System → List ℕ → List ℕ → List Bool → List ℕ → ℕ → Type 0
Follows old start last changed lost b = told changed b ≡ false → IsBlind old (slice_index lost) b ⊎ IsGone old start last (slice_index lost) b

-- whether more was lost: else the masks are as before, and the fact holds
abbrev pub Lost : Bool → List ℕ → List ℕ → Type 0 → Type 0
Lost true old new fact = Unit {0}
Lost false old new fact = (new ≡ old) × fact
