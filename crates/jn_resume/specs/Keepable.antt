-- Which words of an earlier solving may stand when some bodies have changed.
use Rattle.std.specs.Prelude.{ℕ, ◌≡◌, ◌⊎◌, ◌<◌, ◌^◌, Bool, true, false, List, length, slice_index, bit_or}
use Rattle.std.specs.Int.{bit_at}
use Rattle.jn_sigtable.specs.System.{IsLawful, System, Within, bits_for, least}

-- the body puts out the same on words that differ in these bits alone
abbrev pub IsBlind : System → (ℕ → ℕ) → ℕ → Type 0
IsBlind sys bits b = (xs ys : List ℕ) → length xs ≡ sys.words → length ys ≡ sys.words
    → ((w : ℕ) → w < sys.words → (i : ℕ) → bit_at (bits w) i ≡ 0 → bit_at (slice_index xs w) i ≡ bit_at (slice_index ys w) i)
    → sys.output b xs ≡ sys.output b ys

-- the body is blind for these bits, and puts out none of them on any words
pub record StandsApart (sys : System) (bits : ℕ → ℕ) (b : ℕ) : Type 0 where
  pub blind : IsBlind sys bits b
  pub silent : (xs : List ℕ) → length xs ≡ sys.words → (w : ℕ) → w < sys.words → (i : ℕ) → bit_at (bits w) i ≡ 1 → bit_at (bits_for (sys.output b xs) w) i ≡ 0

-- two systems have as many words and bodies, and a body that isn't told as changed puts out the same in both
pub record AgreesBut (old new : System) (changed : ℕ → Bool) : Type 0 where
  pub words : old.words ≡ new.words
  pub bodies : old.bodies ≡ new.bodies
  pub same : (b : ℕ) → b < old.bodies → changed b ≡ false → (xs : List ℕ) → length xs ≡ old.words → old.output b xs ≡ new.output b xs

-- all that the body put out in the end stands in the start or may be lost
abbrev pub IsGone : System → List ℕ → List ℕ → (ℕ → ℕ) → ℕ → Type 0
IsGone sys start last lost b = (w : ℕ) → w < sys.words → Within (bits_for (sys.output b last) w) (bit_or (slice_index start w) (lost w))

-- `lost` has for each word the bits that may be lost where the old system starts with `before`, the new one with `start`, and the old one's least words
-- are `last`. What it started with stands in the new start or may be lost. A bit that a changed body put out in the end stands in the start, or the body puts
-- it out on the start, or it may be lost. Each other body is blind for bits that may be lost, or all that it put out in the end stands in the start or may be lost
pub record AreKeepable (old new : System) (before start last : List ℕ) (changed : ℕ → Bool) (lost : ℕ → ℕ) : Type 0 where
  pub started : (w : ℕ) → w < old.words → Within (slice_index before w) (bit_or (slice_index start w) (lost w))
  pub sent : (b : ℕ) → b < old.bodies → changed b ≡ true → (w : ℕ) → w < old.words
      → Within (bits_for (old.output b last) w) (bit_or (bit_or (slice_index start w) (bits_for (new.output b start) w)) (lost w))
  pub followed : (b : ℕ) → b < old.bodies → changed b ≡ false → IsBlind old lost b ⊎ IsGone old start last lost b

-- the first n words: each has the bits of the start, and no other than those of old words that can't be lost
pub record StandBelow (n : ℕ) (start old lost words : List ℕ) : Type 0 where
  pub count : length words ≡ n
  pub above : (w : ℕ) → w < n → Within (slice_index start w) (slice_index words w)
  pub below : (w m : ℕ) → w < n → Within (slice_index start w) m → Within (slice_index old w) (bit_or m (slice_index lost w)) → Within (slice_index words w) m

abbrev pub StandIn : List ℕ → List ℕ → List ℕ → List ℕ → Type 0
StandIn start old lost words = StandBelow (length start) start old lost words

-- words of 64 bits
abbrev pub AreSmall : List ℕ → Type 0
AreSmall xs = (w : ℕ) → slice_index xs w < 2 ^ 64

-- what law and code ask of an edit: both systems keep the laws, and `last` are the old one's least words
pub record IsEditOf (old new : System) (before start last : List ℕ) (changed : ℕ → Bool) : Type 0 where
  pub old_lawful : IsLawful old
  pub new_lawful : IsLawful new
  pub agrees : AgreesBut old new changed
  pub before_count : length before ≡ old.words
  pub before_small : AreSmall before
  pub start_count : length start ≡ new.words
  pub start_small : AreSmall start
  pub was : last ≡ least old before
