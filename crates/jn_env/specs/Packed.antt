-- Bits packed into words: 63 to a word, the first lowest, so that a qualifier's three bits stand in one word.
use Rattle.std.specs.Prelude.{ℕ, zero, suc, ◌+◌, ◌*◌, ◌/◌, ◌%◌, ◌^◌, ◌<◌, ◌≤◌, ◌≡◌, Bool, false, not, ◌||◌, nat_eq, bit_or, List, [], ◌∷◌, length, slice_index_or, slice_set}
use Rattle.jn_quals.specs.Qualifier.{Qualifier}

abbrev pub bit : ℕ → ℕ → Bool
bit word j = nat_eq (word / 2 ^ j % 2) 1

-- the bit that words have at a place
abbrev pub bit_at : List ℕ → ℕ → Bool
bit_at words i = bit (slice_index_or words (i / 63) 0) (i % 63)

abbrev pub bits_from : List ℕ → ℕ → ℕ → List Bool
bits_from words i zero = []
bits_from words i (suc n) = bit_at words i ∷ bits_from words (i + 1) n

-- the bits that words have at the first places
abbrev pub bits_of : List ℕ → ℕ → List Bool
bits_of words count = bits_from words 0 count

-- as many words as the bits need, with zero in each place after them
pub record HoldBits (words : List ℕ) (count : ℕ) : Type 0 where
  pub enough : length words ≡ count / 63 + 1
  pub empty : (i : ℕ) → count ≤ i → bit_at words i ≡ false
  pub top : (i : ℕ) → slice_index_or words i 0 < 2 ^ 63

-- three bits as a qualifier
abbrev pub qual_in : List Bool → ℕ → Qualifier
qual_in bits r = record { null = slice_index_or bits (3 * r) false; committed = slice_index_or bits (3 * r + 1) false; free = slice_index_or bits (3 * r + 2) false }

abbrev pub with_qual : List Bool → ℕ → Qualifier → List Bool
with_qual bits r q = slice_set (slice_set (slice_set bits (3 * r) q.null) (3 * r + 1) q.committed) (3 * r + 2) q.free

-- place by place, by union
abbrev pub either_bits : List Bool → List Bool → List Bool
either_bits [] bs = bs
either_bits (a ∷ as') [] = a ∷ as'
either_bits (a ∷ as') (b ∷ bs) = (a || b) ∷ either_bits as' bs

abbrev pub either_words : List ℕ → List ℕ → List ℕ
either_words [] bs = bs
either_words (a ∷ as') [] = a ∷ as'
either_words (a ∷ as') (b ∷ bs) = bit_or a b ∷ either_words as' bs

-- the second list has a bit that the first lacks
abbrev pub rises : List ℕ → List ℕ → Bool
rises [] bs = false
rises (a ∷ as') [] = false
rises (a ∷ as') (b ∷ bs) = not (nat_eq (bit_or a b) a) || rises as' bs
