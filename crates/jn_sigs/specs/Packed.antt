-- Signatures as packed words: 21 qualifiers to a word, three bits each, the first lowest.
use Rattle.std.specs.Prelude.{ℕ, zero, suc, ◌+◌, ◌/◌, ◌%◌, ◌^◌, ◌<◌, ◌≤◌, ◌≡◌, List, [], ◌∷◌, length, slice_index_or, slice_set}
use Rattle.jn_quals.specs.Qualifier.{Qualifier}
use Rattle.jn_quals.specs.Order.{no_qual, join}
use Rattle.jn_quals.specs.Word.{unpack}

-- the qualifier that words have for a slot
abbrev pub at_slot : List ℕ → ℕ → Qualifier
at_slot words i = unpack (slice_index_or words (i / 21) 0) (i % 21)

abbrev pub qualifiers_from : List ℕ → ℕ → ℕ → List Qualifier
qualifiers_from words i zero = []
qualifiers_from words i (suc n) = at_slot words i ∷ qualifiers_from words (i + 1) n

-- the qualifiers that words have for so many slots
abbrev pub unpacked : List ℕ → ℕ → List Qualifier
unpacked words slots = qualifiers_from words 0 slots

-- as many words as the slots need, with zero in each bit of no slot
pub record ArePacked (words : List ℕ) (slots : ℕ) : Type 0 where
  pub enough : length words ≡ (slots + 20) / 21
  pub empty : (i : ℕ) → slots ≤ i → at_slot words i ≡ no_qual
  pub top : (i : ℕ) → slice_index_or words i 0 < 2 ^ 63

-- the signature with a qualifier joined to that of a slot
abbrev pub raised : List Qualifier → ℕ → Qualifier → List Qualifier
raised quals i q = slice_set quals i (join (slice_index_or quals i no_qual) q)
