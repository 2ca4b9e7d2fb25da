-- Qualifiers packed into a word, three bits each, the first lowest.
use Rattle.std.specs.Prelude.{ℕ, ◌*◌, ◌/◌, ◌%◌, ◌^◌, bit_or}
use Rattle.jn_quals.specs.Qualifier.{Qualifier, of_bits, to_bits}

-- the qualifier at an index
abbrev pub unpack : ℕ → ℕ → Qualifier
unpack word index = of_bits (word / 2 ^ (3 * index) % 8)

-- the word with all that it has and the qualifier's bits at an index
abbrev pub pack : ℕ → ℕ → Qualifier → ℕ
pack word index q = bit_or word (to_bits q * 2 ^ (3 * index))
