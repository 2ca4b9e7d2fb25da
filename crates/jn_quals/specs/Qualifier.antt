-- Qualifiers as sets of three bits, ordered by inclusion and joined by union (Summers and Mueller, OOPSLA 2011, section on types).
use Rattle.std.specs.Prelude.{ℕ, ◌+◌, ◌%◌, ◌/◌, Bool, cond, nat_eq}

-- may be null, may be committed, may be free
pub record Qualifier : Type 0 where
  pub null : Bool
  pub committed : Bool
  pub free : Bool

-- whether a number has the bit that counts the given value, a power of two
abbrev pub has_bit : ℕ → ℕ → Bool
has_bit value bits = nat_eq (bits / value % 2) 1

-- the qualifier that the three lowest bits of a number say: 1 for null, 2 for committed, 4 for free
abbrev pub of_bits : ℕ → Qualifier
of_bits bits = record { null = has_bit 1 bits; committed = has_bit 2 bits; free = has_bit 4 bits }

-- a qualifier as a number less than 8: 1 for null, 2 for committed, 4 for free
abbrev pub to_bits : Qualifier → ℕ
to_bits q = cond q.null 1 0 + cond q.committed 2 0 + cond q.free 4 0
