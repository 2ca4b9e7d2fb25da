-- Many bodies, each with a word of its own: which word each reads, and what it outputs.
use Rattle.std.specs.Prelude.{ℕ, zero, suc, ◌-◌, ◌%◌, ◌==◌, if◌then◌else◌, List, [], ◌∷◌, slice_index, bit_or}
use Rattle.jn_base.specs.declared.number.WordNo.{WordNo}
use Rattle.jn_sigtable.specs.System.{System}
use Rattle.jn_sigtable.specs.Machine.{one_at}
use Rattle.jn_solver_samples.specs.declared.net.Shape.{Shape}
use Rattle.jn_solver_samples.specs.declared.net.Shape.TheVariants.{Chain, Star, Ring}

-- the word that body b of n bodies reads
abbrev pub source : Shape → ℕ → ℕ → ℕ
source Chain n b = b - 1
source Star n b = 0
source Ring n b = if b == 0 then (n - 1) else (b - 1)

-- the bits of that word and one of its own
abbrev pub net_by : (ℕ → ℕ) → ℕ → System
net_by from n = record {
  bodies = n;
  words = n;
  reads = λ b w. from b == w;
  output = λ b words. (record { 0 = b }, bit_or (slice_index words (from b)) (one_at (b % 8))) ∷ [];
}

abbrev pub net_of : Shape → ℕ → System
net_of shape n = net_by (source shape n) n
