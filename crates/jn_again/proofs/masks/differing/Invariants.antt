use Rattle.std.proofs.Common.{◌≡◌, ℕ, ◌<◌, bit_xor, length}
use Rattle.std.specs.Prelude.{slice_index}
use Rattle.jn_again.proofs.masks.differing.Given as goal

abbrev pub invariant-loop-at : goal.invariant-loop-at
invariant-loop-at l = (length l.bits.items ≡ l.at) × ((w : ℕ) → w < l.at → slice_index l.bits.items w ≡ bit_xor (slice_index l.words w) (slice_index l.others w))
