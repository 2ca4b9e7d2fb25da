use Rattle.std.proofs.Common.{◌≡◌, ℕ, ◌<◌, bit_or, length}
use Rattle.std.specs.Prelude.{slice_index}
use Rattle.jn_sigtable.specs.System.{Within}
use Rattle.jn_again.proofs.masks.gone_from_start.Given as goal

abbrev pub invariant-loop-at : goal.invariant-loop-at
invariant-loop-at l = (length l.lost.items ≡ l.at) × ((w : ℕ) → w < l.at → Within (slice_index l.before w) (bit_or (slice_index l.start w) (slice_index l.lost.items w)))
