use Rattle.std.proofs.Common.{ℕ, bit_or, take}
use Rattle.std.specs.Prelude.{slice_index}
use Rattle.jn_sigtable.specs.System.{Within, bits_for}
use Rattle.jn_again.proofs.masks.are_gone.Given as goal

abbrev pub invariant-loop-at : goal.invariant-loop-at
invariant-loop-at l = (w : ℕ) → Within (bits_for (take l.at l.puts) w) (bit_or (slice_index l.start w) (slice_index l.lost w))
