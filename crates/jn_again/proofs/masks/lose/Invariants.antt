use Rattle.std.proofs.Common.{length, take}
use Rattle.std.specs.Prelude.{slice_index}
use Rattle.jn_sigtable.specs.System.{bits_for}
use Rattle.jn_again.specs.Losing.{AreGone, Grows}
use Rattle.jn_again.proofs.masks.lose.Given as goal

abbrev pub invariant-loop-at : goal.invariant-loop-at
invariant-loop-at l =
    Grows l.fn.lost l.lost
    × AreGone (length l.fn.lost) (bits_for (take l.at l.puts)) (slice_index l.start) (bits_for l.again) (slice_index l.lost)
