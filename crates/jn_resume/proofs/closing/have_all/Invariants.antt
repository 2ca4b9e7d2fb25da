use Rattle.std.proofs.Common.{ℕ, take}
use Rattle.std.specs.Prelude.{slice_index}
use Rattle.jn_sigtable.specs.System.{Within, bits_for}
use Rattle.jn_resume.proofs.closing.have_all.Given as goal

abbrev pub invariant-loop-at : goal.invariant-loop-at
invariant-loop-at l = (w : ℕ) → Within (bits_for (take l.at l.puts) w) (slice_index l.words w)
