use Rattle.std.proofs.Common.{bit_or, drop}
use Rattle.jn_sigtable.specs.System.{Within, bits_for}
use Rattle.jn_again.proofs.masks.bits_of.Given as goal

abbrev pub invariant-loop-at : goal.invariant-loop-at
invariant-loop-at l = Within (bit_or l.bits (bits_for (drop l.at l.outputs) l.word.0)) (bits_for l.outputs l.word.0)
