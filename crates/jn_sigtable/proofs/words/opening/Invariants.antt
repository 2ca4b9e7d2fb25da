use Rattle.std.proofs.Common.{◌≡◌, ◌++◌, map}
use Rattle.std.specs.List.{range_with_len}
use Rattle.jn_sigtable.specs.Machine.{dirty_bits}
use Rattle.jn_sigtable.proofs.words.opening.Given as goal

abbrev pub invariant-loop-word : goal.invariant-loop-word
invariant-loop-word l = l.all.items ≡ l.start ++ map (dirty_bits l.bodies) (range_with_len 0 l.word)
