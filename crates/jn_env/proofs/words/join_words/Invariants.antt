use Rattle.std.proofs.Common.{◌≡◌, ◌||◌, bit_or, drop}
use Rattle.jn_env.specs.Packed.{rises}
use Rattle.jn_env.proofs.Pairs.{so_far}
use Rattle.jn_env.proofs.words.join_words.Given as goal

abbrev pub invariant-loop-i : goal.invariant-loop-i
invariant-loop-i l = record {
  words : l.left ≡ so_far bit_or l.fn.left l.right l.i;
  risen : (l.risen || rises (drop l.i l.fn.left) (drop l.i l.right)) ≡ rises l.fn.left l.right;
}
