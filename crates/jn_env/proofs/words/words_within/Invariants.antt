use Rattle.std.proofs.Common.{◌≡◌, drop}
use Rattle.jn_env.specs.Packed.{rises}
use Rattle.jn_env.proofs.words.words_within.Given as goal

abbrev pub invariant-loop-i : goal.invariant-loop-i
invariant-loop-i l = rises (drop l.i l.right) (drop l.i l.left) ≡ rises l.right l.left
