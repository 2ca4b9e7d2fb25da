use Rattle.std.proofs.Common.{◌≡◌, ◌≤◌, length}
use Rattle.jn_env.specs.Chained.{Heads, Nexts}
use Rattle.jn_env.proofs.chains.Chains.of.Given as goal

abbrev pub invariant-loop-left : goal.invariant-loop-left
invariant-loop-left l = record {
  inside : l.left ≤ length l.numbers;
  many_heads : length l.heads.items ≡ length l.numbers;
  many_nexts : length l.nexts.items ≡ length l.numbers;
  heads : Heads l.numbers (length l.numbers) l.left l.heads.items;
  nexts : Nexts l.numbers (length l.numbers) l.nexts.items;
}

abbrev pub decreases-loop-left : goal.decreases-loop-left
decreases-loop-left l = l.left
