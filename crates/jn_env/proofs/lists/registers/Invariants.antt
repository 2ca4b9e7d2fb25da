use Rattle.std.proofs.Common.{◌≡◌, map, take}
use Rattle.jn_env.proofs.lists.registers.Given as goal

abbrev pub invariant-loop-i : goal.invariant-loop-i
invariant-loop-i l = l.numbers.items ≡ map (λ k. k.reg) (take l.i l.keys)
