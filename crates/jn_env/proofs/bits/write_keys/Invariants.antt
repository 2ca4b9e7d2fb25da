use Rattle.std.proofs.Common.{◌≡◌, ◌++◌, ◌-◌, take, drop}
use Rattle.jn_env.specs.Code.{picks}
use Rattle.jn_env.specs.Flat.{written}
use Rattle.jn_env.proofs.bits.write_keys.Given as goal

abbrev pub invariant-loop-at : goal.invariant-loop-at
invariant-loop-at l = l.bits ≡ take l.first l.fn.bits ++ written (picks l.which) l.wanted (take l.at l.keys) (drop l.first l.fn.bits)

abbrev pub decreases-loop-at : goal.decreases-loop-at
decreases-loop-at l = l.count - l.at
