use Rattle.std.proofs.Common.{◌≡◌, ◌++◌, ◌-◌, take, drop}
use Rattle.jn_env.specs.Code.{is_field}
use Rattle.jn_env.specs.Flat.{written}
use Rattle.jn_env.proofs.bits.write_own.Given as goal

abbrev pub invariant-loop-at : goal.invariant-loop-at
invariant-loop-at l = l.bits ≡ take l.first l.fn.bits ++ written (is_field l.field) l.wanted (take l.at l.own) (drop l.first l.fn.bits)

abbrev pub decreases-loop-at : goal.decreases-loop-at
decreases-loop-at l = l.count - l.at
