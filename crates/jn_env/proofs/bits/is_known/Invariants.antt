use Rattle.std.proofs.Common.{◌≡◌, ◌-◌, drop}
use Rattle.jn_env.specs.Keys.{is_key, is_on}
use Rattle.jn_env.proofs.bits.is_known.Given as goal

abbrev pub invariant-loop-at : goal.invariant-loop-at
invariant-loop-at l = is_on (is_key l.reg.0 l.field.0) (drop l.at l.keys) (drop l.at l.env.facts) ≡ is_on (is_key l.reg.0 l.field.0) l.keys l.env.facts

abbrev pub decreases-loop-at : goal.decreases-loop-at
decreases-loop-at l = l.count - l.at
