use Rattle.std.proofs.Common.{◌≡◌, ◌-◌, eqb, drop}
use Rattle.jn_env.specs.Keys.{is_on}
use Rattle.jn_env.proofs.bits.is_assigned_by.Given as goal

abbrev pub invariant-loop-at : goal.invariant-loop-at
invariant-loop-at l = is_on (λ k. eqb k l.fn.field.0) (drop l.at l.own) (drop l.at l.env.assigned) ≡ is_on (λ k. eqb k l.fn.field.0) l.own l.env.assigned

abbrev pub decreases-loop-at : goal.decreases-loop-at
decreases-loop-at l = l.count - l.at
