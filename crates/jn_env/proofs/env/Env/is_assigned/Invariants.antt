use Rattle.std.proofs.Common.{◌≡◌, eqb, drop}
use Rattle.jn_env.specs.Keys.{is_on}
use Rattle.jn_env.proofs.env.Env.is_assigned.Given as goal

abbrev pub invariant-loop-i : goal.invariant-loop-i
invariant-loop-i l = is_on (λ k. eqb k l.field) (drop l.i l.own) (drop l.i l.self.assigned) ≡ is_on (λ k. eqb k l.field) l.own l.self.assigned
