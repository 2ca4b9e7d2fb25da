use Rattle.std.proofs.Common.{◌≡◌}
use Rattle.jn_unkept.specs.Making.{last_below, point_of}
use Rattle.jn_unkept.specs.Unkept.{is_asked}
use Rattle.jn_unkept.proofs.stored.last_asked.Given as goal

abbrev pub invariant-loop-at : goal.invariant-loop-at
invariant-loop-at l = last_below (λ k. is_asked l.reg (point_of l.body k)) l.at ≡ last_below (λ k. is_asked l.reg (point_of l.body k)) l.before

abbrev pub decreases-loop-at : goal.decreases-loop-at
decreases-loop-at l = l.at
