use Rattle.std.proofs.Common.{◌≡◌}
use Rattle.jn_unkept.specs.Making.{maker}
use Rattle.jn_unkept.proofs.making.maker.Given as goal

abbrev pub invariant-loop-at : goal.invariant-loop-at
invariant-loop-at l = maker l.body l.at l.reg ≡ maker l.body l.before l.reg

abbrev pub decreases-loop-at : goal.decreases-loop-at
decreases-loop-at l = l.at
