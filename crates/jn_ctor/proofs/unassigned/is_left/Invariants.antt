use Rattle.std.proofs.Common.{◌≡◌, ◌||◌, drop}
use Rattle.jn_ctor.specs.Unassigned.{lacks_from}
use Rattle.jn_ctor.proofs.unassigned.is_left.Given as goal

abbrev pub invariant-loop-at : goal.invariant-loop-at
invariant-loop-at l = (l.left || lacks_from l.own l.field (drop l.at l.points) l.at l.slots) ≡ lacks_from l.own l.field l.points 0 l.slots
