use Rattle.std.proofs.Common.{◌≡◌, drop}
use Rattle.jn_notes.specs.Spoken.{left_from}
use Rattle.jn_notes.proofs.lefts.left_from.Given as goal

abbrev pub invariant-loop-at : goal.invariant-loop-at
invariant-loop-at l = left_from l.own l.slots l.field (drop l.at l.points) l.at ≡ left_from l.own l.slots l.field l.points 0
