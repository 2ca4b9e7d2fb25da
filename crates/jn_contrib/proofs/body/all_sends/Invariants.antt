use Rattle.std.proofs.Common.{◌≡◌, ◌++◌, drop}
use Rattle.jn_contrib.specs.Sends.{sends_from}
use Rattle.jn_contrib.proofs.body.all_sends.Given as goal

abbrev pub invariant-loop-at : goal.invariant-loop-at
invariant-loop-at l = l.list.items ++ sends_from l.program l.body.0 (drop l.at l.points) l.at l.slots ≡ sends_from l.program l.body.0 l.points 0 l.slots
