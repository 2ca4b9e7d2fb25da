use Rattle.std.proofs.Common.{◌≡◌, ◌++◌, drop}
use Rattle.jn_transfer.specs.Pairs.{slots_sends}
use Rattle.jn_contrib.proofs.pairs.send_slots.Given as goal

abbrev pub invariant-loop-i : goal.invariant-loop-i
invariant-loop-i l = l.list.items ++ slots_sends l.program l.sig (drop l.i l.from) (drop l.i l.to) ≡ l.fn.list.items ++ slots_sends l.program l.sig l.from l.to
