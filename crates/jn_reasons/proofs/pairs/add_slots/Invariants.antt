use Rattle.std.proofs.Common.{◌≡◌, ◌++◌, drop}
use Rattle.jn_reasons_law.specs.Sources.{from_slots_to}
use Rattle.jn_reasons.proofs.pairs.add_slots.Given as goal

abbrev pub invariant-loop-i : goal.invariant-loop-i
invariant-loop-i l = l.list.items ++ from_slots_to l.wanted.0 (drop l.i l.from) (drop l.i l.to) l.bit ≡ l.fn.list.items ++ from_slots_to l.wanted.0 l.from l.to l.bit
