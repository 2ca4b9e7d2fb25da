use Rattle.std.proofs.Common.{◌≡◌, ◌++◌}
use Rattle.jn_reasons.specs.Listed.{firsts, sent_by}
use Rattle.jn_origins.proofs.slots.add_points.Given as goal

abbrev pub invariant-loop-at : goal.invariant-loop-at
invariant-loop-at l = l.list.items ≡ l.fn.list.items ++ firsts (sent_by l.of.program l.of.body l.of.table l.slot.0 l.bit) l.at
