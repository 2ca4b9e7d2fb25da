use Rattle.std.proofs.Common.{◌-◌, length, drop}
use Rattle.jn_member_tables.specs.Tables.{IsOver}
use Rattle.jn_member_tables.proofs.tables.put_all.Given as goal

abbrev pub invariant-loop-step : goal.invariant-loop-step
invariant-loop-step l = IsOver l.fn.nodes.items l.nodes.items l.height l.number (drop (length l.entries - l.step) l.entries) l.root
