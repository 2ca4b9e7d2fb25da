use Rattle.std.proofs.Common.{◌≡◌, ◌++◌, drop}
use Rattle.jn_transfer.specs.Contributions.{unset_sends}
use Rattle.jn_contrib.proofs.sends.send_unset.Given as goal

abbrev pub invariant-loop-field : goal.invariant-loop-field
invariant-loop-field l = l.list.items ++ unset_sends l.program (drop l.field-index l.own) l.own l.env.assigned ≡ l.fn.list.items ++ unset_sends l.program l.own l.own l.env.assigned
