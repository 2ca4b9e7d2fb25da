use Rattle.std.proofs.Common.{◌≡◌, ◌++◌, take}
use Rattle.jn_reasons.specs.Listed.{carried}
use Rattle.jn_origins.specs.Targets.{over}
use Rattle.jn_origins.proofs.registers.add_jumps.Given as goal

abbrev pub invariant-loop-from : goal.invariant-loop-from
invariant-loop-from l = l.list.items ≡ l.fn.list.items ++ over (carried l.of.program l.of.sig l.of.body l.of.table l.wanted.point.0 l.wanted.reg.0 l.wanted.bit) (take l.from-index l.jumps)
