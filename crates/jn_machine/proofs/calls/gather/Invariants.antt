use Rattle.std.proofs.Common.{◌≡◌, drop}
use Rattle.jn_heap.specs.State as spec
use Rattle.jn_machine.specs.Parts.{prepended}
use Rattle.jn_machine.proofs.calls.gather.Given as goal

abbrev pub invariant-loop-operand : goal.invariant-loop-operand
invariant-loop-operand l = prepended l.values (spec.gather l.frame.regs (drop l.operand-index l.args)) ≡ prepended l.fn.front (spec.gather l.frame.regs l.args)
