use Rattle.std.proofs.Common.{◌≡◌, ◌++◌, ◌-◌}
use Rattle.jn_heap.specs.Calls.{pad}
use Rattle.jn_machine.proofs.calls.padded.Given as goal

abbrev pub invariant-loop : goal.invariant-loop
invariant-loop l = l.regs.items ++ pad l.rest.items (l.count - l.counter) ≡ pad l.fn.values.items l.count
