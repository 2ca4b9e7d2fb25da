use Rattle.std.proofs.Common.{◌≡◌, ◌++◌}
use Rattle.jn_lower_stmt.proofs.state.State.into_registers.Given as goal

abbrev pub invariant-loop-base : goal.invariant-loop-base
invariant-loop-base l = l.regs.items ≡ l.initial.regs.items ++ l.yielded
