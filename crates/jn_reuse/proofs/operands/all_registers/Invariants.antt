use Rattle.jn_reuse.specs.Seen.{SameRegister}
use Rattle.jn_reuse.proofs.Turns.{LeftAlike}
use Rattle.jn_reuse.proofs.operands.all_registers.Given as goal

abbrev pub invariant-loop-at : goal.invariant-loop-at
invariant-loop-at l = LeftAlike SameRegister l.one l.other l.at
