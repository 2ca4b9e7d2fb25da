use Rattle.jn_worklist.proofs.RaiseSteps.{bit_cleared, not_taken}
use Rattle.jn_worklist.proofs.bits.take_body.Goals as goal

pub returns-clause-was : goal.returns-clause-was
returns-clause-was c = not_taken c.args.due.now c.args.body.0

pub returns-clause-bits : goal.returns-clause-bits
returns-clause-bits c = bit_cleared c.args.due.now c.args.body.0 c.requires
