use Rattle.std.proofs.Common.{refl}
use Rattle.jn_worklist.proofs.RaiseSteps.{bit_set}
use Rattle.jn_worklist.proofs.bits.add_body.Goals as goal

pub returns-clause-bits : goal.returns-clause-bits
returns-clause-bits c x = bit_set c.args.due.now c.args.body.0 _ c.requires refl x
