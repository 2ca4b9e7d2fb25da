use Rattle.std.proofs.Common.{length-set}
use Rattle.jn_again.proofs.Gone.{more_bits, new_bits}
use Rattle.jn_again.proofs.masks.add_bits.Goals as goal

pub returns-then-at-masks-clause-grows : goal.returns-then-at-masks-clause-grows
returns-then-at-masks-clause-grows c = (length-set c.args.masks.now c.args.word.0 _, more_bits c.args.masks.now c.args.word.0 c.args.bits c.if-at-masks.true)

pub returns-then-at-masks-clause-added : goal.returns-then-at-masks-clause-added
returns-then-at-masks-clause-added c = λ lt. new_bits c.args.masks.now c.args.word.0 c.args.bits lt
