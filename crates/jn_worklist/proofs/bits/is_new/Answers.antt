use Rattle.std.proofs.Common.{bit_or, arith}
use Rattle.jn_worklist.proofs.DrainSteps.{new_ones, same_of, differ_of}
use Rattle.jn_worklist.proofs.bits.is_new.Goals as goal

pub returns-clause-same : goal.returns-clause-same
returns-clause-same c = same_of (bit_or c.args.old c.args.bits) c.args.old

pub returns-clause-more : goal.returns-clause-more
returns-clause-more c = λ e. new_ones c.args.old c.args.bits (let f = c.ranges.old.fits in omega arith) (let f = c.ranges.bits.fits in omega arith) (differ_of (bit_or c.args.old c.args.bits) c.args.old e)
