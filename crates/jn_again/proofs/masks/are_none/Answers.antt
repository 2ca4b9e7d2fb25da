use Rattle.std.proofs.Common.{arith}
use Rattle.jn_again.proofs.masks.are_none.Goals as goal

pub returns : goal.returns
returns c = λ e w lt. let t = c.loop-at-test.false in c.loop-at.invariant w (omega (arith, lt, t))
