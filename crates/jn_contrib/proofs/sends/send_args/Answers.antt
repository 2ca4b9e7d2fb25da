use Rattle.std.proofs.Common.{arith}
use Rattle.jn_contrib.proofs.Along.{args_end}
use Rattle.jn_contrib.proofs.sends.send_args.Goals as goal

pub returns : goal.returns
returns c =
    args_end c.args.program.now c.args.env.now c.args.slots.now c.args.args.now c.loop-i.i c.loop-i.list.items _ (omega (arith, c.loop-i-test.false)) c.loop-i.invariant
