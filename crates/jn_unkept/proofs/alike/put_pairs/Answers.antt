use Rattle.std.proofs.Common.{arith}
use Rattle.jn_unkept.proofs.Pairing.{pairs_done}
use Rattle.jn_unkept.proofs.alike.put_pairs.Goals as goal

pub returns : goal.returns
returns c = pairs_done c.args.i c.args.j c.args.lefts.now c.args.rights.now c.loop-at.at c.least-at-end.result c.args.pairs.now.items c.loop-at.pairs.items (omega (arith, c.loop-at-test.false)) c.least-at-end.ensures.one c.loop-at.invariant
