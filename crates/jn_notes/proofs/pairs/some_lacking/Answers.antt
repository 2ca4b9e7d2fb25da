use Rattle.std.proofs.Common.{arith}
use Rattle.jn_notes.proofs.Finding.{lacking_done}
use Rattle.jn_notes.specs.Asked.{some_lacking}
use Rattle.jn_notes.proofs.pairs.some_lacking.Goals as goal

pub returns : goal.returns
returns c = lacking_done c.args.sig.now c.args.from.now c.args.to.now c.loop-i.i c.least-i-end.result (some_lacking c.args.sig.now c.args.from.now c.args.to.now) (omega (arith, c.loop-i-test.false)) c.least-i-end.ensures.one c.loop-i.invariant
