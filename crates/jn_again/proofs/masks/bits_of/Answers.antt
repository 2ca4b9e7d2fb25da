use Rattle.std.proofs.Common.{◌<◌, length, arith}
use Rattle.jn_sigtable.specs.System.{bits_for}
use Rattle.jn_again.proofs.Gone.{bits_all, bits_more}
use Rattle.jn_again.proofs.masks.bits_of.Goals as goal

pub loop-at-preserved : goal.loop-at-preserved
loop-at-preserved c =
    let inside : c.loop-at.at < length c.args.outputs.now = let t = c.loop-at-test.true in omega arith in
    bits_more c.args.outputs.now c.loop-at.at (record { 0 = 0 }, 0) c.args.word.0 c.loop-at.bits c.with_output-bits.result (bits_for c.args.outputs.now c.args.word.0) inside c.with_output-bits.ensures c.loop-at.invariant

pub returns : goal.returns
returns c = bits_all c.args.outputs.now c.loop-at.at c.args.word.0 c.loop-at.bits (bits_for c.args.outputs.now c.args.word.0) c.loop-at.invariant
