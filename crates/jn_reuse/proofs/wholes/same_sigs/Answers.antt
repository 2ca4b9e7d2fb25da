use Rattle.std.proofs.Common.{arith}
use Rattle.jn_reuse.proofs.Told.{sigs_same}
use Rattle.jn_reuse.proofs.wholes.same_sigs.Goals as goal

pub returns : goal.returns
returns c =
    let equal = c.if-slots.false in
    sigs_same c.args.one.now c.args.other.now c.words.result.now c.words-2.result.now c.slots.result c.slots-2.result c.same_words.result c.slots.ensures c.slots-2.ensures (omega (arith, equal)) c.words.ensures.packed c.words-2.ensures.packed c.words.ensures.same c.words-2.ensures.same c.same_words.ensures
