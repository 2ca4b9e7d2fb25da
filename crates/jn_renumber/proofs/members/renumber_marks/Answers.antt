use Rattle.std.proofs.Common.{arith}
use Rattle.jn_renumber.specs.Renumbered.{renumbered_mark}
use Rattle.jn_renumber.proofs.Lists.{one_changed, each_changed}
use Rattle.jn_renumber.proofs.members.renumber_marks.Goals as goal

pub loop-at-preserved : goal.loop-at-preserved
loop-at-preserved c =
    one_changed (renumbered_mark c.args.numbers.now) c.args.modifiers.now.items c.loop-at.modifiers.items c.loop-at.at c.index_mut.result.now c.renumber_mark.new.modifier (omega arith) c.index_mut.ensures.value c.renumber_mark.ensures c.loop-at.invariant

pub returns : goal.returns
returns c =
    each_changed (renumbered_mark c.args.numbers.now) c.args.modifiers.now.items c.loop-at.modifiers.items c.loop-at.at (omega arith) c.loop-at.invariant
