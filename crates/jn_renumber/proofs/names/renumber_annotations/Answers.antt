use Rattle.std.proofs.Common.{arith}
use Rattle.jn_renumber.specs.Renumbered.{renumbered_annotation}
use Rattle.jn_renumber.proofs.Lists.{one_changed, each_changed}
use Rattle.jn_renumber.proofs.names.renumber_annotations.Goals as goal

pub loop-at-preserved : goal.loop-at-preserved
loop-at-preserved c =
    one_changed (renumbered_annotation c.args.numbers.now) c.args.annotations.now.items c.loop-at.annotations.items c.loop-at.at c.index_mut.result.now c.renumber_annotation.new.annotation (omega arith) c.index_mut.ensures.value c.renumber_annotation.ensures c.loop-at.invariant

pub returns : goal.returns
returns c =
    each_changed (renumbered_annotation c.args.numbers.now) c.args.annotations.now.items c.loop-at.annotations.items c.loop-at.at (omega arith) c.loop-at.invariant
