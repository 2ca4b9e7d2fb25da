use Rattle.std.proofs.Common.{arith}
use Rattle.jn_renumber.specs.Renumbered.{renumbered_name}
use Rattle.jn_renumber.proofs.Lists.{one_changed, each_changed}
use Rattle.jn_renumber.proofs.names.renumber_names.Goals as goal

pub loop-at-preserved : goal.loop-at-preserved
loop-at-preserved c =
    one_changed (renumbered_name c.args.numbers.now) c.args.names.now.items c.loop-at.names.items c.loop-at.at c.index_mut.result.now c.renumber_name.new.name (omega arith) c.index_mut.ensures.value c.renumber_name.ensures c.loop-at.invariant

pub returns : goal.returns
returns c =
    each_changed (renumbered_name c.args.numbers.now) c.args.names.now.items c.loop-at.names.items c.loop-at.at (omega arith) c.loop-at.invariant
