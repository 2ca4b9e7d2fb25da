use Rattle.std.proofs.Common.{arith}
use Rattle.jn_places.specs.PlacedView.{placed_parameter}
use Rattle.jn_renumber.specs.Renumbered.{renumbered_parameter}
use Rattle.jn_renumber.proofs.Lists.{one_renumbered, each_renumbered}
use Rattle.jn_renumber.proofs.members.renumber_parameters.Goals as goal

pub loop-at-preserved : goal.loop-at-preserved
loop-at-preserved c =
    one_renumbered placed_parameter (renumbered_parameter c.args.numbers.now) c.args.parameters.now.items c.loop-at.parameters.items c.loop-at.at c.index_mut.result.now c.renumber_parameter.new.parameter (omega arith) c.index_mut.ensures.value c.renumber_parameter.ensures c.loop-at.invariant

pub returns : goal.returns
returns c =
    each_renumbered placed_parameter (renumbered_parameter c.args.numbers.now) c.args.parameters.now.items c.loop-at.parameters.items c.loop-at.at (omega arith) c.loop-at.invariant
