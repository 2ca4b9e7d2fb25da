use Rattle.std.proofs.Common.{arith}
use Rattle.jn_places.specs.PlacedView.{placed_member}
use Rattle.jn_renumber.specs.Renumbered.{renumbered_member}
use Rattle.jn_renumber.proofs.Lists.{one_renumbered, each_renumbered}
use Rattle.jn_renumber.proofs.members.renumber_members.Goals as goal

pub loop-at-preserved : goal.loop-at-preserved
loop-at-preserved c =
    one_renumbered placed_member (renumbered_member c.args.numbers.now) c.args.members.now.items c.loop-at.members.items c.loop-at.at c.index_mut.result.now c.renumber_member.new.member (omega arith) c.index_mut.ensures.value c.renumber_member.ensures c.loop-at.invariant

pub returns : goal.returns
returns c =
    each_renumbered placed_member (renumbered_member c.args.numbers.now) c.args.members.now.items c.loop-at.members.items c.loop-at.at (omega arith) c.loop-at.invariant
