use Rattle.std.proofs.Common.{arith}
use Rattle.jn_places.specs.PlacedView.{placed_type}
use Rattle.jn_renumber.specs.Renumbered.{renumbered_type}
use Rattle.jn_renumber.proofs.Lists.{one_renumbered, each_renumbered}
use Rattle.jn_renumber.proofs.files.renumber_types.Goals as goal

pub loop-at-preserved : goal.loop-at-preserved
loop-at-preserved c =
    one_renumbered placed_type (renumbered_type c.args.numbers.now) c.args.types.now.items c.loop-at.types.items c.loop-at.at c.index_mut.result.now c.renumber_type.new.declaration (omega arith) c.index_mut.ensures.value c.renumber_type.ensures c.loop-at.invariant

pub returns : goal.returns
returns c =
    each_renumbered placed_type (renumbered_type c.args.numbers.now) c.args.types.now.items c.loop-at.types.items c.loop-at.at (omega arith) c.loop-at.invariant
