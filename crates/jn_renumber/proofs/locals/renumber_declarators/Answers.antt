use Rattle.std.proofs.Common.{arith}
use Rattle.jn_places.specs.PlacedView.{placed_declarator}
use Rattle.jn_renumber.specs.Renumbered.{renumbered_declarator}
use Rattle.jn_renumber.proofs.Lists.{one_renumbered, each_renumbered}
use Rattle.jn_renumber.proofs.locals.renumber_declarators.Goals as goal

pub loop-at-preserved : goal.loop-at-preserved
loop-at-preserved c =
    one_renumbered placed_declarator (renumbered_declarator c.args.numbers.now) c.args.declarators.now.items c.loop-at.declarators.items c.loop-at.at c.index_mut.result.now c.renumber_declarator.new.declarator (omega arith) c.index_mut.ensures.value c.renumber_declarator.ensures c.loop-at.invariant

pub returns : goal.returns
returns c =
    each_renumbered placed_declarator (renumbered_declarator c.args.numbers.now) c.args.declarators.now.items c.loop-at.declarators.items c.loop-at.at (omega arith) c.loop-at.invariant
