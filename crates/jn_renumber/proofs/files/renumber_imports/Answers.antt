use Rattle.std.proofs.Common.{arith}
use Rattle.jn_places.specs.PlacedView.{placed_import}
use Rattle.jn_renumber.specs.Renumbered.{renumbered_import}
use Rattle.jn_renumber.proofs.Lists.{one_renumbered, each_renumbered}
use Rattle.jn_renumber.proofs.files.renumber_imports.Goals as goal

pub loop-at-preserved : goal.loop-at-preserved
loop-at-preserved c =
    one_renumbered placed_import (renumbered_import c.args.numbers.now) c.args.imports.now.items c.loop-at.imports.items c.loop-at.at c.index_mut.result.now c.renumber_import.new.import (omega arith) c.index_mut.ensures.value c.renumber_import.ensures c.loop-at.invariant

pub returns : goal.returns
returns c =
    each_renumbered placed_import (renumbered_import c.args.numbers.now) c.args.imports.now.items c.loop-at.imports.items c.loop-at.at (omega arith) c.loop-at.invariant
