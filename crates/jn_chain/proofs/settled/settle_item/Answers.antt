use Rattle.std.proofs.Common.{Some, sym, subst}
use Rattle.jn_chain.specs.Search.{AreCauses}
use Rattle.jn_chain.proofs.settled.settle_item.Goals as goal

pub settle_by-requires-clause-causes : goal.settle_by-requires-clause-causes
settle_by-requires-clause-causes g c = subst (AreCauses (g.O.Origins.describe c.args.origins.now) (Some c.args.item)) (sym c.deref.ensures.value) c.in_ok-causes.ensures
