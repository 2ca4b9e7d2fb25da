use Rattle.std.proofs.Common.{List, Option, sym, subst}
use Rattle.jn_reasons_law.specs.declared.item.Item.{Item}
use Rattle.jn_chain.specs.Keys.{rest_of}
use Rattle.jn_chain.specs.Search.{AreAllLevels}
use Rattle.jn_chain.proofs.first.search.Goals as goal

pub settle-requires-clause-levels : goal.settle-requires-clause-levels
settle-requires-clause-levels g c = subst (λ (l : List (List (Option Item))). AreAllLevels (g.O.Origins.describe c.args.origins.now) (rest_of c.args.chains.now) l c.args.item c.in_ok-levels.best) (sym c.deref.ensures.value) c.in_ok-levels.ensures
