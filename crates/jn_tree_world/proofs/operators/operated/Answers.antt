use Rattle.std.proofs.Common.{subst}
use Rattle.jn_heap.specs.Values.{Got, Value}
use Rattle.jn_meaning.specs.Worlds.{got}
use Rattle.jn_tree_world.specs.Outcomes.{Means}
use Rattle.jn_tree_world.proofs.operators.operated.Goals as goal

pub returns-in-Ok : goal.returns-in-Ok
returns-in-Ok c = λ P w. subst (λ (g : Got Value). Means (got c.args.span g w) c.got.result w) (c.in-Ok.ensures P) (c.got.ensures w)
