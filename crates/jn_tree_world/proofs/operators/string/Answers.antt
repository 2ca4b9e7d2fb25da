use Rattle.std.proofs.Common.{subst}
use Rattle.jn_heap.specs.Values.{Got, Value}
use Rattle.jn_meaning.specs.Worlds.{got}
use Rattle.jn_tree_world.specs.Outcomes.{Means}
use Rattle.jn_tree_world.proofs.operators.string.Goals as goal

pub returns : goal.returns
returns c = λ P names longest m w. subst (λ (g : Got Value). Means (got c.args.span g w) c.got.result w) (c.string_of.ensures P names longest m) (c.got.ensures w)
