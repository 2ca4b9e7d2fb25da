use Rattle.std.proofs.Common.{◌≡◌, ◌++◌, drop}
use Rattle.jn_places.specs.PlacedView.{placed_views}
use Rattle.jn_meaning.specs.Expressions.{Caller}
use Rattle.jn_meaning.specs.Worlds.{Has, then_do}
use Rattle.jn_tree_world.specs.Worlds.{world_of}
use Rattle.jn_tree_expr.specs.Meaning.{all_in}
use Rattle.jn_tree_expr.proofs.expressions.+evaluating.Given as goal

abbrev pub invariant-evaluated-loop-tree : goal.invariant-evaluated-loop-tree
invariant-evaluated-loop-tree g l = (m : Caller) → g.F.Enters.keeps l.call m → all_in l.c l.names m (placed_views l.trees) (world_of l.initial.w) ≡ then_do (all_in l.c l.names m (placed_views (drop l.tree-index l.trees)) (world_of l.w)) (λ xs w. Has (l.values.items ++ xs) w)
