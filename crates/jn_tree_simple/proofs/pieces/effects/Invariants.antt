use Rattle.std.proofs.Common.{◌≡◌, drop}
use Rattle.std.specs.Prelude.{ℕ}
use Rattle.jn_places.specs.PlacedView.{placed_views}
use Rattle.jn_meaning.specs.Expressions.{Caller}
use Rattle.jn_tree_world.specs.Worlds.{world_of}
use Rattle.jn_tree_simple.specs.Doing.{effects_at}
use Rattle.jn_tree_simple.specs.Standings.{standing_of}
use Rattle.jn_tree_simple.proofs.pieces.effects.Given as goal

abbrev pub invariant-loop-tree : goal.invariant-loop-tree
invariant-loop-tree g l = (turns : ℕ) (m : Caller) → g.F.Enters.keeps l.call m → effects_at l.b l.names m turns (standing_of l.st) (placed_views l.trees) (world_of l.initial.w) ≡ effects_at l.b l.names m turns (standing_of l.st) (placed_views (drop l.tree-index l.trees)) (world_of l.w)
