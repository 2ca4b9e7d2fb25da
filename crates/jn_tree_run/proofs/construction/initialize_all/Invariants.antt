use Rattle.std.proofs.Common.{◌≡◌, ℕ, drop}
use Rattle.jn_heap.specs.Values.{usual_limits}
use Rattle.jn_lowering.specs.Bodies.{class}
use Rattle.jn_meaning.specs.Bodies as spec
use Rattle.jn_meaning.specs.Expressions.{Caller}
use Rattle.jn_places.specs.PlacedView.{placed_declarators}
use Rattle.jn_tree_world.specs.Worlds.{world_of}
use Rattle.jn_tree_run.proofs.construction.initialize_all.Given as goal

abbrev pub invariant-loop-tree : goal.invariant-loop-tree
invariant-loop-tree g l = (turns k : ℕ) (m : Caller) → l.b.class.0 ≡ class l.b.program.now k → g.F.Enters.keeps l.call m → spec.initializers_of l.b.program.now l.names usual_limits.longest m turns k (placed_declarators l.trees) (world_of l.initial.w) ≡ spec.initializers_of l.b.program.now l.names usual_limits.longest m turns k (placed_declarators (drop l.tree-index l.trees)) (world_of l.w)
