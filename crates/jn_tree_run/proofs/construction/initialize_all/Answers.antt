use Rattle.std.proofs.Common.{List, refl, ap, ◌∙◌}
use Rattle.jn_heap.specs.Values.{usual_limits}
use Rattle.jn_meaning.specs.Bodies as spec
use Rattle.jn_meaning.specs.Statements.{Onward}
use Rattle.jn_places.specs.Placed.{PlacedDeclarator}
use Rattle.jn_places.specs.PlacedView.{placed_declarator}
use Rattle.jn_tree_world.specs.Worlds.{world_of}
use Rattle.jn_tree_world.proofs.Binding.{stop_then, stops}
use Rattle.jn_tree_simple.specs.Standings.{onward_of}
use Rattle.jn_tree_simple.proofs.Founding.{has_behind}
use Rattle.jn_tree_run.proofs.InTurn.{left_before, none_left}
use Rattle.jn_tree_run.proofs.construction.initialize_all.Goals as goal

pub returns-in_err-initialize : goal.returns-in_err-initialize
returns-in_err-initialize g c = λ turns k m own h. rw (c.loop-tree.invariant turns k m own h) (rw (left_before placed_declarator c.args.trees.now c.loop-tree.tree-index c.tree-item.result c.loop-tree-test.true c.tree-item.is) (stops onward_of _ c.in_err-initialize.field-0.0 c.from_residual.result (world_of c.initialize.new.w) c.from_residual.ensures.1 (stop_then c.in_err-initialize.field-0.0 _ _ _ (c.in_err-initialize.ensures turns k m own h))))

pub loop-tree-preserved : goal.loop-tree-preserved
loop-tree-preserved g c = λ turns k m own h. c.loop-tree.invariant turns k m own h ∙ ap (λ (xs : List PlacedDeclarator). spec.initializers_of c.args.b.now.program.now c.args.names.now usual_limits.longest m turns k xs (world_of c.loop-tree.w)) (left_before placed_declarator c.args.trees.now c.loop-tree.tree-index c.tree-item.result c.loop-tree-test.true c.tree-item.is) ∙ has_behind _ _ Onward (world_of c.initialize.new.w) _ (c.in_ok-initialize.ensures turns k m own h) refl

pub returns : goal.returns
returns g c = λ turns k m own h. c.loop-tree.invariant turns k m own h ∙ ap (λ (xs : List PlacedDeclarator). spec.initializers_of c.args.b.now.program.now c.args.names.now usual_limits.longest m turns k xs (world_of c.loop-tree.w)) (none_left placed_declarator c.args.trees.now c.loop-tree.tree-index c.loop-tree-test.false)
