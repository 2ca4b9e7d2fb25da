use Rattle.std.proofs.Common.{List, drop, refl, sym, ap, ◌∙◌, ◌+◌}
use Rattle.jn_places.specs.Placed.{PlacedDeclarator}
use Rattle.jn_places.specs.PlacedView.{placed_declarator, placed_declarators}
use Rattle.jn_heap.specs.Values.{usual_limits}
use Rattle.jn_scopes.specs.Views.{bound_of}
use Rattle.jn_lower_stmt.specs.Views.{rows_of}
use Rattle.jn_lower_stmt.proofs.Piecing.{left_before}
use Rattle.jn_meaning.specs.Statements as spec
use Rattle.jn_meaning.specs.Statements.{Standing, Onward, behind_declarators}
use Rattle.jn_tree_world.specs.Worlds.{world_of}
use Rattle.jn_tree_world.proofs.Binding.{stop_then, stops}
use Rattle.jn_tree_simple.specs.Standings.{onward_of, standing_of}
use Rattle.jn_tree_simple.proofs.Founding.{has_behind}
use Rattle.jn_tree_simple.proofs.pieces.declarators.Goals as goal

pub returns-in_err-declarator-clause-means : goal.returns-in_err-declarator-clause-means
returns-in_err-declarator-clause-means g c = λ turns m h. rw (c.loop-tree.invariant.1 turns m h) (rw (left_before placed_declarator c.args.trees.now c.loop-tree.tree-index c.tree-item.result c.loop-tree-test.true c.tree-item.is) (stops onward_of _ c.in_err-declarator.field-0.0 c.from_residual.result (world_of c.declarator.new.w) c.from_residual.ensures.1 (stop_then c.in_err-declarator.field-0.0 _ _ _ (c.in_err-declarator.ensures.means turns m h))))

pub loop-tree-preserved : goal.loop-tree-preserved
loop-tree-preserved g c = (c.loop-tree.invariant.0 ∙ ap (λ (ds : List PlacedDeclarator). behind_declarators c.args.kind.base (bound_of c.args.kind.bound) c.args.is_final (rows_of c.args.kind.fault) (standing_of c.loop-tree.st) ds) (left_before placed_declarator c.args.trees.now c.loop-tree.tree-index c.tree-item.result c.loop-tree-test.true c.tree-item.is) ∙ ap (λ (s : Standing). behind_declarators c.args.kind.base (bound_of c.args.kind.bound) c.args.is_final (rows_of c.args.kind.fault) s (placed_declarators (drop (c.loop-tree.tree-index + 1) c.args.trees.now))) (sym c.in_ok-declarator.ensures.behind), λ turns m h. c.loop-tree.invariant.1 turns m h ∙ ap (λ (ds : List PlacedDeclarator). spec.declarators c.args.b.now.program.now c.args.names.now usual_limits.longest m turns c.args.b.now.class.0 c.args.kind.base (bound_of c.args.kind.bound) c.args.is_final (rows_of c.args.kind.fault) (standing_of c.loop-tree.st) ds (world_of c.loop-tree.w)) (left_before placed_declarator c.args.trees.now c.loop-tree.tree-index c.tree-item.result c.loop-tree-test.true c.tree-item.is) ∙ has_behind _ _ Onward (world_of c.declarator.new.w) _ (c.in_ok-declarator.ensures.means turns m h) refl ∙ ap (λ (s : Standing). spec.declarators c.args.b.now.program.now c.args.names.now usual_limits.longest m turns c.args.b.now.class.0 c.args.kind.base (bound_of c.args.kind.bound) c.args.is_final (rows_of c.args.kind.fault) s (placed_declarators (drop (c.loop-tree.tree-index + 1) c.args.trees.now)) (world_of c.declarator.new.w)) (sym c.in_ok-declarator.ensures.behind))
