use Rattle.std.proofs.Common.{refl, ap, ◌∙◌}
use Rattle.jn_places.specs.Placed.{PlacedTrees}
use Rattle.jn_scopes.proofs.Seen as seen
use Rattle.jn_meaning.specs.Statements.{Onward}
use Rattle.jn_tree_world.specs.Worlds.{world_of}
use Rattle.jn_tree_world.proofs.Binding.{stop_then, stops}
use Rattle.jn_tree_simple.specs.Doing.{effects_at}
use Rattle.jn_tree_simple.specs.Standings.{onward_of, standing_of}
use Rattle.jn_tree_simple.proofs.Founding.{has_behind}
use Rattle.jn_tree_simple.proofs.pieces.effects.Goals as goal

pub returns-in_err-effect : goal.returns-in_err-effect
returns-in_err-effect g c = record { means = λ turns m h. rw (c.loop-tree.invariant turns m h) (rw (seen.left_before c.args.trees.now c.loop-tree.tree-index c.tree-item.result c.loop-tree-test.true c.tree-item.is) (stops onward_of _ c.in_err-effect.field-0.0 c.from_residual.result (world_of c.effect.new.w) c.from_residual.ensures.1 (stop_then c.in_err-effect.field-0.0 _ _ _ (c.in_err-effect.ensures.means turns m h)))) }

pub loop-tree-preserved : goal.loop-tree-preserved
loop-tree-preserved g c = λ turns m h. c.loop-tree.invariant turns m h ∙ ap (λ (es : PlacedTrees). effects_at c.args.b.now c.args.names.now m turns (standing_of c.args.st.now) es (world_of c.loop-tree.w)) (seen.left_before c.args.trees.now c.loop-tree.tree-index c.tree-item.result c.loop-tree-test.true c.tree-item.is) ∙ has_behind _ _ Onward (world_of c.effect.new.w) _ (c.in_ok-effect.ensures.means turns m h) refl

pub returns : goal.returns
returns g c = record { means = λ turns m h. c.loop-tree.invariant turns m h ∙ ap (λ (es : PlacedTrees). effects_at c.args.b.now c.args.names.now m turns (standing_of c.args.st.now) es (world_of c.loop-tree.w)) (seen.none_left c.args.trees.now c.loop-tree.tree-index c.loop-tree-test.false) }
