use Rattle.std.proofs.Common.{sym, subst, drop, ◌+◌}
use Rattle.jn_places.specs.Placed.{PlacedTrees}
use Rattle.jn_places.specs.PlacedView.{placed_view, placed_views}
use Rattle.jn_lowering.specs.Statements.{effects, with_value}
use Rattle.jn_scopes.proofs.Seen as seen
use Rattle.jn_lower_stmt.specs.Stating.{StepsOn, valued}
use Rattle.jn_lower_stmt.proofs.Piecing.{both_done, nothing_done, value_done}
use Rattle.jn_lower_stmt.proofs.pieces.effects.Goals as goal

pub loop-tree-preserved : goal.loop-tree-preserved
loop-tree-preserved c = λ g u all. c.loop-tree.invariant g u
    (subst (λ (es : PlacedTrees). StepsOn (effects c.args.c.now.program.now c.args.c.now.class.0 c.args.c.now.first c.loop-tree.s es) c.loop-tree.e g u) (sym (seen.left_before c.args.trees.now c.loop-tree.tree-index c.tree-item.result c.loop-tree-test.true c.tree-item.is))
    (both_done (with_value c.loop-tree.s (valued c.args.c.now c.loop-tree.s (placed_view c.tree-item.result))) (λ st. effects c.args.c.now.program.now c.args.c.now.class.0 c.args.c.now.first st (placed_views (drop (c.loop-tree.tree-index + 1) c.args.trees.now))) c.loop-tree.e c.evaluate.new.e g c.evaluate.new.s u
    (value_done (valued c.args.c.now c.loop-tree.s (placed_view c.tree-item.result)) c.loop-tree.s c.loop-tree.e c.evaluate.new.e c.in_ok-evaluate.field-0 c.evaluate.new.s c.in_ok-evaluate.ensures) all))

pub returns : goal.returns
returns c = c.loop-tree.invariant c.loop-tree.e c.loop-tree.s
    (subst (λ (es : PlacedTrees). StepsOn (effects c.args.c.now.program.now c.args.c.now.class.0 c.args.c.now.first c.loop-tree.s es) c.loop-tree.e c.loop-tree.e c.loop-tree.s) (sym (seen.none_left c.args.trees.now c.loop-tree.tree-index c.loop-tree-test.false)) (nothing_done c.loop-tree.e c.loop-tree.s))
