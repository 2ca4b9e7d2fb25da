use Rattle.std.proofs.Common.{sym, subst, drop, ◌+◌, List}
use Rattle.jn_places.specs.Placed.{PlacedMember}
use Rattle.jn_places.specs.PlacedView.{placed_member, placed_members}
use Rattle.jn_lowering.specs.Bodies as spec
use Rattle.jn_lower_stmt.specs.Stating.{StepsOn}
use Rattle.jn_lower_stmt.proofs.Piecing.{both_done, left_before, none_left, nothing_done}
use Rattle.jn_lower_stmt.proofs.construction.initializers.Goals as goal

pub loop-tree-preserved : goal.loop-tree-preserved
loop-tree-preserved c = λ g u all. c.loop-tree.invariant g u
    (subst (λ (ds : List PlacedMember). StepsOn (spec.initializers c.args.c.now.program.now c.args.method.0 c.args.c.now.first c.loop-tree.s ds) c.loop-tree.e g u) (sym (left_before placed_member c.args.trees.now c.loop-tree.tree-index c.tree-item.result c.loop-tree-test.true c.tree-item.is))
    (both_done (spec.initializers_of c.args.c.now.program.now c.args.method.0 c.args.c.now.first c.loop-tree.s (spec.declarators_of (placed_member c.tree-item.result))) (λ st. spec.initializers c.args.c.now.program.now c.args.method.0 c.args.c.now.first st (placed_members (drop (c.loop-tree.tree-index + 1) c.args.trees.now))) c.loop-tree.e c.member_initializers.new.e g c.member_initializers.new.s u c.in_ok-member_initializers.ensures all))

pub returns : goal.returns
returns c = c.loop-tree.invariant c.loop-tree.e c.loop-tree.s
    (subst (λ (ds : List PlacedMember). StepsOn (spec.initializers c.args.c.now.program.now c.args.method.0 c.args.c.now.first c.loop-tree.s ds) c.loop-tree.e c.loop-tree.e c.loop-tree.s) (sym (none_left placed_member c.args.trees.now c.loop-tree.tree-index c.loop-tree-test.false)) (nothing_done c.loop-tree.e c.loop-tree.s))
