use Rattle.std.proofs.Common.{sym, subst, drop, ◌+◌, List}
use Rattle.jn_places.specs.Placed.{PlacedDeclarator}
use Rattle.jn_places.specs.PlacedView.{placed_declarator, placed_declarators}
use Rattle.jn_lowering.specs.Statements.{declarator, declarators}
use Rattle.jn_scopes.specs.Views.{bound_of}
use Rattle.jn_lower_stmt.specs.Views.{rows_of}
use Rattle.jn_lower_stmt.specs.Stating.{StepsOn}
use Rattle.jn_lower_stmt.proofs.Piecing.{both_done, left_before, none_left, nothing_done}
use Rattle.jn_lower_stmt.proofs.pieces.declarators.Goals as goal

pub loop-tree-preserved : goal.loop-tree-preserved
loop-tree-preserved c = λ g u all. c.loop-tree.invariant g u
    (subst (λ (ds : List PlacedDeclarator). StepsOn (declarators c.args.c.now.program.now c.args.c.now.class.0 c.args.c.now.first c.args.kind.base (bound_of c.args.kind.bound) c.args.is_final (rows_of c.args.kind.fault) c.loop-tree.s ds) c.loop-tree.e g u) (sym (left_before placed_declarator c.args.trees.now c.loop-tree.tree-index c.tree-item.result c.loop-tree-test.true c.tree-item.is))
    (both_done (declarator c.args.c.now.program.now c.args.c.now.class.0 c.args.c.now.first c.args.kind.base (bound_of c.args.kind.bound) c.args.is_final (rows_of c.args.kind.fault) c.loop-tree.s (placed_declarator c.tree-item.result)) (λ st. declarators c.args.c.now.program.now c.args.c.now.class.0 c.args.c.now.first c.args.kind.base (bound_of c.args.kind.bound) c.args.is_final (rows_of c.args.kind.fault) st (placed_declarators (drop (c.loop-tree.tree-index + 1) c.args.trees.now))) c.loop-tree.e c.declarator.new.e g c.declarator.new.s u
    c.in_ok-declarator.ensures all))

pub returns : goal.returns
returns c = c.loop-tree.invariant c.loop-tree.e c.loop-tree.s
    (subst (λ (ds : List PlacedDeclarator). StepsOn (declarators c.args.c.now.program.now c.args.c.now.class.0 c.args.c.now.first c.args.kind.base (bound_of c.args.kind.bound) c.args.is_final (rows_of c.args.kind.fault) c.loop-tree.s ds) c.loop-tree.e c.loop-tree.e c.loop-tree.s) (sym (none_left placed_declarator c.args.trees.now c.loop-tree.tree-index c.loop-tree-test.false)) (nothing_done c.loop-tree.e c.loop-tree.s))
