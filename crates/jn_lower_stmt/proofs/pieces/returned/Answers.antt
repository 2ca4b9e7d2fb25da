use Rattle.std.proofs.Common.{sym, refl, subst, Option, Some, Box, Global}
use Rattle.jn_trees.specs.declared.expression.Expr.{Expr}
use Rattle.jn_points.specs.declared.point.PointKind.TheVariants.{Return}
use Rattle.jn_places.specs.PlacedView.{placed_optional, placed_view}
use Rattle.jn_lowering.specs.Statements.{returned}
use Rattle.jn_lower_stmt.specs.Stating.{GivesIn, StepsOn, valued}
use Rattle.jn_lower_stmt.proofs.Piecing.{point_done}
use Rattle.jn_lower_stmt.proofs.pieces.returned.Goals as goal

pub returns-in_ok-step-in-None : goal.returns-in_ok-step-in-None
returns-in_ok-step-in-None c =
    subst (λ (v : Option (Box Expr Global)). StepsOn (returned c.args.c.now.program.now c.args.c.now.class.0 c.args.c.now.first c.args.span c.args.s.now (placed_optional v)) c.args.e.now c.step.new.e c.args.s.now) (sym c.in-None.is)
    (record { runs = c.in_ok-step-in-None.ensures; behind = refl })

pub returns-in_ok-step-in-Some : goal.returns-in_ok-step-in-Some
returns-in_ok-step-in-Some c =
    subst (λ (v : Option (Box Expr Global)). StepsOn (returned c.args.c.now.program.now c.args.c.now.class.0 c.args.c.now.first c.args.span c.args.s.now (placed_optional v)) c.args.e.now c.step-in-Some.new.e c.evaluate.new.s) (sym c.in-Some.is)
    (point_done (valued c.args.c.now c.args.s.now (placed_view c.in-Some.tree.value)) c.args.s.now (λ o. Return (Some o)) c.args.span c.in_ok-given-in-Some.given c.args.e.now c.evaluate.new.e c.step-in-Some.new.e c.evaluate.new.s
    (subst (λ (x : Expr). GivesIn (valued c.args.c.now c.args.s.now (placed_view x)) c.args.s.now c.args.e.now c.in_ok-given-in-Some.given c.evaluate.new.e c.evaluate.new.s) c.deref.ensures c.in_ok-given-in-Some.ensures) c.in_ok-step-in-Some.ensures)
