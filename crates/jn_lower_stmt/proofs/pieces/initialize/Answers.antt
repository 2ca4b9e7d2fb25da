use Rattle.std.proofs.Common.{ap, sym, subst, Option, Box, Global}
use Rattle.jn_trees.specs.declared.expression.Expr.{Expr}
use Rattle.jn_points.specs.declared.point.PointKind.TheVariants.{Move}
use Rattle.jn_places.specs.PlacedView.{placed_optional, placed_view}
use Rattle.jn_lowering.specs.Statements.{initialized, through}
use Rattle.jn_lowering.specs.Expressions.{span_of}
use Rattle.jn_scopes.specs.Views.{bound_of}
use Rattle.jn_lower_stmt.specs.Stating.{GivesIn, StepsOn, valued}
use Rattle.jn_lower_stmt.proofs.Piecing.{point_done}
use Rattle.jn_quals.specs.Qualifier.{Qualifier}
use Rattle.jn_base.specs.declared.place.Span.{Span}
use Rattle.std.proofs.Common.{◌∙◌}
use Rattle.jn_lower_expr.specs.Lowering.{Runs}
use Rattle.jn_lowering.specs.Fragments.{does}
use Rattle.jn_lower_stmt.proofs.pieces.initialize.Goals as goal

pub returns-in_ok-step-in-Some : goal.returns-in_ok-step-in-Some
returns-in_ok-step-in-Some c =
    subst (λ (v : Option (Box Expr Global)). StepsOn (initialized c.args.c.now.program.now c.args.c.now.class.0 c.args.c.now.first c.args.name c.args.reg.0 (bound_of c.args.kind.bound) c.args.s.now (placed_optional v)) c.args.e.now c.step.new.e c.evaluate.new.s) (sym c.in-Some.is)
    (point_done (valued c.args.c.now c.args.s.now (placed_view c.in-Some.tree.value)) c.args.s.now (λ o. Move c.args.reg o (bound_of c.args.kind.bound)) (through c.args.name (span_of (placed_view c.in-Some.tree.value))) c.in_ok-given-in-Some.given c.args.e.now c.evaluate.new.e c.step.new.e c.evaluate.new.s
    (subst (λ (x : Expr). GivesIn (valued c.args.c.now c.args.s.now (placed_view x)) c.args.s.now c.args.e.now c.in_ok-given-in-Some.given c.evaluate.new.e c.evaluate.new.s) c.deref.ensures c.in_ok-given-in-Some.ensures)
    (subst (λ (b : Option Qualifier). Runs (does (through c.args.name (span_of (placed_view c.in-Some.tree.value))) (Move c.args.reg c.in_ok-given-in-Some.given b)) c.evaluate.new.e c.step.new.e) c.qualifier.ensures
    (subst (λ (x : Span). Runs (does x (Move c.args.reg c.in_ok-given-in-Some.given c.qualifier.result)) c.evaluate.new.e c.step.new.e) (c.through.ensures ∙ ap (λ (x : Span). through c.args.name x) c.span_of.ensures ∙ ap (λ (x : Expr). through c.args.name (span_of (placed_view x))) c.deref-in-Some.ensures) c.in_ok-step-in-Some.ensures)))
