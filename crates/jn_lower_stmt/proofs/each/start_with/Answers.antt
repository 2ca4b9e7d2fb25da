use Rattle.std.proofs.Common.{None, subst, ◌+◌}
use Rattle.jn_base.specs.declared.number.RegNo.{RegNo}
use Rattle.jn_points.specs.declared.point.PointKind.TheVariants.{Move}
use Rattle.jn_places.specs.PlacedView.{placed_view}
use Rattle.jn_lowering.specs.Forms.{register}
use Rattle.jn_lowering.specs.Fragments.{does}
use Rattle.jn_lowering.specs.Statements.{each_start}
use Rattle.jn_lower_expr.specs.Lowering.{Runs}
use Rattle.jn_lower_stmt.specs.Stating.{valued}
use Rattle.jn_lower_stmt.proofs.Piecing.{point_done}
use Rattle.jn_lower_stmt.proofs.each.start_with.Goals as goal

pub returns : goal.returns
returns c = (
  c.in_ok-from.ensures.0,
  point_done (each_start c.args.c.now.program.now c.args.c.now.class.0 c.args.c.now.first c.in_ok-from.from.span c.args.array.0 (valued c.args.c.now c.args.s.now (placed_view c.args.tree.now))) c.args.s.now (λ o. Move (register (c.args.array.0 + 1)) o None) c.in_ok-from.from.span c.in_ok-from.from c.args.e.now c.started.new.e c.step.new.e c.started.new.s c.in_ok-from.ensures.1
      (subst (λ (r : RegNo). Runs (does c.in_ok-from.from.span (Move r c.in_ok-from.from None)) c.started.new.e c.step.new.e) c.in_ok-index.ensures c.in_ok-step.ensures),
)
