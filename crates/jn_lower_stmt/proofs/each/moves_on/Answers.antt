use Rattle.std.proofs.Common.{◌+◌, None, subst}
use Rattle.jn_base.specs.declared.number.RegNo.{RegNo}
use Rattle.jn_points.specs.declared.point.PointKind.TheVariants.{Move}
use Rattle.jn_lowering.specs.Forms.{register}
use Rattle.jn_lowering.specs.Fragments.{does}
use Rattle.jn_lowering.specs.Statements.{each_next, each_one}
use Rattle.jn_lower_expr.specs.Lowering.{Runs}
use Rattle.jn_lower_stmt.proofs.Piecing.{point_done}
use Rattle.jn_lower_stmt.proofs.each.moves_on.Goals as goal

pub returns : goal.returns
returns c =
    point_done (each_next c.args.c.now.program.now c.args.c.now.class.0 c.args.c.now.first c.args.at c.args.array.0 (each_one c.args.c.now.program.now c.args.c.now.class.0 c.args.c.now.first c.args.at c.args.s.now.temporaries)) c.args.s.now (λ o. Move (register (c.args.array.0 + 1)) o None) c.args.at c.in_ok-from.from c.args.e.now c.increased.new.e c.step.new.e c.increased.new.s c.in_ok-from.ensures
    (subst (λ (r : RegNo). Runs (does c.args.at (Move r c.in_ok-from.from None)) c.increased.new.e c.step.new.e) c.in_ok-index.ensures c.in_ok-step.ensures)
