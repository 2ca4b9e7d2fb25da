use Rattle.std.proofs.Common.{◌+◌, Option, subst}
use Rattle.jn_base.specs.declared.number.RegNo.{RegNo}
use Rattle.jn_quals.specs.Qualifier.{Qualifier}
use Rattle.jn_points.specs.declared.point.BaseType.{BaseType}
use Rattle.jn_points.specs.declared.point.PointKind.TheVariants.{Move}
use Rattle.jn_points.specs.Lookup.{elem_base}
use Rattle.jn_lowering.specs.Forms.{register}
use Rattle.jn_lowering.specs.Fragments.{does}
use Rattle.jn_lowering.specs.Statements.{each_element}
use Rattle.jn_scopes.specs.Views.{bound_of}
use Rattle.jn_lower_expr.specs.Lowering.{Runs}
use Rattle.jn_lower_stmt.specs.Stating.{GivesIn}
use Rattle.jn_lower_stmt.proofs.Piecing.{point_done}
use Rattle.jn_lower_stmt.proofs.each.item.Goals as goal

pub returns : goal.returns
returns c =
    point_done (each_element c.args.c.now.program.now c.args.c.now.class.0 c.args.c.now.first c.args.at c.args.array.0 (elem_base c.args.base) c.args.s.now.temporaries) c.args.s.now (λ o. Move (register (c.args.array.0 + 2)) o (bound_of c.args.bound)) c.args.at c.in_ok-from.from c.args.e.now c.element.new.e c.step.new.e c.element.new.s
    (subst (λ (b : BaseType). GivesIn (each_element c.args.c.now.program.now c.args.c.now.class.0 c.args.c.now.first c.args.at c.args.array.0 b c.args.s.now.temporaries) c.args.s.now c.args.e.now c.in_ok-from.from c.element.new.e c.element.new.s) c.elem_base.ensures c.in_ok-from.ensures)
    (subst (λ (r : RegNo). Runs (does c.args.at (Move r c.in_ok-from.from (bound_of c.args.bound))) c.element.new.e c.step.new.e) c.in_ok-local.ensures
    (subst (λ (b : Option Qualifier). Runs (does c.args.at (Move c.in_ok-local.local c.in_ok-from.from b)) c.element.new.e c.step.new.e) c.qualifier-bound.ensures c.in_ok-step.ensures))
