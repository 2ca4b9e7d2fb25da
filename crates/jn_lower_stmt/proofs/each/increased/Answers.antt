use Rattle.std.proofs.Common.{◌+◌, subst}
use Rattle.jn_base.specs.declared.number.RegNo.{RegNo}
use Rattle.jn_points.specs.declared.point.BaseType.TheVariants.{Int}
use Rattle.jn_points.specs.declared.point.Operator.TheVariants.{Add}
use Rattle.jn_points.specs.declared.point.PointKind.TheVariants.{Binary}
use Rattle.jn_lowering.specs.Forms.{operand}
use Rattle.jn_lowering.specs.Fragments.{does}
use Rattle.jn_lowering.specs.Statements.{each_one}
use Rattle.jn_lower_expr.specs.Lowering.{Runs}
use Rattle.jn_lower_stmt.proofs.Looping.{gave_at}
use Rattle.jn_lower_stmt.proofs.each.increased.Goals as goal

pub returns : goal.returns
returns c =
    gave_at c.args.c.now.program.now c.args.c.now.first (each_one c.args.c.now.program.now c.args.c.now.class.0 c.args.c.now.first c.args.at c.args.s.now.temporaries) c.in_ok-right.right c.args.s.now c.one.new.s c.temporary.new.self Int c.args.at (λ n d. Binary d Add (operand (c.args.array.0 + 1) c.args.at) n) c.in_ok-dst.dst c.args.e.now c.one.new.e c.step.new.e
    c.in_ok-right.ensures c.in_ok-dst.ensures.register c.in_ok-dst.ensures.behind
    (subst (λ (r : RegNo). Runs (does c.args.at (Binary c.in_ok-dst.dst Add (record { reg = r; span = c.args.at }) c.in_ok-right.right)) c.one.new.e c.step.new.e) c.in_ok-index.ensures c.in_ok-step.ensures)
