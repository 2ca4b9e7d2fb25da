use Rattle.std.proofs.Common.{◌+◌, refl, subst}
use Rattle.jn_base.specs.declared.number.RegNo.{RegNo}
use Rattle.jn_points.specs.declared.point.PointKind.TheVariants.{ElemRead}
use Rattle.jn_lowering.specs.Forms.{operand}
use Rattle.jn_lowering.specs.Fragments.{does, nothing}
use Rattle.jn_lower_expr.specs.Lowering.{Runs}
use Rattle.jn_lower_expr.proofs.Giving.{rests}
use Rattle.jn_lower_stmt.proofs.Looping.{given_at}
use Rattle.jn_lower_stmt.proofs.each.element.Goals as goal

pub returns : goal.returns
returns c =
    given_at c.args.c.now.program.now c.args.c.now.first c.args.s.now c.args.s.now c.temporary.new.self c.args.s.now.temporaries nothing c.args.base c.args.at (λ d. ElemRead d (operand c.args.array.0 c.args.at) (operand (c.args.array.0 + 1) c.args.at)) c.in_ok-dst.dst c.args.e.now c.args.e.now c.step.new.e refl
    c.in_ok-dst.ensures.register c.in_ok-dst.ensures.behind (rests c.args.e.now)
    (subst (λ (r : RegNo). Runs (does c.args.at (ElemRead c.in_ok-dst.dst (operand c.args.array.0 c.args.at) (record { reg = r; span = c.args.at }))) c.args.e.now c.step.new.e) c.in_ok-index.ensures c.in_ok-step.ensures)
