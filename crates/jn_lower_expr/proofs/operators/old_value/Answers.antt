use Rattle.std.proofs.Common.{refl, sym, ap, ◌∙◌, subst, None}
use Rattle.jn_points.specs.declared.point.Operand.{Operand}
use Rattle.jn_points.specs.declared.point.PointKind.TheVariants.{Move}
use Rattle.jn_lowering.specs.Forms as form
use Rattle.jn_lower_expr.specs.Lowering.{Gives, spot_of}
use Rattle.jn_lower_expr.proofs.Giving.{gave}
use Rattle.jn_lower_expr.proofs.Composing.{old_local, old_other}
use Rattle.jn_lower_expr.proofs.operators.old_value.Goals as goal

pub returns-in_ok-step : goal.returns-in_ok-step
returns-in_ok-step c = λ v start g. record {
  gives = subst (λ (w : form.Value). Gives w start (record { reg = c.in_ok-dst.dst; span = c.args.span }) c.step.new.e c.temporary.new.t) (sym (old_local c.args.c.now.program.now c.args.c.now.first (spot_of c.args.c.now.faults.now c.args.place.now.spot) c.args.place.now.base c.args.span v (sym (c.is_local_spot.ensures c.args.c.now.faults.now) ∙ c.if-is_local_spot.true)))
      (gave c.args.c.now.program.now c.args.c.now.first v c.args.given c.args.place.now.base c.args.span (λ x dst. Move dst x None) c.in_ok-dst.dst start c.args.e.now c.step.new.e c.args.t.now c.temporary.new.t g c.in_ok-dst.ensures.register c.in_ok-dst.ensures.behind c.in_ok-step.ensures);
  typed = refl;
}

pub returns-else-is_local_spot : goal.returns-else-is_local_spot
returns-else-is_local_spot c = λ v start g. record {
  gives = subst (λ (w : form.Value). Gives w start (record { reg = c.args.given.reg; span = c.args.span }) c.args.e.now c.args.t.now) (sym (old_other c.args.c.now.program.now c.args.c.now.first (spot_of c.args.c.now.faults.now c.args.place.now.spot) c.args.place.now.base c.args.span v (sym (c.is_local_spot.ensures c.args.c.now.faults.now) ∙ c.if-is_local_spot.false)))
      (record { runs = g.runs; operand = ap (λ (x : Operand). record { reg = x.reg; span = c.args.span }) g.operand; behind = g.behind });
  typed = refl;
}
