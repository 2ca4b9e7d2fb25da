use Rattle.std.proofs.Common.{refl, subst}
use Rattle.jn_points.specs.declared.point.BaseType.{BaseType}
use Rattle.jn_points.specs.declared.point.PointKind.TheVariants.{Const}
use Rattle.jn_lowering.specs.Fragments.{nothing}
use Rattle.jn_lowering.specs.Forms as form
use Rattle.jn_points.specs.declared.point.Literal as point_literal
use Rattle.jn_lower_expr.specs.Lowering.{Gives}
use Rattle.jn_lower_expr.proofs.Giving.{rests, given}
use Rattle.jn_lower_expr.proofs.values.literal.Goals as goal

pub returns : goal.returns
returns c = record {
  gives = subst (λ (b : BaseType). Gives (form.gives c.args.c.now.program.now c.args.c.now.first c.args.t.now nothing b c.args.span (λ dst. Const dst (form.constant c.args.literal))) c.args.e.now (record { reg = c.in_ok-dst.dst; span = c.args.span }) c.step.new.e c.temporary.new.t) c.literal_type-base.ensures
      (subst (λ (v : point_literal.Literal). Gives (form.gives c.args.c.now.program.now c.args.c.now.first c.args.t.now nothing c.literal_type-base.result c.args.span (λ dst. Const dst v)) c.args.e.now (record { reg = c.in_ok-dst.dst; span = c.args.span }) c.step.new.e c.temporary.new.t) c.constant-value.ensures
      (given c.args.c.now.program.now c.args.c.now.first c.args.t.now c.args.t.now nothing c.literal_type-base.result c.args.span (λ dst. Const dst c.constant-value.result) c.in_ok-dst.dst c.args.e.now c.args.e.now c.step.new.e c.temporary.new.t refl c.in_ok-dst.ensures.register c.in_ok-dst.ensures.behind (rests c.args.e.now) c.in_ok-step.ensures));
  typed = c.literal_type-base.ensures;
}
