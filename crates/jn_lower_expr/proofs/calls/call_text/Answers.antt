use Rattle.std.proofs.Common.{ap, ◌∙◌, subst, Option}
use Rattle.jn_points.specs.declared.point.BaseType.{BaseType}
use Rattle.jn_points.specs.declared.point.Operand.{Operand}
use Rattle.jn_points.specs.declared.point.PointKind.TheVariants.{StrOp}
use Rattle.jn_lowering.specs.Fragments.{does, then}
use Rattle.jn_lowering.specs.Forms as form
use Rattle.jn_lowering.specs.Calls as call
use Rattle.jn_lower_expr.specs.Lowering.{Runs, Gives}
use Rattle.jn_lower_expr.proofs.Giving.{gave_with}
use Rattle.jn_lower_expr.proofs.calls.call_text.Goals as goal

pub returns : goal.returns
returns c = λ v vs start g. record {
  gives = subst (λ (b : BaseType). Gives (form.gives c.args.c.now.program.now c.args.c.now.first vs.behind (then v.fragment vs.fragment) b c.args.span (λ dst. StrOp dst c.args.op v.operand (call.first_of_operands vs.values))) start (record { reg = c.in_ok-dst.dst; span = c.args.span }) c.step.new.e c.temporary.new.t) c.operation_base-base.ensures
      (gave_with c.args.c.now.program.now c.args.c.now.first v vs c.args.of c.args.args c.operation_base-base.result c.args.span (λ x os dst. StrOp dst c.args.op x (call.first_of_operands os)) c.in_ok-dst.dst start c.args.e.now c.step.new.e c.args.t.now c.temporary.new.t g c.in_ok-dst.ensures.register c.in_ok-dst.ensures.behind
      (subst (λ (x : Option Operand). Runs (does c.args.span (StrOp c.in_ok-dst.dst c.args.op c.args.of x)) c.args.e.now c.step.new.e) (c.first_of-other.ensures ∙ ap call.first_of_operands c.as_slice.ensures) c.in_ok-step.ensures));
  typed = c.operation_base-base.ensures;
}
