use Rattle.std.proofs.Common.{ap, ◌∙◌, subst}
use Rattle.jn_points.specs.declared.point.BaseType.{BaseType}
use Rattle.jn_points.specs.declared.point.PointKind.{PointKind}
use Rattle.jn_lowering.specs.Fragments.{does, then}
use Rattle.jn_lowering.specs.Forms as form
use Rattle.jn_lower_expr.specs.Lowering.{Runs, Gives, is_plain}
use Rattle.jn_lower_expr.proofs.Giving.{gave_two}
use Rattle.jn_lower_expr.proofs.Composing.{binary_plain}
use Rattle.jn_lower_expr.proofs.operators.combine.Goals as goal

pub step-requires : goal.step-requires
step-requires c = record { plain = ap is_plain c.binary_kind-kind.ensures ∙ binary_plain c.args.operator c.args.left.base c.args.right.base c.args.left.operand c.args.right.operand c.in_ok-dst.dst }

pub returns : goal.returns
returns c = λ l r start g. record {
  gives = subst (λ (b : BaseType). Gives (form.gives c.args.c.now.program.now c.args.c.now.first r.behind (then l.fragment r.fragment) b c.args.span (form.binary_kind c.args.operator c.args.left.base c.args.right.base l.operand r.operand)) start (record { reg = c.in_ok-dst.dst; span = c.args.span }) c.step.new.e c.temporary.new.t) c.binary_type-base.ensures
      (gave_two c.args.c.now.program.now c.args.c.now.first l r c.args.left.operand c.args.right.operand c.binary_type-base.result c.args.span (form.binary_kind c.args.operator c.args.left.base c.args.right.base) c.in_ok-dst.dst start c.args.e.now c.step.new.e c.args.t.now c.temporary.new.t g c.in_ok-dst.ensures.register c.in_ok-dst.ensures.behind (subst (λ (k : PointKind). Runs (does c.args.span k) c.args.e.now c.step.new.e) c.binary_kind-kind.ensures c.in_ok-step.ensures));
  typed = c.binary_type-base.ensures;
}
