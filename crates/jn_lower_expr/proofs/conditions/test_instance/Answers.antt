use Rattle.std.proofs.Common.{refl}
use Rattle.jn_points.specs.declared.point.PointKind.TheVariants.{TestInst}
use Rattle.jn_lower_expr.proofs.Emitting.{one}
use Rattle.jn_lower_expr.proofs.Composing.{tested_by}
use Rattle.jn_lower_expr.proofs.conditions.test_instance.Goals as goal

pub returns : goal.returns
returns c = λ t v start g. tested_by v c.args.of c.args.span (λ x first second. TestInst x c.args.class c.args.origin first second) c.args.yes.0 c.args.no.0 start c.args.e.now c.put.new.e t g (one _ _ _ _ _ _ _ _ c.in_ok-put.ensures.points c.in_ok-put.ensures.labels refl (λ σ. refl))
