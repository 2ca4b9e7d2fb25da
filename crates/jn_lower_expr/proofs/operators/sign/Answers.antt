use Rattle.std.proofs.Common.{refl}
use Rattle.jn_points.specs.declared.point.BaseType.TheVariants.{Int}
use Rattle.jn_points.specs.declared.point.PointKind.TheVariants.{Unary}
use Rattle.jn_lower_expr.proofs.Giving.{gave}
use Rattle.jn_lower_expr.proofs.operators.sign.Goals as goal

pub returns : goal.returns
returns c = λ v start g. record { gives = gave c.args.c.now.program.now c.args.c.now.first v c.args.of Int c.args.span (λ x dst. Unary dst c.args.negate x) c.in_ok-dst.dst start c.args.e.now c.step.new.e c.args.t.now c.temporary.new.t g c.in_ok-dst.ensures.register c.in_ok-dst.ensures.behind c.in_ok-step.ensures; typed = refl }
