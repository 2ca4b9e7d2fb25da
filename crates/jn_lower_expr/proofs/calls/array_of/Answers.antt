use Rattle.std.proofs.Common.{refl}
use Rattle.jn_points.specs.declared.point.PointKind.TheVariants.{ArrayOf}
use Rattle.jn_lower_expr.proofs.Giving.{gave_all}
use Rattle.jn_lower_expr.proofs.calls.array_of.Goals as goal

pub returns : goal.returns
returns c = λ vs start g. record { gives = gave_all c.args.c.now.program.now c.args.c.now.first vs c.args.values c.args.base c.args.span (λ xs dst. ArrayOf dst c.args.base xs) c.in_ok-dst.dst start c.args.e.now c.step.new.e c.args.t.now c.temporary.new.t g c.in_ok-dst.ensures.register c.in_ok-dst.ensures.behind c.in_ok-step.ensures; typed = refl }
