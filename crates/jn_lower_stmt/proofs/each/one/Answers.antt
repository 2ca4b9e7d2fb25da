use Rattle.std.proofs.Common.{refl}
use Rattle.std.specs.Prelude.{pos}
use Rattle.jn_points.specs.declared.point.BaseType.TheVariants.{Int}
use Rattle.jn_points.specs.declared.point.Literal.TheVariants.{Int as IntOf}
use Rattle.jn_points.specs.declared.point.PointKind.TheVariants.{Const}
use Rattle.jn_lowering.specs.Fragments.{nothing}
use Rattle.jn_lower_expr.proofs.Giving.{rests}
use Rattle.jn_lower_stmt.proofs.Looping.{given_at}
use Rattle.jn_lower_stmt.proofs.each.one.Goals as goal

pub returns : goal.returns
returns c =
    given_at c.args.c.now.program.now c.args.c.now.first c.args.s.now c.args.s.now c.temporary.new.self c.args.s.now.temporaries nothing Int c.args.at (λ d. Const d (IntOf (pos 1))) c.in_ok-dst.dst c.args.e.now c.args.e.now c.step.new.e refl
    c.in_ok-dst.ensures.register c.in_ok-dst.ensures.behind (rests c.args.e.now) c.in_ok-step.ensures
