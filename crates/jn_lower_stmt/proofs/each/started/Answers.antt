use Rattle.std.proofs.Common.{ap}
use Rattle.jn_points.specs.declared.point.Operand.{Operand}
use Rattle.jn_places.specs.PlacedView.{placed_view}
use Rattle.jn_lower_stmt.specs.Stating.{valued}
use Rattle.jn_lower_stmt.proofs.Looping.{started_by}
use Rattle.jn_lower_stmt.proofs.each.started.Goals as goal

pub returns : goal.returns
returns c = (
  ap (λ (o : Operand). o.span) c.in_ok-given.ensures.operand,
  started_by c.args.c.now.program.now c.args.c.now.class.0 c.args.c.now.first (valued c.args.c.now c.args.s.now (placed_view c.args.tree.now)) c.args.s.now c.evaluate.new.s c.temporary.new.self c.args.array c.in_ok-given.given c.in_ok-dst.dst c.args.e.now c.evaluate.new.e c.step.new.e c.step-2.new.e
      c.in_ok-given.ensures c.in_ok-step.ensures c.in_ok-dst.ensures.register c.in_ok-dst.ensures.behind c.in_ok-step-2.ensures,
)
